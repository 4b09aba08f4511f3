use Rattle.std.proofs.Common.{◌≡◌, ap, sym, ◌∙◌, length, arith, ◌<◌, ◌+◌, ◌++◌, ◌∷◌, [], suc, length-append}
use Rattle.fort_tables.specs.Pieces.{pieces}
use Rattle.fort_labels.specs.RowsView.{Labels}
use Rattle.fort_tables.proofs.PieceLaws.{length-pieces, piece_within, pieces_push}
use Rattle.fort_labels.proofs.rows.Rows.push.Goals as goal

pub invariant_of-self : goal.invariant_of-self
invariant_of-self c =
    let a = c.self.inside in
    let width = ap (λ (r : Labels). r.width) c.self.view_is in
    let room = ap (λ (r : Labels). r.room) c.self.view_is in
    let count = ap (λ (r : Labels). length r.labels) c.self.view_is in
    let pieces_are = length-pieces a.width a.count a.words.items in
    record {
      some = c.self.invariant.some;
      size = omega (arith, c.in-Ok.ensures.len, c.self.invariant.size, c.requires.width);
      words = omega (arith, ap length c.in-Ok.ensures.items, length-append a.words.items c.args.label.now, c.self.invariant.words, c.requires.width);
      within = omega (arith, c.requires.room);
      reserved = omega (arith, c.in-Ok.ensures.capacity, c.self.invariant.reserved);
    }

pub unreachable-requires : goal.unreachable-requires
unreachable-requires c =
    let a = c.self.inside in
    let width = ap (λ (r : Labels). r.width) c.self.view_is in
    let room = ap (λ (r : Labels). r.room) c.self.view_is in
    let count = ap (λ (r : Labels). length r.labels) c.self.view_is in
    let pieces_are = length-pieces a.width a.count a.words.items in
    let l : a.count < a.room = omega (arith, c.requires.room) in
    omega (arith, c.in-Err.ensures.full, piece_within a.count a.room a.width l, c.self.invariant.reserved, c.self.invariant.size, c.requires.width)

pub returns-clause-labels : goal.returns-clause-labels
returns-clause-labels c =
    let a = c.self.inside in
    let width = ap (λ (r : Labels). r.width) c.self.view_is in
    let n : a.count + 1 ≡ suc a.count = omega arith in
    ap (λ k. pieces a.width k c.extend_from_slice.new.self.items) n
    ∙ (ap (pieces a.width (suc a.count)) c.in-Ok.ensures.items
    ∙ (pieces_push a.width a.count a.words.items c.args.label.now c.self.invariant.words (c.requires.width ∙ sym width)
    ∙ ap (λ (r : Labels). r.labels ++ c.args.label.now ∷ []) c.self.view_is))
