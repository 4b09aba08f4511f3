use Rattle.std.proofs.Common.{◌≡◌, ◌<◌, ◌+◌, ◌*◌, ◌-◌, ap, sym, ◌∙◌, length, get_or, take, drop, [], arith, ℕ, List}
use Rattle.fort_tables.specs.Pieces.{pieces}
use Rattle.fort_labels.specs.RowsView.{Labels}
use Rattle.fort_tables.proofs.PieceLaws.{length-pieces, piece_within, get_or-pieces}
use Rattle.fort_labels.proofs.rows.Rows.label.Goals as goal

there : (q w n : ℕ) (xs : List ℕ) (r : Labels) {room space : ℕ} → record { width = w; room = room; space = space; labels = pieces w n xs } ≡ r → q < length r.labels → q < n
there q w n xs r e h = let l = ap (λ (x : Labels). length x.labels) e in omega (arith, length-pieces w n xs)

pub overflow_mul-from : goal.overflow_mul-from
overflow_mul-from c = omega (arith, piece_within c.args.q c.self.inside.count c.self.inside.width (there c.args.q c.self.inside.width c.self.inside.count c.self.inside.words.items c.args.self.now c.self.view_is c.requires), c.self.invariant.size, c.as_slice-words.ensures.len, c.as_slice-words.type_inv)

pub overflow_add-result : goal.overflow_add-result
overflow_add-result c = omega (arith, piece_within c.args.q c.self.inside.count c.self.inside.width (there c.args.q c.self.inside.width c.self.inside.count c.self.inside.words.items c.args.self.now c.self.view_is c.requires), c.self.invariant.size, c.as_slice-words.ensures.len, c.as_slice-words.type_inv)

pub offset_bounds-words-from : goal.offset_bounds-words-from
offset_bounds-words-from c = omega (arith, piece_within c.args.q c.self.inside.count c.self.inside.width (there c.args.q c.self.inside.width c.self.inside.count c.self.inside.words.items c.args.self.now c.self.view_is c.requires), c.self.invariant.size, c.as_slice-words.ensures.len, c.as_slice-words.type_inv)

pub slice_bounds-result-end : goal.slice_bounds-result-end
slice_bounds-result-end c = omega (arith, piece_within c.args.q c.self.inside.count c.self.inside.width (there c.args.q c.self.inside.width c.self.inside.count c.self.inside.words.items c.args.self.now c.self.view_is c.requires), c.self.invariant.size, c.as_slice-words.ensures.len, c.as_slice-words.type_inv)

pub returns : goal.returns
returns c =
    let q = c.args.q in
    let w = c.self.inside.width in
    let n = c.self.inside.count in
    let xs = c.self.inside.words.items in
    let e : q * w + w - q * w ≡ w = omega arith in
    ap (λ k. take k (drop (q * w) c.as_slice-words.result.now)) e
    ∙ (ap (λ ys. take w (drop (q * w) ys)) c.as_slice-words.ensures.value
    ∙ (sym (get_or-pieces w n q xs (there q w n xs c.args.self.now c.self.view_is c.requires))
    ∙ ap (λ (r : Labels). get_or r.labels q []) c.self.view_is))
