use Rattle.std.proofs.Common.{true, false, [], List, ℕ, ◌<◌, map, length, get_or, sym, ap, ◌∙◌, arith}
use Rattle.std.proofs.lemmas.List.{length-map}
use Rattle.fort_label_bits.proofs.NumberedLaws.{all_at-short, all_at-child}
use Rattle.fort_label_bits.proofs.numbered.are_inside.Goals as goal

pub returns-then-kids-places : goal.returns-then-kids-places
returns-then-kids-places c =
    let labels : List (List ℕ) = map (λ q. get_or c.args.rows.now.labels q []) c.args.row.now.kids in
    sym (all_at-short c.args.base c.args.places.now labels
    (omega (arith, c.if-kids-places.true, ap length c.kids-kids.ensures.states, length-map c.args.row.now.kids (λ q. get_or c.args.rows.now.labels q []))))

pub returns-then-not-has_mark : goal.returns-then-not-has_mark
returns-then-not-has_mark c =
    let child : c.loop-j.j < length c.args.row.now.kids = omega (arith, c.loop-j-test.true, c.if-kids-places.false, ap length c.kids-kids.ensures.states) in
    let bit = rw (c.label.ensures, c.kids-kids.ensures.states) at (c.if-not-has_mark.ensures) in
    sym (c.loop-j.invariant
    ∙ all_at-child c.args.base c.args.places.now c.args.rows.now.labels c.args.row.now.kids c.loop-j.j false c.loop-j-test.true child bit)

pub loop-j-preserved : goal.loop-j-preserved
loop-j-preserved c =
    let child : c.loop-j.j < length c.args.row.now.kids = omega (arith, c.loop-j-test.true, c.if-kids-places.false, ap length c.kids-kids.ensures.states) in
    let bit = rw (c.label.ensures, c.kids-kids.ensures.states) at (c.if-not-has_mark.ensures) in
    c.loop-j.invariant
    ∙ all_at-child c.args.base c.args.places.now c.args.rows.now.labels c.args.row.now.kids c.loop-j.j true c.loop-j-test.true child bit
