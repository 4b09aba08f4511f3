use Rattle.std.proofs.Common.{true, false, ◌<◌, length, sym, ap, ◌∙◌, arith, refl}
use Rattle.fort_label_bits.specs.RowBits.{bit_of}
use Rattle.fort_label_bits.proofs.RowBitLaws.{one_kid-child}
use Rattle.fort_label_bits.proofs.bits.one_has.Goals as goal

pub returns-then-only_has : goal.returns-then-only_has
returns-then-only_has c =
    let child : c.loop-j.j < length c.args.row.now.kids = omega (arith, c.loop-j-test.true, ap length c.kids-kids.ensures.states) in
    sym (c.loop-j.invariant
    ∙ one_kid-child (bit_of c.args.bit) (bit_of c.args.other) c.args.rows.now.labels c.args.row.now.kids c.loop-j.j true _ child c.if-only_has.ensures refl)

pub returns-then-not-has_mark : goal.returns-then-not-has_mark
returns-then-not-has_mark c =
    let child : c.loop-j.j < length c.args.row.now.kids = omega (arith, c.loop-j-test.true, ap length c.kids-kids.ensures.states) in
    let bit = rw (c.label.ensures, c.kids-kids.ensures.states) at (c.if-not-has_mark.ensures) in
    sym (c.loop-j.invariant
    ∙ one_kid-child (bit_of c.args.bit) (bit_of c.args.other) c.args.rows.now.labels c.args.row.now.kids c.loop-j.j false false child c.if-only_has.ensures bit)

pub loop-j-preserved : goal.loop-j-preserved
loop-j-preserved c =
    let child : c.loop-j.j < length c.args.row.now.kids = omega (arith, c.loop-j-test.true, ap length c.kids-kids.ensures.states) in
    let bit = rw (c.label.ensures, c.kids-kids.ensures.states) at (c.if-not-has_mark.ensures) in
    c.loop-j.invariant
    ∙ one_kid-child (bit_of c.args.bit) (bit_of c.args.other) c.args.rows.now.labels c.args.row.now.kids c.loop-j.j false true child c.if-only_has.ensures bit
