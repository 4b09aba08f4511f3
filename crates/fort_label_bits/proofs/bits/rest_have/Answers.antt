use Rattle.std.proofs.Common.{true, false, ◌<◌, length, sym, ap, ◌∙◌, arith}
use Rattle.fort_label_bits.specs.RowBits.{bit_of}
use Rattle.fort_label_bits.proofs.RowBitLaws.{all_kids-child}
use Rattle.fort_label_bits.proofs.bits.rest_have.Goals as goal

pub returns-then-not-has_mark : goal.returns-then-not-has_mark
returns-then-not-has_mark c =
    let child : c.loop-j.j < length c.args.row.now.kids = omega (arith, c.loop-j-test.true, ap length c.kids-kids.ensures.states) in
    let bit = rw (c.label.ensures, c.kids-kids.ensures.states) at (c.if-not-has_mark.ensures) in
    sym (c.loop-j.invariant.1 ∙ all_kids-child (bit_of c.args.bit) c.args.rows.now.labels c.args.row.now.kids c.loop-j.j false child bit)

pub loop-j-preserved : goal.loop-j-preserved
loop-j-preserved c =
    let child : c.loop-j.j < length c.args.row.now.kids = omega (arith, c.loop-j-test.true, ap length c.kids-kids.ensures.states) in
    let bit = rw (c.label.ensures, c.kids-kids.ensures.states) at (c.if-not-has_mark.ensures) in
    (omega (arith, c.loop-j.invariant.0), c.loop-j.invariant.1 ∙ all_kids-child (bit_of c.args.bit) c.args.rows.now.labels c.args.row.now.kids c.loop-j.j true child bit)
