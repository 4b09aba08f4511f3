use Rattle.std.proofs.Common.{arith}
use Rattle.fort_class_blocks.proofs.CellLaws.{cell_below, one_read, all_read}
use Rattle.fort_class_blocks.proofs.shape.number.Goals as goal

pub bounds-counts-i : goal.bounds-counts-i
bounds-counts-i c = (one_read c.args.counts.now c.args.classes.now c.loop-i.i c.loop-i.number (omega (arith, c.loop-i-test.true)) c.loop-i.invariant).place

pub overflow_mul-number : goal.overflow_mul-number
overflow_mul-number c =
    let next = one_read c.args.counts.now c.args.classes.now c.loop-i.i c.loop-i.number (omega (arith, c.loop-i-test.true)) c.loop-i.invariant in
    omega (arith, next.few, cell_below c.args.counts.now c.args.classes.now c.requires.classes, c.requires.few)

pub overflow_add-number : goal.overflow_add-number
overflow_add-number c =
    let next = one_read c.args.counts.now c.args.classes.now c.loop-i.i c.loop-i.number (omega (arith, c.loop-i-test.true)) c.loop-i.invariant in
    omega (arith, next.few, cell_below c.args.counts.now c.args.classes.now c.requires.classes, c.requires.few)

pub loop-i-preserved : goal.loop-i-preserved
loop-i-preserved c = (one_read c.args.counts.now c.args.classes.now c.loop-i.i c.loop-i.number (omega (arith, c.loop-i-test.true)) c.loop-i.invariant).read

pub returns : goal.returns
returns c = all_read c.args.counts.now c.args.classes.now c.loop-i.i c.loop-i.number (omega (arith, c.loop-i-test.false)) c.loop-i.invariant
