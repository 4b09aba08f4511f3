use Rattle.fort_class_blocks.proofs.CellLaws.{HasRead}
use Rattle.fort_class_blocks.proofs.shape.number.Given as goal

abbrev pub invariant-loop-i : goal.invariant-loop-i
invariant-loop-i l = HasRead l.counts l.classes l.i l.number
