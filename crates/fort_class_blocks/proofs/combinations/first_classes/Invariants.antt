use Rattle.std.proofs.Common.{ℕ, ◌<◌, get_or}
use Rattle.fort_class_blocks.proofs.combinations.first_classes.Given as goal

abbrev pub invariant-loop-count : goal.invariant-loop-count
invariant-loop-count l = (j : ℕ) → j < l.count-index → 0 < get_or l.counts j 0
