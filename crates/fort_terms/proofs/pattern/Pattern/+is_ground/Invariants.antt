use Rattle.std.proofs.Common.{take}
use Rattle.fort_theory.specs.RightGround.{AreGroundPatterns}
use Rattle.fort_terms.specs.PatternView.{as_patterns}
use Rattle.fort_terms.proofs.pattern.Pattern.+is_ground.Given as goal

abbrev pub invariant-loop-arg : goal.invariant-loop-arg
invariant-loop-arg l = AreGroundPatterns (as_patterns (take l.arg-index l.arg-items))
