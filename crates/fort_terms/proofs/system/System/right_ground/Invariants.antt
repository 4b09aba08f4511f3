use Rattle.std.proofs.Common.{take}
use Rattle.std.specs.Prelude.{All}
use Rattle.fort_terms.proofs.GroundPatterns.{HasGroundRight}
use Rattle.fort_terms.proofs.system.System.right_ground.Given as goal

abbrev pub invariant-loop-rule : goal.invariant-loop-rule
invariant-loop-rule l = All HasGroundRight (take l.rule-index l.rule-items)
