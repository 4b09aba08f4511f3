use Rattle.fort_sample.specs.RulesSoFar.{HasRulesSoFar}
use Rattle.fort_sample.proofs.system.made_system.Given as goal

abbrev pub invariant-loop-i : goal.invariant-loop-i
invariant-loop-i l = HasRulesSoFar l.n l.i l.system
