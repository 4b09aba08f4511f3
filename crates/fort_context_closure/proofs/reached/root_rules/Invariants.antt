use Rattle.std.proofs.Common.{take}
use Rattle.fort_context_closure.specs.RuleRootPlaces.{AreRuleRoots}
use Rattle.fort_context_closure.proofs.reached.root_rules.Given as goal

abbrev pub invariant-loop-k : goal.invariant-loop-k
invariant-loop-k l = AreRuleRoots l.lefts l.rights (take l.k l.rules) l.roots
