use Rattle.std.proofs.Common.{◌≡◌, drop}
use Rattle.fort_label_bits.specs.RuleLefts.{some_rule}
use Rattle.fort_label_bits.proofs.rule_places.some_rule.Given as goal

abbrev pub invariant-loop-rule : goal.invariant-loop-rule
invariant-loop-rule l = some_rule l.base l.rules l.label ≡ some_rule l.base (drop l.rule-index l.rules) l.label
