use Rattle.std.proofs.Common.{◌≡◌, drop}
use Rattle.std.specs.List.{list_any}
use Rattle.fort_check_steps.specs.PairTests.{has_pair, by_rule}
use Rattle.fort_check_steps.proofs.pairs.some_rule.Given as goal

-- the rules that are left decide
abbrev pub invariant-loop-rule : goal.invariant-loop-rule
invariant-loop-rule l =
    list_any (by_rule (has_pair l.lefts l.listed) l.p l.q) l.rules ≡ list_any (by_rule (has_pair l.lefts l.listed) l.p l.q) (drop l.rule-index l.rules)
