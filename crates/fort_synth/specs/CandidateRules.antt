-- Inside: the rules that stand in some places of a family, and their pairs of patterns.
use Rattle.std.specs.Prelude.{ℕ, List, map, get_or}
use Rattle.fort_theory.specs.Trees.{Node, Nil}
use Rattle.fort_theory.specs.Patterns.{Any, Pair, pattern_pair}
use Rattle.fort_answers.specs.FamilyRules.{FamilyRule}
use Rattle.fort_answers.specs.FamilySystems.{rule_of}

-- outside of the family any rule will do
abbrev pub no_rule : FamilyRule
no_rule = (Any, Node 0 Nil)

abbrev pub rules_at : List FamilyRule → List ℕ → List FamilyRule
rules_at family places = map (λ place. get_or family place no_rule) places

abbrev pub pairs_of : List FamilyRule → List Pair
pairs_of rules = map pattern_pair (map rule_of rules)
