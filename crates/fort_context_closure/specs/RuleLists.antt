-- Inside: what a list of rules with the patterns of their sides is.
use Rattle.std.specs.Prelude.{◌≡◌, List, map}
use Rattle.fort_theory.specs.Patterns.{Pair}
use Rattle.fort_theory.specs.PatternOrder.{AreSubpatternsInOrder}
use Rattle.fort_terms.specs.PatternView.{as_pair, as_pattern}
use Rattle.fort_context_closure.specs.declared.rule_list.RuleList.{RuleList}

pub record ListsRules (pairs : List Pair) (r : RuleList) : Type 0 where
  pub rules : map as_pair r.rules.items ≡ pairs
  pub left_order : AreSubpatternsInOrder (map (λ (pair : Pair). pair.0) pairs) (map as_pattern r.lefts.items)
  pub right_order : AreSubpatternsInOrder (map (λ (pair : Pair). pair.1) pairs) (map as_pattern r.rights.items)
