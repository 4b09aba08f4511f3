use Rattle.std.proofs.Common.{◌≡◌, List, ◌++◌, map, ◌∙◌}
use Rattle.fort_theory.specs.Patterns.{Pair}
use Rattle.fort_theory.specs.Sides.{at_index}
use Rattle.fort_terms.specs.BothWays.{exchanged}
use Rattle.fort_terms.specs.PatternView.{as_pair}
use Rattle.fort_context_closure.proofs.rule_list.both_ways.Goals as goal

pub returns : goal.returns
returns c =
    let pairs : List Pair = at_index c.args.index c.args.system.now.rules in
    let one : map as_pair c.push_copies.new.all.items ≡ pairs = (rw c.new-rules.ensures.items at c.in_ok-push_copies.ensures) ∙ c.rules.ensures.pairs in
    record {
      rules = c.in_ok-push_exchanged.ensures ∙ (λ i. one i ++ map exchanged (c.rules-2.ensures.pairs i));
      left_order = c.in_ok-all_patterns.ensures.left;
      right_order = c.in_ok-all_patterns-2.ensures.right;
    }
