use Rattle.std.proofs.Common.{◌∙◌}
use Rattle.fort_context_closure.proofs.rule_list.one_way.Goals as goal

pub returns : goal.returns
returns c = record {
  rules = (rw c.new-rules.ensures.items at c.in_ok-push_copies.ensures) ∙ c.rules.ensures.pairs;
  left_order = c.in_ok-left_patterns.ensures;
  right_order = c.in_ok-right_patterns.ensures;
}
