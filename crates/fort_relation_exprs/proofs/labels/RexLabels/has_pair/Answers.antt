use Rattle.std.proofs.Common.{refl, ◌∙◌}
use Rattle.fort_alike.specs.ExpressionRules.{left_bit, right_bit}
use Rattle.fort_relation_exprs.proofs.RowLaws.{some_rule-some_pair}
use Rattle.fort_relation_exprs.proofs.labels.RexLabels.has_pair.Goals as goal

pub returns : goal.returns
returns c =
    let b = c.self.inside in
    let w = c.args.label.now in
    rw (← c.self.view_is)
    ((rw c.deref.ensures.value at c.some_rule.ensures)
    ∙ some_rule-some_pair b.pairs.items b.left.count w (left_bit w) (right_bit b.left.count w) (λ r k. (refl, refl)))
