use Rattle.std.proofs.Common.{sym, ◌∙◌, true≢false}
use Rattle.std.proofs.lemmas.Result.{IfOk-weaker}
use Rattle.fort_context_closure.proofs.relation.reach_for.Goals as goal

pub returns-then-not-is_reduction : goal.returns-then-not-is_reduction
returns-then-not-is_reduction c e = absurd (true≢false (sym e ∙ sym c.if-not-is_reduction.ensures))

pub returns : goal.returns
returns c = IfOk-weaker c.reach_of.result _ _ (λ reach h e. h) c.reach_of.ensures
