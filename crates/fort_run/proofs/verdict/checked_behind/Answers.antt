use Rattle.std.proofs.Common.{subst}
use Rattle.std.proofs.lemmas.Result.{IfOk-weaker}
use Rattle.fort_formulas.specs.CoreView.{as_core}
use Rattle.fort_answers.specs.InputAnswer.{ACertificate}
use Rattle.fort_questions.specs.declared.question.Question.TheVariants.{Check}
use Rattle.fort_questions.specs.Inputs.{IsBehind}
use Rattle.fort_run.specs.Posed.{SettlesCore}
use Rattle.fort_run.proofs.verdict.checked_behind.Goals as goal

pub returns : goal.returns
returns c =
    IfOk-weaker c.checked.result _ _ (λ r says. λ f behind is.
    subst (λ b. SettlesCore Check c.args.input.now.system b (as_core c.args.core.now) f r)
    (subst (λ b. IsBehind ACertificate b behind) c.in-Certificate.is is) (says f))
    c.checked.ensures
