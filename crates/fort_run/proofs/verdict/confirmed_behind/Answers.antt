use Rattle.std.proofs.Common.{subst}
use Rattle.std.proofs.lemmas.Result.{IfOk-weaker}
use Rattle.fort_formulas.specs.CoreView.{as_core}
use Rattle.fort_formulas.specs.FormulaView.{as_formula}
use Rattle.fort_answers.specs.InputAnswer.{AnOpenCertificate}
use Rattle.fort_questions.specs.declared.question.Question.TheVariants.{Confirm}
use Rattle.fort_questions.specs.Inputs.{IsBehind}
use Rattle.fort_run.specs.Posed.{SettlesCore}
use Rattle.fort_run.proofs.verdict.confirmed_behind.Goals as goal

pub returns : goal.returns
returns c =
    IfOk-weaker c.confirmed.result _ _ (λ r says. λ behind is.
    subst (λ b. SettlesCore Confirm c.args.input.now.system b (as_core c.args.core.now) (as_formula c.args.formula.now) r)
    (subst (λ b. IsBehind AnOpenCertificate b behind) c.in-OpenCertificate.is is) says)
    c.confirmed.ensures
