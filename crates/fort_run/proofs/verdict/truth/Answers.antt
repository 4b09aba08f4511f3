use Rattle.std.proofs.Common.{refl, subst}
use Rattle.std.proofs.lemmas.Result.{IfOk-weaker}
use Rattle.fort_words.specs.RequestView.{as_options}
use Rattle.fort_answers.specs.FormulaAnswer.{Closed}
use Rattle.fort_formulas.specs.CoreView.{as_core}
use Rattle.fort_run.specs.Ready.{IsDecidedBy}
use Rattle.fort_questions.specs.declared.question.Question.TheVariants.{Truth}
use Rattle.fort_run.proofs.LineReplies.{verdict_is}
use Rattle.fort_run.proofs.PosedQuestions.{decided_by, verdict_settles, limit_settles}
use Rattle.fort_run.proofs.verdict.truth.Goals as goal

pub answer_to-requires : goal.answer_to-requires
answer_to-requires c = c.requires.2.decided

pub truth_of-requires : goal.truth_of-requires
truth_of-requires c =
    let system = c.args.system.now in (
      c.requires.0,
      system,
      c.requires.1,
      c.requires.2.taken,
      decided_by Closed c.requires.0 system c.requires.1 (as_core c.args.core.now) c.in-Ok.last c.requires.2 c.in-Ok.ensures.truth,
    )

pub returns-in-Ok : goal.returns-in-Ok
returns-in-Ok c =
    let system = c.args.system.now in
    let core = as_core c.args.core.now in
    verdict_is c.truth_of.result _ _ (λ r says none. λ f p terms lawful same posed.
    verdict_settles (Truth c.args.options) f p tt system terms core (as_options c.args.options) r refl same posed.is c.in-Ok.ensures.within
    (says f p terms lawful posed.taken
    (subst (λ s. IsDecidedBy f s terms c.in-Ok.last) same (decided_by Closed f system terms core c.in-Ok.last posed c.in-Ok.ensures.truth)))
    none)
    c.truth_of.ensures.verdict c.truth_of.ensures.limit

pub returns-in-Err : goal.returns-in-Err
returns-in-Err c =
    IfOk-weaker c.limit_reply.result _ _ (λ r tells. λ f p terms lawful same posed.
    limit_settles (Truth c.args.options) f p tt c.args.system.now terms (as_core c.args.core.now) (as_options c.args.options) r refl same posed.is c.in-Err.fault
    c.in-Err.ensures.over tells)
    c.limit_reply.ensures
