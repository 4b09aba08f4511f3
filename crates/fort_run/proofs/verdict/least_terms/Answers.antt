use Rattle.std.proofs.Common.{refl, ap, subst, ◌∙◌}
use Rattle.std.proofs.lemmas.Result.{IfOk-weaker}
use Rattle.fort_theory.specs.Patterns.{PatternSystem}
use Rattle.fort_words.specs.RequestView.{as_options}
use Rattle.fort_answers.specs.FormulaAnswer.{Any}
use Rattle.fort_formulas.specs.CoreView.{as_core}
use Rattle.fort_formulas.specs.FormulaView.{as_formula}
use Rattle.fort_run.specs.Ready.{IsDecidedBy}
use Rattle.fort_questions.specs.declared.question.Question.TheVariants.{Terms}
use Rattle.fort_run.proofs.LineReplies.{verdict_is}
use Rattle.fort_run.proofs.PosedQuestions.{decided_by, verdict_settles, limit_settles}
use Rattle.fort_run.proofs.verdict.least_terms.Goals as goal

pub answer_to-requires : goal.answer_to-requires
answer_to-requires c = c.requires.1.decided

pub witness-requires : goal.witness-requires
witness-requires c =
    let f = as_formula c.args.formula.now in
    let system = c.args.system.now in (
      system,
      c.requires.0,
      c.signature.ensures.same,
      decided_by Any f system c.requires.0 (as_core c.args.core.now) c.in-Ok.last c.requires.1 c.in-Ok.ensures.truth,
    )

pub returns-in-Ok : goal.returns-in-Ok
returns-in-Ok c =
    let f = as_formula c.args.formula.now in
    let system = c.args.system.now in
    let core = as_core c.args.core.now in
    verdict_is c.witness.result _ _ (λ r says none. λ p terms lawful same posed.
    verdict_settles (Terms c.args.options) f p tt system terms core (as_options c.args.options) r refl same posed.is c.in-Ok.ensures.within
    (says p terms lawful (c.signature.ensures.same ∙ ap (λ (s : PatternSystem). s.signature) same)
    (subst (λ s. IsDecidedBy f s terms c.in-Ok.last) same (decided_by Any f system terms core c.in-Ok.last posed c.in-Ok.ensures.truth)))
    none)
    c.witness.ensures.verdict c.witness.ensures.limit

pub returns-in-Err : goal.returns-in-Err
returns-in-Err c =
    let f = as_formula c.args.formula.now in
    IfOk-weaker c.limit_reply.result _ _ (λ r tells. λ p terms lawful same posed.
    limit_settles (Terms c.args.options) f p tt c.args.system.now terms (as_core c.args.core.now) (as_options c.args.options) r refl same posed.is c.in-Err.fault
    c.in-Err.ensures.over tells)
    c.limit_reply.ensures
