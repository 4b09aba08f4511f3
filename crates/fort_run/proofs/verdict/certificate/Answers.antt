use Rattle.std.proofs.Common.{map, refl, ap, subst, ◌∙◌}
use Rattle.std.specs.List.{AllByRecursion}
use Rattle.std.proofs.lemmas.Result.{IfOk-weaker}
use Rattle.fort_certificate_theory.specs.CertificateText.{certificate_text}
use Rattle.fort_certificate.specs.Again.{HasSmallNumbers}
use Rattle.fort_certificate.specs.VersionView.{as_version}
use Rattle.fort_words.specs.RequestView.{as_options}
use Rattle.fort_formulas.specs.CoreView.{as_core}
use Rattle.fort_steps.specs.StepView.{as_step}
use Rattle.fort_run.specs.StatusView.{code_of}
use Rattle.fort_questions.specs.declared.question.Question.TheVariants.{Certificate}
use Rattle.fort_run.proofs.PosedQuestions.{closed_core, true_certificate, verdict_settles, limit_settles}
use Rattle.fort_run.proofs.verdict.certificate.Goals as goal

pub decide_with_steps-requires-clause-decided : goal.decide_with_steps-requires-clause-decided
decide_with_steps-requires-clause-decided c = c.requires.2.decided

pub decide_with_steps-requires-clause-closed : goal.decide_with_steps-requires-clause-closed
decide_with_steps-requires-clause-closed c = closed_core c.requires.0 c.args.system.now c.requires.1 (as_core c.args.core.now) c.requires.2

pub returns-in_ok-text-in-Ok : goal.returns-in_ok-text-in-Ok
returns-in_ok-text-in-Ok c = λ f p terms lawful same posed.
    let system = c.args.system.now in
    let core = as_core c.args.core.now in
    let reduces = c.args.options.reduces in
    let recorded = c.in-Ok.recorded in
    let r = c.of.result in
    let text = c.in_ok-text-in-Ok in
    let number = c.number.result in
    let version = as_version c.new-version.result in
    verdict_settles (Certificate c.args.options) f p tt system terms core (as_options c.args.options) r refl same posed.is c.in-Ok.ensures.within
    (true_certificate reduces f p system terms core recorded number version (code_of r.status) r.text.items (ap code_of c.of.ensures.status) same posed
    c.in-Ok.ensures.written (subst (λ xs. AllByRecursion HasSmallNumbers (map as_step xs)) c.deref.ensures.value text.ensures.small)
    c.number.ensures.count c.new-version.ensures
    (c.of.ensures.text ∙ (text.ensures.text ∙ ap (λ xs. certificate_text version recorded.verdict (map as_step xs)) c.deref.ensures.value))
    lawful c.in-Ok.ensures.truth)
    c.of.ensures.limit

pub returns-in-Err : goal.returns-in-Err
returns-in-Err c =
    IfOk-weaker c.limit_reply.result _ _ (λ r tells. λ f p terms lawful same posed.
    limit_settles (Certificate c.args.options) f p tt c.args.system.now terms (as_core c.args.core.now) (as_options c.args.options) r refl same posed.is c.in-Err.fault
    c.in-Err.ensures.over tells)
    c.limit_reply.ensures
