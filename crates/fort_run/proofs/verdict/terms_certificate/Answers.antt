use Rattle.std.proofs.Common.{refl, ap}
use Rattle.std.proofs.lemmas.Result.{IfOk-weaker}
use Rattle.fort_words.specs.RequestView.{as_options}
use Rattle.fort_formulas.specs.CoreView.{as_core}
use Rattle.fort_run.specs.StatusView.{code_of}
use Rattle.fort_questions.specs.declared.question.Question.TheVariants.{TermsCertificate}
use Rattle.fort_run.proofs.PosedQuestions.{open_columns, verdict_settles, limit_settles}
use Rattle.fort_run.proofs.WrittenTerms.{true_terms}
use Rattle.fort_run.proofs.verdict.terms_certificate.Goals as goal

pub table_with_steps-requires-clause-decided : goal.table_with_steps-requires-clause-decided
table_with_steps-requires-clause-decided c = c.requires.2.decided

pub table_with_steps-requires-clause-columns : goal.table_with_steps-requires-clause-columns
table_with_steps-requires-clause-columns c = open_columns c.requires.0 c.args.system.now c.requires.1 (as_core c.args.core.now) c.requires.2

pub returns-in_ok-terms_text-in-Ok : goal.returns-in_ok-terms_text-in-Ok
returns-in_ok-terms_text-in-Ok c = λ f p terms lawful same posed.
    let system = c.args.system.now in
    let core = as_core c.args.core.now in
    let recorded = c.in-Ok.recorded in
    let made = c.in_ok-terms_text-in-Ok in
    let r = c.of.result in
    verdict_settles (TermsCertificate c.args.options) f p tt system terms core (as_options c.args.options) r refl same posed.is c.in-Ok.ensures.within
    (true_terms c.args.options.reduces f p lawful system terms core posed same recorded made.field-0.items made.ensures c.in-Ok.ensures.written c.in-Ok.ensures.truth
    (code_of r.status) r.text.items (ap code_of c.of.ensures.status) c.of.ensures.text)
    c.of.ensures.limit

pub returns-in-Err : goal.returns-in-Err
returns-in-Err c =
    IfOk-weaker c.limit_reply.result _ _ (λ r tells. λ f p terms lawful same posed.
    limit_settles (TermsCertificate c.args.options) f p tt c.args.system.now terms (as_core c.args.core.now) (as_options c.args.options) r refl same posed.is
    c.in-Err.fault c.in-Err.ensures.over tells)
    c.limit_reply.ensures
