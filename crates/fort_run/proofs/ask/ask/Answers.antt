use Rattle.std.specs.Prelude.{Some}
use Rattle.fort_answers.specs.FormulaAnswer.{IsRefusedAs}
use Rattle.fort_formulas.specs.FormulaView.{as_formula}
use Rattle.fort_questions.specs.Questions.{as_openness, openness_of, request_for}
use Rattle.fort_run.specs.Replies.{IsReplyTo}
use Rattle.fort_questions.proofs.FormulaRefusals.{refused_there, parsed_as}
use Rattle.fort_run.proofs.QuestionLaws.{needs}
use Rattle.fort_run.proofs.Replies.{formula_refused, told_refusal, refusal_needs_nothing}
use Rattle.fort_run.proofs.Told.{told_any}
use Rattle.fort_run.proofs.ask.ask.Goals as goal

pub returns-in-Err-clause-ok : goal.returns-in-Err-clause-ok
returns-in-Err-clause-ok g c =
    let question = c.args.question in
    let text = c.args.text.now in
    let reply = c.in_ok-refused_reply-in-Err.field-0 in
    let refused = refused_there (as_openness c.openness.result) (openness_of question) c.as_bytes.result.now text c.in-Err.refusal c.openness.ensures
    c.as_bytes.ensures.value c.in-Err.ensures.refused in
    told_any (λ bytes. IsReplyTo (Some (request_for question text)) bytes reply) _ (λ bytes.
    told_refusal (Some (request_for question text)) bytes (IsRefusedAs (openness_of question) text) c.in-Err.refusal reply (formula_refused question text bytes)
    refused c.in_ok-refused_reply-in-Err.ensures)

pub returns-in-Err-clause-whole : goal.returns-in-Err-clause-whole
returns-in-Err-clause-whole g c = λ needed.
    let question = c.args.question in
    let refused = refused_there (as_openness c.openness.result) (openness_of question) c.as_bytes.result.now c.args.text.now c.in-Err.refusal c.openness.ensures
    c.as_bytes.ensures.value c.in-Err.ensures.refused in
    absurd (refusal_needs_nothing question c.args.text.now c.in-Err.refusal c.in_ok-refused_reply-in-Err.field-0 refused c.in_ok-refused_reply-in-Err.ensures needed)

pub returns-clause-asked : goal.returns-clause-asked
returns-clause-asked g c = λ fault.
    let read = parsed_as (as_openness c.openness.result) (openness_of c.args.question) c.as_bytes.result.now c.args.text.now c.in-Ok.parsed
    c.openness.ensures c.as_bytes.ensures.value c.in-Ok.ensures.ok in
    needs c.args.question c.args.text.now (as_formula c.in-Ok.parsed.formula) read.accepted

pub returns-clause-unread : goal.returns-clause-unread
returns-clause-unread g c = λ none.
    let read = parsed_as (as_openness c.openness.result) (openness_of c.args.question) c.as_bytes.result.now c.args.text.now c.in-Ok.parsed
    c.openness.ensures c.as_bytes.ensures.value c.in-Ok.ensures.ok in
    absurd (none (needs c.args.question c.args.text.now (as_formula c.in-Ok.parsed.formula) read.accepted))
