use Rattle.std.proofs.Common.{◌≡◌, refl, inl, ap}
use Rattle.std.specs.Prelude.{Some, Err}
use Rattle.fort_intake.specs.declared.unread.Unread.TheVariants.{TooLong}
use Rattle.fort_answers.specs.InputAnswer.{TooLong as LongInput}
use Rattle.fort_answers.specs.Lines.{input_too_long}
use Rattle.fort_formulas.specs.FormulaView.{as_formula}
use Rattle.fort_questions.specs.Questions.{request_for, tail_of}
use Rattle.fort_run.specs.Replies.{IsReplyTo}
use Rattle.fort_run.specs.StatusView.{code_of}
use Rattle.fort_questions.proofs.InputLines.{text_refused}
use Rattle.fort_run.proofs.Replies.{input_refused, refusal_replies}
use Rattle.fort_run.proofs.Told.{told_read, told_long}
use Rattle.fort_run.proofs.ask.reply_to_formula.Goals as goal

pub returns-in-Err-TooLong-clause-ok : goal.returns-in-Err-TooLong-clause-ok
returns-in-Err-TooLong-clause-ok g c = λ text is.
    let request = Some (request_for c.args.question text) in
    let reply = c.in_ok-reply-in-Err-TooLong.reply in
    let made = c.in_ok-reply-in-Err-TooLong.ensures in
    told_long (λ bytes. IsReplyTo request bytes reply) _
    (c.in-Err-TooLong.ensures.too_long (ap Err (let same : c.in-Err-TooLong.field-0 ≡ TooLong = cc in same))) (λ bytes over.
    refusal_replies request bytes input_too_long reply
    (input_refused c.args.question text (as_formula c.args.parsed.now.formula) is.accepted bytes input_too_long (LongInput over refl))
    (record { status_is = ap code_of made.status; text_is = made.text; limit_is = made.limit }))

pub returns-in-Err-Text-clause-ok : goal.returns-in-Err-Text-clause-ok
returns-in-Err-Text-clause-ok g c = λ text is.
    let request = Some (request_for c.args.question text) in
    let reply = c.refused.result in
    let line = c.in_ok-text_line-in-Err-Text in
    let at = c.in-Err-Text.ensures.text c.in-Err-Text.fault (ap Err c.in-Err-Text.field-0-is) in
    told_read (λ bytes. IsReplyTo request bytes reply) _ _ at.bytes at.given at.end
    (refusal_replies request at.bytes line.field-0.items reply
    (input_refused c.args.question text (as_formula c.args.parsed.now.formula) is.accepted at.bytes line.field-0.items
    (text_refused (tail_of c.args.question) at.bytes c.in-Err-Text.fault line.field-0.items at.within at.first (rw c.in-Err-Text.field-0-is at line.ensures)))
    (record { status_is = c.refused.ensures.status; text_is = c.refused.ensures.text; limit_is = c.refused.ensures.limit }))

pub returns-in-Err-Text-clause-whole : goal.returns-in-Err-Text-clause-whole
returns-in-Err-Text-clause-whole g c =
    let at = c.in-Err-Text.ensures.text c.in-Err-Text.fault (ap Err c.in-Err-Text.field-0-is) in inl at.end

pub returns-clause-ok : goal.returns-clause-ok
returns-clause-ok g c = λ text is.
    told_read (λ bytes. IsReplyTo (Some (request_for c.args.question text)) bytes c.in_ok-reply_to_forms.field-0) _ _ c.in-Ok.forms.bytes c.in-Ok.ensures.all
    c.in-Ok.ensures.end (c.in_ok-reply_to_forms.ensures text is)
