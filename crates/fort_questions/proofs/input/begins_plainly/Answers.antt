use Rattle.std.proofs.Common.{sym, ◌∙◌, true≢false}
use Rattle.fort_questions.proofs.PlainFormats.{plain_at, plain_none}
use Rattle.fort_questions.proofs.input.begins_plainly.Goals as goal

pub returns-then-len-eq0 : goal.returns-then-len-eq0
returns-then-len-eq0 c = (
  (λ t. absurd (true≢false (sym t))),
  (λ h. absurd (plain_none c.args.forms.now.bytes c.args.forms.now.forms (sym c.len.ensures.count ∙ c.if-len-eq0.true) h)),
)

pub returns : goal.returns
returns c =
    let at = plain_at c.args.forms.now.bytes c.args.forms.now.forms c.form.result.form c.form.ensures.form in
    let test = rw c.form.ensures.bytes at c.is_plain_format.ensures in
    ((λ t. at.0 (test.0 t)), (λ h. test.1 (at.1 h)))
