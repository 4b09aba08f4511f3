use Rattle.std.proofs.Common.{sym, true≢false}
use Rattle.std.specs.Prelude.{codes}
use Rattle.fort_questions.proofs.PlainFormats.{not_two}
use Rattle.fort_questions.proofs.input.is_plain_format.Goals as goal

pub returns-in-None : goal.returns-in-None
returns-in-None c = (
  (λ t. absurd (true≢false (sym t))),
  (λ h. absurd (not_two c.args.form.now.bytes c.args.form.now.form (codes "format") (codes "TRS") c.in-None.ensures.none h)),
)
