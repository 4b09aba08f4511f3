use Rattle.std.proofs.Common.{◌∙◌, sym}
use Rattle.std.proofs.lemmas.Bool.{true≢false}
use Rattle.fort_sexpr.proofs.WordTexts.{not_ahead, ahead_if_as_long}
use Rattle.fort_sexpr.proofs.scan.is_ahead.Goals as goal

pub returns-then-starts_with : goal.returns-then-starts_with
returns-then-starts_with c = ahead_if_as_long c.args.bytes.now c.args.text.now c.end_of_word.result c.end_of_word.ensures c.if-starts_with.ensures.value

pub returns-else-starts_with : goal.returns-else-starts_with
returns-else-starts_with c = (
  λ yes. absurd (true≢false (sym yes ∙ c.if-starts_with.false)),
  λ h. absurd (not_ahead c.args.bytes.now c.args.text.now c.if-starts_with.ensures.value h),
)
