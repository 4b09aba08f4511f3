use Rattle.std.proofs.Common.{◌≡◌, ◌<◌, length, get_or, sym, ◌∙◌, arith}
use Rattle.std.proofs.lemmas.Bool.{eqb-true, eqb-false}
use Rattle.fort_certificate.proofs.NumberWords.{word_of_value, word_begins}
use Rattle.fort_certificate.proofs.word.parse_number.Goals as goal
use Rattle.fort_certificate.proofs.word.parse_number.Goals.{else-text-gt1-via-then-text-gt1+else-text-eq48, else-text-gt1-via-else-text-gt1}

pub returns-then-is_empty-clause-none : goal.returns-then-is_empty-clause-none
returns-then-is_empty-clause-none c n is =
    omega (arith, (word_begins c.args.digits.text.now n is).0, eqb-true _ 0 (sym c.is_empty.ensures ∙ c.if-is_empty.true))

pub returns-then-text-eq48-clause-none : goal.returns-then-text-eq48-clause-none
returns-then-text-eq48-clause-none c n is =
    omega (arith, (word_begins c.args.digits.text.now n is).1 c.if-text-eq48.true, c.if-text-gt1.true)

pub returns-clause-some : goal.returns-clause-some
returns-clause-some c =
    let word = c.args.digits.text.now in
    let other = eqb-false _ 0 (sym c.is_empty.ensures ∙ c.if-is_empty.false) in
    let some : 0 < length word = omega (arith, other) in
    let lead : get_or word 0 0 ≡ 48 → length word ≡ 1 = elim c.else-text-gt1.branch [
      | else-text-gt1-via-then-text-gt1+else-text-eq48 w ↦ (λ e. absurd (w.if-text-eq48.false e))
      | else-text-gt1-via-else-text-gt1 w ↦ (λ e. omega (arith, w.if-text-gt1.false, some))
    ] in
    word_of_value word c.args.digits.value some lead c.requires.word c.requires.value
