use Rattle.std.proofs.Common.{◌∙◌, sym, arith}
use Rattle.std.proofs.lemmas.List.{take_all}
use Rattle.fort_sexpr.proofs.DigitWords.{digits_next, ahead_ended, no_digit_ahead, great_ahead}
use Rattle.fort_sexpr.proofs.digits.digits_ahead.Goals as goal

pub returns-then-is_word_byte-clause-none : goal.returns-then-is_word_byte-clause-none
returns-then-is_word_byte-clause-none c =
    no_digit_ahead c.args.bytes.now c.loop-i.i (omega (arith, c.loop-i-test.true)) c.loop-i.invariant.digits (omega (arith, c.loop-i-test.true))
    (sym c.if-is_word_byte.ensures) c.in_default.ensures.none

pub returns-in_err-value-clause-none : goal.returns-in_err-value-clause-none
returns-in_err-value-clause-none c =
    let digit = c.in-Some.ensures.some in
    rw c.from_residual.ensures
    (great_ahead c.args.bytes.now c.loop-i.i (omega (arith, c.loop-i-test.true)) c.loop-i.invariant.digits c.loop-i.value c.in-Some.digit
    (omega (arith, c.loop-i-test.true)) c.loop-i.invariant.value digit.0 digit.1 c.in_err-value.ensures.none)

pub loop-i-preserved : goal.loop-i-preserved
loop-i-preserved c =
    let inv = c.loop-i.invariant in
    let d = c.in-Some.ensures.some in
    let v = c.in_ok-value.ensures in
    let next = digits_next c.args.bytes.now c.loop-i.i c.loop-i.value c.in-Some.digit (omega (arith, c.loop-i-test.true)) inv.digits inv.value d.0 d.1 in
    record { digits = next.0; value = next.1 ∙ sym v.some; small = v.small }

pub returns-in_default-clause-text : goal.returns-in_default-clause-text
returns-in_default-clause-text c =
    ahead_ended c.args.bytes.now c.loop-i.i (omega (arith, c.loop-i-test.true)) c.loop-i.invariant.digits (λ _. sym c.if-is_word_byte.ensures)

pub returns-clause-text : goal.returns-clause-text
returns-clause-text c =
    sym (take_all c.loop-i.i c.args.bytes.now (omega (arith, c.loop-i-test.false)))
    ∙ ahead_ended c.args.bytes.now c.loop-i.i c.loop-i.auto.i-end c.loop-i.invariant.digits (λ l. absurd (omega (arith, l, c.loop-i-test.false)))
