use Rattle.std.proofs.Common.{◌+◌, ◌*◌, get_or, ap, sym, ◌∙◌, arith}
use Rattle.std.proofs.lemmas.Int.Digits.{number_more}
use Rattle.fort_tuple_symbols.proofs.DigitNumberLaws.{below_more, number_fits}
use Rattle.fort_tuple_symbols.proofs.symbol_set.number_of.Goals as goal

pub overflow_mul-number : goal.overflow_mul-number
overflow_mul-number c =
    let i = c.loop-digit.invariant in
    omega (arith, number_fits c.args.base c.args.digits.now c.loop-digit.digit-index c.loop-digit-test.true i.below c.if-digit-base.false c.requires, ap (λ n. n * c.args.base) i.is)

pub overflow_add-number : goal.overflow_add-number
overflow_add-number c =
    let i = c.loop-digit.invariant in
    omega (arith, number_fits c.args.base c.args.digits.now c.loop-digit.digit-index c.loop-digit-test.true i.below c.if-digit-base.false c.requires, ap (λ n. n * c.args.base) i.is)

pub loop-digit-preserved : goal.loop-digit-preserved
loop-digit-preserved c =
    let i = c.loop-digit.invariant in
    let ds = c.args.digits.now in
    let k = c.loop-digit.digit-index in
    record {
      below = below_more c.args.base ds k c.loop-digit-test.true i.below c.if-digit-base.false;
      is = ap (λ n. n * c.args.base + get_or ds k 0) i.is ∙ sym (number_more c.args.base ds k c.loop-digit-test.true);
    }
