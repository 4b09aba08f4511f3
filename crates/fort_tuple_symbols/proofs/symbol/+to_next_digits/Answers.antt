use Rattle.std.proofs.Common.{arith}
use Rattle.fort_tuple_symbols.proofs.SymbolNumberLaws.{next_raised, next_carried}
use Rattle.fort_tuple_symbols.proofs.symbol.+to_next_digits.Goals as goal

pub returns-then-last-base-clause-next : goal.returns-then-last-base-clause-next
returns-then-last-base-clause-next t c =
    next_raised c.args.base c.args.digits.now c.in-Some.before.now c.in-Some.last.now (omega (arith, c.if-last-base.true)) c.in-Some.ensures.cases.0

pub returns-else-last-base-clause-next : goal.returns-else-last-base-clause-next
returns-else-last-base-clause-next t c =
    next_carried c.args.base c.args.digits.now c.in-Some.before.now c.to_next_digits.new.digits c.in-Some.last.now c.requires.some (omega (arith, c.if-last-base.false)) c.in-Some.ensures.cases.0 c.to_next_digits.ensures.next
