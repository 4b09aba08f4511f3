use Rattle.std.proofs.Common.{length}
use Rattle.fort_tuple_symbols.proofs.symbol.+to_next_digits.Given as goal

abbrev pub decreases-to_next_digits : goal.decreases-to_next_digits
decreases-to_next_digits l = length l.digits.now
