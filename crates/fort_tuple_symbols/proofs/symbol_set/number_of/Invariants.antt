use Rattle.std.proofs.Common.{◌≡◌, take}
use Rattle.std.specs.Int.Digits.{number_from_digits, AllBelowBase}
use Rattle.fort_tuple_symbols.proofs.symbol_set.number_of.Given as goal

abbrev pub invariant-loop-digit : goal.invariant-loop-digit
invariant-loop-digit l = record {
  below : AllBelowBase l.base (take l.digit-index l.digits);
  is : l.number ≡ number_from_digits l.base (take l.digit-index l.digits);
}
