use Rattle.std.proofs.Common.{◌≡◌, ◌<◌, ◌^◌, take}
use Rattle.std.specs.Str.Parse.{AllDigits, digits_value}
use Rattle.fort_sexpr.proofs.digits.digits_ahead.Given as goal

abbrev pub invariant-loop-i : goal.invariant-loop-i
invariant-loop-i l = record {
  digits : AllDigits 10 (take l.i l.bytes);
  value : digits_value 10 (take l.i l.bytes) ≡ l.value;
  small : l.value < 2 ^ 32;
}
