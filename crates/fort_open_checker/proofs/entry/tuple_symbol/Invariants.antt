use Rattle.std.proofs.Common.{◌≡◌, ◌≤◌, ℕ, ◌<◌, length, get_or, None}
use Rattle.fort_tuple_symbols.specs.Columns.{digit_of}
use Rattle.fort_open_checker.proofs.entry.tuple_symbol.Given as goal

abbrev pub invariant-loop-k : goal.invariant-loop-k
invariant-loop-k l = record {
  long : length l.digits ≡ 16;
  values : (i : ℕ) → i < l.k → get_or l.digits i 0 ≡ digit_of (get_or l.columns i None);
  small : (i : ℕ) → get_or l.digits i 0 ≤ 65536;
}
