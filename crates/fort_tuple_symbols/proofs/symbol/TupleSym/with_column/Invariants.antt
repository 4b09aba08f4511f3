use Rattle.std.proofs.Common.{◌≡◌, ℕ, ◌<◌, ◌≤◌, get_or, length}
use Rattle.std.specs.List.{insert}
use Rattle.fort_tuple_symbols.specs.Columns.{as_column, digit_of}
use Rattle.fort_tuple_symbols.proofs.symbol.TupleSym.with_column.Given as goal

abbrev pub invariant-loop-k : goal.invariant-loop-k
invariant-loop-k l = record {
  size : length l.digits ≡ 16;
  small : (k : ℕ) → get_or l.digits k 0 ≤ 65536;
  digits : (k : ℕ) → k < l.k → get_or l.digits k 0 ≡ get_or (insert l.own l.place (digit_of (as_column l.sym))) k 0;
}
