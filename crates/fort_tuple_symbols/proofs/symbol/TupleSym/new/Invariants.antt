use Rattle.std.proofs.Common.{◌≡◌, ℕ, ◌-◌, ◌≤◌, ◌++◌, map, take, replicate, get_or}
use Rattle.fort_tuple_symbols.proofs.SymbolLaws.{digit_at}
use Rattle.fort_tuple_symbols.proofs.symbol.TupleSym.new.Given as goal

abbrev pub invariant-loop-i : goal.invariant-loop-i
invariant-loop-i l = record {
  filled : l.digits ≡ map digit_at (take l.i l.columns) ++ replicate (16 - l.i) 0;
  small : (k : ℕ) → get_or l.digits k 0 ≤ 65536;
}
