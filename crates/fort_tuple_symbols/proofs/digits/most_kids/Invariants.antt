use Rattle.std.proofs.Common.{◌≡◌, ◌≤◌, drop}
use Rattle.fort_tables.specs.Tuples.{symbol_kids}
use Rattle.fort_tuple_symbols.specs.Columns.{symbol_of}
use Rattle.fort_tuple_symbols.proofs.digits.most_kids.Given as goal

abbrev pub invariant-loop-i : goal.invariant-loop-i
invariant-loop-i l = record {
  value : l.most ≡ symbol_kids l.sig (symbol_of (drop l.i l.digits));
  small : l.most ≤ 8;
}
