use Rattle.std.proofs.Common.{◌≡◌, drop}
use Rattle.fort_tables.specs.Tuples.{presence}
use Rattle.fort_tuple_symbols.specs.Columns.{symbol_of}
use Rattle.fort_tuple_symbols.proofs.digits.presence_of.Given as goal

abbrev pub invariant-loop-i : goal.invariant-loop-i
invariant-loop-i l = l.presence ≡ presence (symbol_of (drop l.i l.digits))
