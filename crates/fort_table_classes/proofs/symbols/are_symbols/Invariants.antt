use Rattle.std.proofs.Common.{◌≡◌, drop}
use Rattle.fort_table_classes.specs.KnownSymbols.{are_symbols}
use Rattle.fort_table_classes.proofs.symbols.are_symbols.Given as goal

abbrev pub invariant-loop-k : goal.invariant-loop-k
invariant-loop-k l = are_symbols l.sig l.symbol ≡ are_symbols l.sig (drop l.k l.symbol)
