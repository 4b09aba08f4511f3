use Rattle.std.proofs.Common.{◌≡◌, ◌-◌}
use Rattle.fort_entry_walk.specs.WalkPlaces.{wants_from}
use Rattle.fort_tuple_symbols.specs.Columns.{symbol_of}
use Rattle.fort_entry_walk.proofs.walk.wants_of.Given as goal

abbrev pub invariant-loop-i : goal.invariant-loop-i
invariant-loop-i l = l.row ≡ wants_from l.sig (symbol_of l.digits) (l.count - l.i) l.i
