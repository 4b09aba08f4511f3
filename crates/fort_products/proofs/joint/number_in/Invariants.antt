use Rattle.std.proofs.Common.{◌≡◌, take}
use Rattle.fort_tuple_symbols.specs.Columns.{symbol_of}
use Rattle.fort_tables.specs.Selections.{selected}
use Rattle.fort_target_lists.specs.Places.{number_of}
use Rattle.fort_products.proofs.joint.number_in.Given as goal

abbrev pub invariant-loop-k : goal.invariant-loop-k
invariant-loop-k l = l.number ≡ number_of l.base (take l.k (selected l.places (symbol_of l.digits)))
