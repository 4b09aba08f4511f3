use Rattle.std.proofs.Common.{map}
use Rattle.std.specs.Prelude.{vec_items}
use Rattle.fort_label_bits.specs.BitRowLists.{AreClear}
use Rattle.fort_label_bits.proofs.rows.clear_rows.Given as goal

abbrev pub invariant-loop-k : goal.invariant-loop-k
invariant-loop-k l = AreClear l.k l.width (map vec_items l.rows.items)
