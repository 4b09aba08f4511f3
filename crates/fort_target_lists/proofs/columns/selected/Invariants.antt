use Rattle.std.proofs.Common.{◌≡◌, ℕ, ◌<◌, get_or, length, None}
use Rattle.fort_tuple_symbols.specs.Columns.{as_column}
use Rattle.fort_tables.specs.Selections.{selected}
use Rattle.fort_target_lists.proofs.columns.selected.Given as goal

abbrev pub invariant-loop-k : goal.invariant-loop-k
invariant-loop-k l = record {
  size : length l.columns ≡ 16;
  columns : (k : ℕ) → k < l.k → as_column (get_or l.columns k None) ≡ get_or (selected l.places l.sym) k None;
}
