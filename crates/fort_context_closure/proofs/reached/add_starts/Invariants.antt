use Rattle.std.proofs.Common.{◌≡◌, ℕ, ◌||◌, take}
use Rattle.std.specs.List.{list_any}
use Rattle.fort_tuple_symbols.specs.Columns.{as_column}
use Rattle.fort_label_bits.specs.RowBits.{bit_of, labels_at}
use Rattle.fort_context_closure.specs.RuleRootPlaces.{starts_at}
use Rattle.fort_context_closure.proofs.reached.add_starts.Given as goal

abbrev pub invariant-loop-k : goal.invariant-loop-k
invariant-loop-k l =
    (q : ℕ) → bit_of q l.out
    ≡ (bit_of q l.initial.out || list_any (starts_at l.lefts l.reach (as_column l.node.first) (labels_at l.rows.labels l.row.kids) q l.rules) (take l.k-index l.listed))
