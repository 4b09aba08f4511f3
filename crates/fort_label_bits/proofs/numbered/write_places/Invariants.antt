use Rattle.std.proofs.Common.{◌≡◌, ℕ, ◌||◌, take}
use Rattle.std.specs.List.{list_any}
use Rattle.fort_tuple_symbols.specs.Columns.{as_column}
use Rattle.fort_label_bits.specs.RowBits.{bit_of, labels_at}
use Rattle.fort_label_bits.specs.RootPlaces.{writes_at}
use Rattle.fort_label_bits.proofs.numbered.write_places.Given as goal

abbrev pub invariant-loop-place : goal.invariant-loop-place
invariant-loop-place l =
    (q : ℕ) → bit_of q l.out
    ≡ (bit_of q l.initial.out || list_any (writes_at l.base l.patterns (as_column l.root) (labels_at l.rows.labels l.row.kids) q) (take l.place-index l.places))
