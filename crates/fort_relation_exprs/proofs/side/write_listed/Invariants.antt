use Rattle.std.proofs.Common.{◌≡◌, ℕ, ◌||◌, take}
use Rattle.std.specs.List.{list_any}
use Rattle.fort_tuple_symbols.specs.Columns.{as_column}
use Rattle.fort_label_bits.specs.RowBits.{bit_of, labels_at}
use Rattle.fort_relation_exprs.specs.Sides.{adds_at, leads_in, moves_in}
use Rattle.fort_relation_exprs.proofs.side.write_listed.Given as goal

abbrev pub invariant-loop-k : goal.invariant-loop-k
invariant-loop-k l =
    (q : ℕ) → bit_of q l.out
    ≡ (bit_of q l.initial.out || list_any (adds_at l.base (moves_in l.side) (leads_in l.side) (as_column l.root) (labels_at l.rows.labels l.row.kids) q) (take l.k-index l.listed))
