use Rattle.std.proofs.Common.{◌≡◌, ◌≤◌, drop}
use Rattle.fort_alike.specs.AtomRules.{all_kids}
use Rattle.fort_label_bits.specs.RowBits.{bit_of, labels_at}
use Rattle.fort_label_bits.proofs.bits.rest_have.Given as goal

-- the children that are left decide
abbrev pub invariant-loop-j : goal.invariant-loop-j
invariant-loop-j l =
    (l.from ≤ l.j)
    × (all_kids (bit_of l.bit) (drop l.from (labels_at l.rows.labels l.row.kids)) ≡ all_kids (bit_of l.bit) (drop l.j (labels_at l.rows.labels l.row.kids)))
