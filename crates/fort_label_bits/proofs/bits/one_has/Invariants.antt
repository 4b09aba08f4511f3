use Rattle.std.proofs.Common.{◌≡◌, drop}
use Rattle.fort_alike.specs.AtomRules.{one_kid}
use Rattle.fort_label_bits.specs.RowBits.{bit_of, labels_at}
use Rattle.fort_label_bits.proofs.bits.one_has.Given as goal

-- the children that are left decide
abbrev pub invariant-loop-j : goal.invariant-loop-j
invariant-loop-j l =
    one_kid (bit_of l.bit) (bit_of l.other) (labels_at l.rows.labels l.row.kids)
    ≡ one_kid (bit_of l.bit) (bit_of l.other) (drop l.j (labels_at l.rows.labels l.row.kids))
