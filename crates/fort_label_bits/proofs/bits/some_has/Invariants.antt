use Rattle.std.proofs.Common.{◌≡◌, drop}
use Rattle.fort_alike.specs.AtomRules.{some_kid}
use Rattle.fort_label_bits.specs.RowBits.{bit_of, labels_at}
use Rattle.fort_label_bits.proofs.bits.some_has.Given as goal

-- the children that are left decide
abbrev pub invariant-loop-j : goal.invariant-loop-j
invariant-loop-j l =
    some_kid (bit_of l.bit) (labels_at l.rows.labels l.row.kids) ≡ some_kid (bit_of l.bit) (drop l.j (labels_at l.rows.labels l.row.kids))
