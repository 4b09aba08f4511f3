use Rattle.std.proofs.Common.{◌≡◌, List, ◌++◌, Bool, length, map, take}
use Rattle.fort_tuple_symbols.specs.Columns.{as_column}
use Rattle.fort_alike.specs.PatternNumbers.{number_inside}
use Rattle.fort_label_bits.specs.RowBits.{HasBits, labels_at}
use Rattle.fort_label_bits.proofs.numbered.write_inside.Given as goal

abbrev pub invariant-loop-k : goal.invariant-loop-k
invariant-loop-k l =
    (bits : List Bool) → length bits ≡ l.base → HasBits bits l.initial.out
    → HasBits (bits ++ map (λ p. number_inside l.base p (as_column l.root) (labels_at l.rows.labels l.row.kids)) (take l.k l.patterns)) l.out
