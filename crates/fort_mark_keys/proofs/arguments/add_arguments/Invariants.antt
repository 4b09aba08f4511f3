use Rattle.std.proofs.Common.{◌≡◌, ℕ, ◌||◌, take}
use Rattle.std.specs.List.{list_any}
use Rattle.fort_tuple_symbols.specs.Columns.{as_column}
use Rattle.fort_label_bits.specs.RowBits.{bit_of}
use Rattle.fort_mark_keys.specs.AskedPlaces.{adds_bit}
use Rattle.fort_mark_keys.proofs.arguments.add_arguments.Given as goal

abbrev pub invariant-loop-pattern : goal.invariant-loop-pattern
invariant-loop-pattern l =
    (q : ℕ) → bit_of q l.out ≡ (bit_of q l.initial.out || list_any (adds_bit l.base l.patterns (as_column l.root) l.place q) (take l.pattern-index l.patterns))
