use Rattle.std.proofs.Common.{◌≡◌, ℕ, map}
use Rattle.fort_tables.specs.BitRows.{has_bit}
use Rattle.fort_tuple_symbols.specs.Columns.{as_column}
use Rattle.fort_mark_keys.specs.AskedTerms.{asks_number}
use Rattle.fort_mark_keys.proofs.SubtermListLaws.{told}
use Rattle.fort_mark_keys.proofs.term_keys.set_numbers.Given as goal

abbrev pub invariant-loop-k : goal.invariant-loop-k
invariant-loop-k l = (q : ℕ) → has_bit l.out q ≡ told (asks_number (map (λ t. t.now) l.listed) (as_column l.root) l.place) l.k q
