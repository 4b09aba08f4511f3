-- Inside: the tuple symbols among whose children's presences a given one stands, as lists of digits.
use Rattle.std.specs.Prelude.{◌≡◌, ℕ, zero, suc, ◌+◌, ◌-◌, ◌/◌, ◌%◌, ◌≤◌, max, min, List, [], ◌∷◌, ◌++◌, map, length, ◌==◌, nat_lt, if◌then◌else◌}
use Rattle.std.specs.List.{flat_map, range_with_len}
use Rattle.fort_theory.specs.Signatures.{Signature}
use Rattle.fort_tuple_symbols.specs.Columns.{column_arity}
use Rattle.fort_tuple_symbols.specs.DigitNumbers.{AreUpTo}
use Rattle.fort_entry_walk.specs.Walks.{symbol_entries}
use Rattle.fort_entry_walk.specs.declared.candidates.KidRange.{KidRange}

-- the children that keep the presence with one more column, of this arity: those below it are present there
abbrev pub narrowed : KidRange → ℕ → KidRange
narrowed r a = if r.presence % 2 == 1 then record { presence = r.presence / 2; from = r.from; to = min r.to a } else record { presence = r.presence / 2; from = max r.from a; to = r.to }

-- those that keep it with all columns
abbrev pub left_over : Signature → KidRange → List ℕ → KidRange
left_over sig r [] = r
left_over sig r (d ∷ ds) = left_over sig (narrowed r (column_arity sig d)) ds

-- the lists of this many digits that leave some child, in order
abbrev pub candidates : Signature → KidRange → ℕ → List (List ℕ)
candidates sig r zero = if nat_lt r.from r.to then [] ∷ [] else []
candidates sig r (suc c) = flat_map (λ d. map (λ ds. d ∷ ds) (candidates sig (narrowed r (column_arity sig d)) c)) (range_with_len 0 (length sig + 1))

-- those whose first digit is among these
abbrev pub candidates_from : Signature → KidRange → ℕ → List ℕ → List (List ℕ)
candidates_from sig r c es = flat_map (λ d. map (λ ds. d ∷ ds) (candidates sig (narrowed r (column_arity sig d)) c)) es

-- those of them after one
abbrev pub candidates_after : Signature → KidRange → List ℕ → List (List ℕ)
candidates_after sig r [] = []
candidates_after sig r (d ∷ ds) = map (λ es. d ∷ es) (candidates_after sig (narrowed r (column_arity sig d)) ds) ++ candidates_from sig r (length ds) (range_with_len (d + 1) (length sig + 1 - (d + 1)))

-- what leaves no child has no entry at the stage
abbrev pub LeavesOut : Signature → List ℕ → ℕ → KidRange → Type 0
LeavesOut sig ps s r = (ds : List ℕ) → AreUpTo (length sig) ds → (left_over sig r ds).to ≤ (left_over sig r ds).from → symbol_entries sig ps s ds ≡ []
