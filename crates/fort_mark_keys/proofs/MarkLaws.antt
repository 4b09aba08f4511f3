-- A mark that an atom's labels have no bit for is off in each label; so labels that are equal under the mask have equal bits of the marks that are asked.
use Rattle.std.specs.Prelude.{◌≡◌, ◌⊎◌, ℕ, suc, ◌*◌, ◌<◌, ◌≤◌, List, [], ◌∷◌, map, length, drop, get_or, Contains, Bool, true, false, if◌then◌else◌, refl}
use Rattle.std.proofs.Common.{sym, ap, subst, ◌∙◌, arith, inl, inr, ⊎_elim}
use Rattle.std.proofs.lemmas.Bool.{cases_lt}
use Rattle.std.proofs.lemmas.List.{length-map, get_or_past}
use Rattle.fort_theory.proofs.Members.{Contains-head, Contains-behind}
use Rattle.fort_tables.specs.Tuples.{TupleSymbol}
use Rattle.fort_tables.specs.BitRows.{has_bit, words_for}
use Rattle.fort_tables.proofs.BitRowLaws.{has_bit-bit_row, has_bit-bit_row_past}
use Rattle.fort_alike.specs.ListedAtoms.{Mark, ListedAtom}
use Rattle.fort_alike.specs.AtomRules.{marks_of, same_mark, place, row_of, has, bit_in}
use Rattle.fort_alike.proofs.Bits.{Decides-same_mark, has-row_of}
use Rattle.fort_mark_keys.specs.MaskedWords.{masked}
use Rattle.fort_mark_keys.specs.AskedMarks.{asks, asked_mask}
use Rattle.fort_mark_keys.proofs.MaskLaws.{bit-seen}

-- a mark is in a list, or its place is behind it
abbrev IsPlaced : List Mark → Mark → ℕ → Type 0
IsPlaced marks m k = Contains marks m ⊎ (k ≡ length marks)

placed-behind : (x : Mark) (xs : List Mark) (m : Mark) (t : Bool) → same_mark x m ≡ t → IsPlaced xs m (place xs m) → IsPlaced (x ∷ xs) m (if t then 0 else suc (place xs m))
placed-behind x xs m true e h = let is : x ≡ m = (Decides-same_mark x m).0 e in inl (subst (Contains (x ∷ xs)) is (Contains-head x xs))
placed-behind x xs m false e h = elim h [ inl c ↦ inl (Contains-behind x xs m c) | inr i ↦ inr (ap suc i) ]

placed : (marks : List Mark) (m : Mark) → IsPlaced marks m (place marks m)
placed [] m = inr refl
placed (x ∷ xs) m = placed-behind x xs m (same_mark x m) refl (placed xs m)

-- the bit behind those of all marks
bit-behind : (marks : List Mark) (n : ℕ) (b : Mark → Bool) → has_bit (drop 1 (row_of marks n b)) (length marks) ≡ false
bit-behind marks n b = ⊎_elim
    (λ (l : length marks < 64 * words_for (length marks)). has_bit-bit_row (length marks) (λ k. get_or (map b marks) k false) (length marks) l
    ∙ get_or_past (map b marks) (length marks) false (omega (arith, length-map marks b)))
    (λ (l : 64 * words_for (length marks) ≤ length marks). has_bit-bit_row_past (length marks) (λ k. get_or (map b marks) k false) (length marks) l)
    (cases_lt (length marks) (64 * words_for (length marks)))

-- Result: labels in which a mark is alike have the same bit of it, also where there is no bit for it
pub bit-same : (marks : List Mark) (n k : ℕ) (b c : Mark → Bool) (m : Mark) → b m ≡ c m → has marks (row_of marks n b) m ≡ has marks (row_of marks k c) m
bit-same marks n k b c m e = elim (placed marks m) [
  | inl here ↦ has-row_of marks n b m here ∙ (e ∙ sym (has-row_of marks k c m here))
  | inr past ↦ ap (λ i. has_bit (drop 1 (row_of marks n b)) i) past
      ∙ (bit-behind marks n b ∙ (sym (bit-behind marks k c) ∙ ap (λ i. has_bit (drop 1 (row_of marks k c)) i) (sym past)))
]

-- Result: labels that are equal under the mask have equal bits of each mark that is asked
pub asked-bit : (a : ListedAtom) (f : TupleSymbol) (j : ℕ) (n k : ℕ) (b c : Mark → Bool) (m : Mark)
    → masked (asked_mask a f j) (row_of (marks_of a) n b) ≡ masked (asked_mask a f j) (row_of (marks_of a) k c)
    → asks a f j m ≡ true → bit_in a m (row_of (marks_of a) n b) ≡ bit_in a m (row_of (marks_of a) k c)
asked-bit a f j n k b c m e on =
    elim (placed (marks_of a) m) [
      | inl here ↦ bit-seen (asked_mask a f j) (row_of (marks_of a) n b) (row_of (marks_of a) k c) (place (marks_of a) m) e (has-row_of (marks_of a) 0 (asks a f j) m here ∙ on)
      | inr past ↦ ap (λ i. has_bit (drop 1 (row_of (marks_of a) n b)) i) past
          ∙ (bit-behind (marks_of a) n b ∙ (sym (bit-behind (marks_of a) k c) ∙ ap (λ i. has_bit (drop 1 (row_of (marks_of a) k c)) i) (sym past)))
    ]
