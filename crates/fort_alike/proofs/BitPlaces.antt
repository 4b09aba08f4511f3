-- Where no mark stands twice, the bit of the mark at a place is the bit at that place.
use Rattle.std.specs.Prelude.{◌≡◌, ℕ, zero, suc, ◌<◌, List, [], ◌∷◌, length, drop, get_or, Bool, true, false, if◌then◌else◌, refl}
use Rattle.std.proofs.Common.{sym, ap, ◌∙◌, arith, true≢false}
use Rattle.fort_tables.specs.BitRows.{has_bit}
use Rattle.fort_alike.specs.ListedAtoms.{Mark}
use Rattle.fort_alike.specs.AtomRules.{same_mark, place, has}
use Rattle.fort_alike.proofs.Bits.{Decides-same_mark}

abbrev pub NoneTwice : List Mark → Type 0
NoneTwice xs = (i j : ℕ) (d : Mark) → i < j → j < length xs → get_or xs i d ≡ get_or xs j d → ⊥

NoneTwice-tail : (x : Mark) (xs : List Mark) → NoneTwice (x ∷ xs) → NoneTwice xs
NoneTwice-tail x xs h i j d l m e = h (suc i) (suc j) d (omega arith) (omega arith) e

place-behind : (x : Mark) (xs : List Mark) (m : Mark) (t : Bool) → same_mark x m ≡ t → (x ≡ m → ⊥) → (if t then 0 else suc (place xs m)) ≡ suc (place xs m)
place-behind x xs m true h n = absurd (n ((Decides-same_mark x m).0 h))
place-behind x xs m false h n = refl

place-head : (x : Mark) (xs : List Mark) (t : Bool) → same_mark x x ≡ t → (if t then 0 else suc (place xs x)) ≡ 0
place-head x xs true h = refl
place-head x xs false h = absurd (true≢false (sym ((Decides-same_mark x x).1 refl) ∙ h))

pub place-get_or : (xs : List Mark) (d : Mark) (k : ℕ) → NoneTwice xs → k < length xs → place xs (get_or xs k d) ≡ k
place-get_or [] d k h l = absurd (omega arith)
place-get_or (x ∷ xs) d zero h l = place-head x xs (same_mark x x) refl
place-get_or (x ∷ xs) d (suc k) h l =
    place-behind x xs (get_or xs k d) (same_mark x (get_or xs k d)) refl (λ e. h 0 (suc k) d (omega arith) l e)
    ∙ ap suc (place-get_or xs d k (NoneTwice-tail x xs h) (omega arith))

pub has_at : (xs : List Mark) (d : Mark) (k : ℕ) (w : List ℕ) → NoneTwice xs → k < length xs → has xs w (get_or xs k d) ≡ has_bit (drop 1 w) k
has_at xs d k w h l = ap (λ i. has_bit (drop 1 w) i) (place-get_or xs d k h l)
