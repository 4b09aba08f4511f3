-- Numbers that can be written, element by element.
use Rattle.std.proofs.Common.{ℕ, suc, ◌+◌, ◌<◌, ◌^◌, List, [], ◌∷◌, ◌++◌, map, length, take, get_or, slice_get, Some, sym, subst, arith, ◌≡◌}
use Rattle.std.specs.List.{AllByRecursion}
use Rattle.std.proofs.lemmas.List.{map_more, take_more}
use Rattle.std.proofs.lemmas.Option.{slice_get_within, get_or_from_slice_get}
use Rattle.fort_certificate_theory.specs.CertificateText.{IsSmall}

pub all_small : (ns : List ℕ) → ((i : ℕ) → get_or ns i 0 < 2 ^ 32) → AllByRecursion IsSmall ns
all_small [] h = tt
all_small (n ∷ ns) h = (omega (arith, h 0), all_small ns (λ i. h (suc i)))

pub all_push : {B : Type 0} (P : B → Type 0) (ys : List B) (y : B) → AllByRecursion P ys → P y → AllByRecursion P (ys ++ y ∷ [])
all_push P [] y h p = (p, tt)
all_push P (z ∷ ys) y h p = (h.0, all_push P ys y h.1 p)

-- one more of a list
pub small_more : {A B : Type 0} (f : A → B) (P : B → Type 0) (xs : List A) (i : ℕ) (d : A) → i < length xs → AllByRecursion P (map f (take i xs))
    → P (f (get_or xs i d)) → AllByRecursion P (map f (take (i + 1) xs))
small_more f P xs i d l h p =
    subst (AllByRecursion P) (sym (map_more f xs i d l)) (all_push P (map f (take i xs)) (f (get_or xs i d)) h p)

-- one more of a list as it is
pub all_small_more : {A : Type 0} (P : A → Type 0) (xs : List A) (i : ℕ) (x : A) → slice_get xs i ≡ Some x → AllByRecursion P (take i xs) → P x
    → AllByRecursion P (take (i + 1) xs)
all_small_more P xs i x here h p =
    subst (AllByRecursion P) (sym (take_more xs i x (slice_get_within xs i x here)))
    (all_push P (take i xs) (get_or xs i x) h (subst P (sym (get_or_from_slice_get xs i x x here)) p))
