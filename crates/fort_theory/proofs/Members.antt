-- What it is to be in a list: at its head or behind it, and where a filter leaves it in.
use Rattle.std.specs.Prelude.{◌≡◌, ℕ, zero, suc, ◌==◌, Bool, true, List, [], ◌∷◌, ◌⊎◌, filter, Contains, refl}
use Rattle.std.specs.Bool.{Decides}
use Rattle.std.specs.List.{list_any}
use Rattle.std.proofs.Common.{ap, ◌∙◌, arith, inl, inr}
use Rattle.std.proofs.lemmas.Bool.{cases_Bool}
use Rattle.std.proofs.lemmas.Bool.Decides.{Decides-by_or, Decides-eqb}
use Rattle.std.proofs.lemmas.List.Elements.{Decides-contains, All-contains, All-contains_itself, All-filter, filter_passes}

pub Contains-head : {A : Type 0} (x : A) (xs : List A) → Contains (x ∷ xs) x
Contains-head x xs = (0, omega arith, refl)

pub Contains-behind : {A : Type 0} (x : A) (xs : List A) (y : A) → Contains xs y → Contains (x ∷ xs) y
Contains-behind x xs y (k, l, e) = (suc k, omega arith, e)

pub Contains-cons_cases : {A : Type 0} (x : A) (xs : List A) (y : A) → Contains (x ∷ xs) y → (x ≡ y) ⊎ Contains xs y
Contains-cons_cases x xs y (zero, l, e) = inl e
Contains-cons_cases x xs y (suc k, l, e) = inr (k, omega arith, e)

pub Contains-none : {A : Type 0} (y : A) → Contains [] y → ⊥
Contains-none y (k, l, e) = omega arith

pub Contains-from_filter : {A : Type 0} (p : A → Bool) (xs : List A) (y : A) → Contains (filter p xs) y → Contains xs y × (p y ≡ true)
Contains-from_filter p xs y c = (
  All-contains (Contains xs) (filter p xs) y (All-filter p (Contains xs) xs (All-contains_itself xs)) c,
  All-contains (λ x. p x ≡ true) (filter p xs) y (filter_passes p xs) c,
)

pub Contains-filter : {A : Type 0} (p : A → Bool) (xs : List A) (y : A) → Contains xs y → p y ≡ true → Contains (filter p xs) y
Contains-filter p [] y c h = absurd (Contains-none y c)
Contains-filter p (x ∷ xs) y (zero, l, e) h = rw (ap p e ∙ h) (0, omega arith, e)
Contains-filter p (x ∷ xs) y (suc k, l, e) h =
    let rest = Contains-filter p xs y (k, omega arith, e) h in
    elim (cases_Bool (p x)) [
      | inl here ↦ rw here (Contains-behind x (filter p xs) y rest)
      | inr skipped ↦ rw skipped rest
    ]

pub Contains-Decides : (xs : List ℕ) (n : ℕ) → Decides (list_any (λ x. x == n) xs) (Contains xs n)
Contains-Decides xs n =
    Decides-contains xs n (list_any (λ x. x == n) xs)
    (Decides-by_or (λ x. x == n) (λ x. x ≡ n) (list_any (λ x. x == n)) (λ x. Decides-eqb x n) refl (λ _ _. refl) xs)
