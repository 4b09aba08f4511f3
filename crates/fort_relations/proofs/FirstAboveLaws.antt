-- The first number above a bound in two lists: that of the first one, or else that of the second.
use Rattle.std.proofs.Common.{◌≡◌, ℕ, Bool, true, false, List, [], ◌∷◌, ◌++◌, refl, None, Some}
use Rattle.std.specs.Prelude.{ltb, if◌then◌else◌}
use Rattle.fort_relations.specs.FirstAbove.{first_above}

module _ (bound : ℕ) where
  pub first_above-none : (xs ys : List ℕ) → None ≡ first_above bound xs → first_above bound ys ≡ first_above bound (xs ++ ys)
  first_above-none [] ys h = refl
  first_above-none (x ∷ xs) ys h = by (ltb bound x) (first_above-none xs ys) h
    where
      by : (above : Bool) → (None ≡ first_above bound xs → first_above bound ys ≡ first_above bound (xs ++ ys))
          → None ≡ (if above then Some x else first_above bound xs)
          → first_above bound ys ≡ (if above then Some x else first_above bound (xs ++ ys))
      by true rest e = absurd cc
      by false rest e = rest e

  pub first_above-some : (xs ys : List ℕ) → (None ≡ first_above bound xs → ⊥) → first_above bound xs ≡ first_above bound (xs ++ ys)
  first_above-some [] ys h = absurd (h refl)
  first_above-some (x ∷ xs) ys h = by (ltb bound x) (first_above-some xs ys) h
    where
      by : (above : Bool) → ((None ≡ first_above bound xs → ⊥) → first_above bound xs ≡ first_above bound (xs ++ ys))
          → (None ≡ (if above then Some x else first_above bound xs) → ⊥)
          → (if above then Some x else first_above bound xs) ≡ (if above then Some x else first_above bound (xs ++ ys))
      by true rest e = refl
      by false rest e = rest e
