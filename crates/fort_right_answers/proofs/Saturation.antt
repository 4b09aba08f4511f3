-- Saturation: where a test finds elements of a finite list by those found so far, the search ends with a list by which no other element passes.
use Rattle.std.proofs.Common.{◌≡◌, ◌⊎◌, ℕ, zero, suc, ◌≤◌, List, [], ◌∷◌, ◌++◌, length, length-append, Bool, true, false, refl, ap, arith, subst, inl, inr, ⊎_elim}
use Rattle.std.specs.Prelude.{Contains}
use Rattle.std.proofs.lemmas.List.Elements.{Contains-append_cases, Contains-append_left, Contains-append_right}
use Rattle.fort_theory.proofs.Members.{Contains-head, Contains-behind, Contains-cons_cases, Contains-none}

-- an element that passes, between the others
record IsSplit {A : Type 0} (p : A → Bool) (xs : List A) : Type 0 where
  before : List A
  found : A
  after : List A
  is : xs ≡ before ++ found ∷ after
  passes : p found ≡ true

abbrev NonePasses : {A : Type 0} → (A → Bool) → List A → Type 0
NonePasses {A} p xs = (x : A) → Contains xs x → p x ≡ false

split : {A : Type 0} (p : A → Bool) (xs : List A) → NonePasses p xs ⊎ IsSplit p xs
split p [] = inl (λ x c. absurd (Contains-none x c))
split p (x ∷ xs) = by (p x) refl (split p xs)
  where
    by : (b : Bool) → p x ≡ b → NonePasses p xs ⊎ IsSplit p xs → NonePasses p (x ∷ xs) ⊎ IsSplit p (x ∷ xs)
    by true e rest = inr (record { before = []; found = x; after = xs; is = refl; passes = e })
    by false e (inl none) = inl (λ y c. ⊎_elim (λ s. subst (λ z. p z ≡ false) s e) (λ d. none y d) (Contains-cons_cases x xs y c))
    by false e (inr s) = inr (record { before = x ∷ s.before; found = s.found; after = s.after; is = ap (λ ys. x ∷ ys) s.is; passes = s.passes })

-- elements that keep P, and of all others none passes
pub record HasSaturation {A : Type 0} (more : List A → A → Bool) (P : List A → Type 0) (all : List A) : Type 0 where
  pub found : List A
  pub kept : P found
  pub saturated : (x : A) → Contains all x → (more found x ≡ false) ⊎ Contains found x

module _ (A : Type 0) (more : List A → A → Bool) (P : List A → Type 0) (all : List A) (keeps : (xs : List A) (x : A) → P xs → more xs x ≡ true → P (x ∷ xs)) where
  -- each element is left, or found
  abbrev AreLeft : List A → List A → Type 0
  AreLeft found left = (x : A) → Contains all x → Contains left x ⊎ Contains found x

  less_left : (found left : List A) (s : IsSplit (more found) left) → AreLeft found left → AreLeft (s.found ∷ found) (s.before ++ s.after)
  less_left found left s h x c =
      ⊎_elim
      (λ l. ⊎_elim
      (λ d. inl (Contains-append_left s.before s.after x d))
      (λ d. ⊎_elim
      (λ e. inr (subst (Contains (s.found ∷ found)) e (Contains-head s.found found)))
      (λ f. inl (Contains-append_right s.before s.after x f))
      (Contains-cons_cases s.found s.after x d))
      (Contains-append_cases s.before (s.found ∷ s.after) x (subst (λ ys. Contains ys x) s.is l)))
      (λ l. inr (Contains-behind s.found found x l))
      (h x c)

  none_more : (found left : List A) → P found → AreLeft found left → NonePasses (more found) left → HasSaturation more P all
  none_more found left kept h none = record { found = found; kept = kept; saturated = λ x c. ⊎_elim (λ l. inl (none x l)) (λ f. inr f) (h x c) }

  saturation_from : (n : ℕ) (found left : List A) → length left ≤ n → P found → AreLeft found left → HasSaturation more P all
  saturation_from zero found left low kept h =
      ⊎_elim (λ none. none_more found left kept h none)
      (λ s. absurd (omega (arith, ap length s.is, length-append s.before (s.found ∷ s.after))))
      (split (more found) left)
  saturation_from (suc n) found left low kept h =
      ⊎_elim (λ none. none_more found left kept h none)
      (λ s. saturation_from n (s.found ∷ found) (s.before ++ s.after)
      (omega (arith, ap length s.is, length-append s.before (s.found ∷ s.after), length-append s.before s.after)) (keeps found s.found kept s.passes) (less_left found left s h))
      (split (more found) left)

  -- Result: a list that is saturated
  pub saturation_exists : P [] → HasSaturation more P all
  saturation_exists start = saturation_from (length all) [] all (omega arith) start (λ x c. inl c)
