-- The first place of a list that passes a test, and the places of a list that is mapped.
use Rattle.std.proofs.Common.{◌≡◌, ℕ, zero, suc, ◌<◌, ◌≤◌, List, [], ◌∷◌, ◌++◌, Bool, true, false, cond, ltb, length, get_or, map, take, ap, sym, ◌∙◌, refl, subst, arith, Some, None, inl, inr, ◌⊎◌, ltb-true, ltb-false}
use Rattle.std.specs.Prelude.{slice_get, position, Contains}
use Rattle.std.specs.List.{position_or_len}
use Rattle.std.proofs.lemmas.List.Sums.{passes_at_first, fails_before_first}
use Rattle.std.proofs.lemmas.Option.{slice_get-get_or, get_or_from_slice_get, slice_get_within}
use Rattle.fort_theory.proofs.Lists.{none-some, some-injective}
use Rattle.fort_theory.proofs.Members.{Contains-head, Contains-behind, Contains-cons_cases, Contains-none}
use Rattle.fort_tree_automata.proofs.Truths.{not_both}

-- the element at this place passes
pub record PassesAt {X : Type 0} (p : X → Bool) (xs : List X) (k : ℕ) : Type 0 where
  pub item : X
  pub at : slice_get xs k ≡ Some item
  pub passes : p item ≡ true

passes_in : {X : Type 0} (p : X → Bool) (xs : List X) → position_or_len p xs < length xs → PassesAt p xs (position_or_len p xs)
passes_in p [] lt = absurd (omega arith)
passes_in p (x ∷ xs) lt = record {
  item = get_or (x ∷ xs) (position_or_len p (x ∷ xs)) x;
  at = slice_get-get_or (x ∷ xs) (position_or_len p (x ∷ xs)) x lt;
  passes = passes_at_first p (x ∷ xs) x lt;
}

fails_before : {X : Type 0} (p : X → Bool) (xs : List X) (k : ℕ) → k < position_or_len p xs → PassesAt p xs k → ⊥
fails_before p xs k lt h =
    not_both h.passes (ap p (sym (get_or_from_slice_get xs k h.item h.item h.at)) ∙ fails_before_first p xs k h.item lt)

some_by : {X : Type 0} (p : X → Bool) (xs : List X) (k : ℕ) (b : Bool) → ltb (position_or_len p xs) (length xs) ≡ b
    → cond b (Some (position_or_len p xs)) None ≡ Some k → (position_or_len p xs ≡ k) × (position_or_len p xs < length xs)
some_by p xs k true e h = (some-injective h, ltb-true _ _ e)
some_by p xs k false e h = absurd (none-some h)

none_by : {X : Type 0} (p : X → Bool) (xs : List X) (b : Bool) → ltb (position_or_len p xs) (length xs) ≡ b
    → cond b (Some (position_or_len p xs)) None ≡ None → length xs ≤ position_or_len p xs
none_by p xs true e h = absurd (none-some (sym h))
none_by p xs false e h = ltb-false _ _ e

pub position-passes : {X : Type 0} (p : X → Bool) (xs : List X) (k : ℕ) → position p xs ≡ Some k → PassesAt p xs k
position-passes p xs k h =
    let w = some_by p xs k (ltb (position_or_len p xs) (length xs)) refl h in
    subst (PassesAt p xs) w.0 (passes_in p xs w.1)

pub position-first : {X : Type 0} (p : X → Bool) (xs : List X) (k j : ℕ) → position p xs ≡ Some k → j < k → PassesAt p xs j → ⊥
position-first p xs k j h lt =
    let w = some_by p xs k (ltb (position_or_len p xs) (length xs)) refl h in
    fails_before p xs j (omega (arith, w.0))

pub position-none : {X : Type 0} (p : X → Bool) (xs : List X) (k : ℕ) → position p xs ≡ None → PassesAt p xs k → ⊥
position-none p xs k h there =
    let past = none_by p xs (ltb (position_or_len p xs) (length xs)) refl h in
    let within = slice_get_within xs k there.item there.at in
    fails_before p xs k (omega (arith, past, within)) there

pub position-within : {X : Type 0} (p : X → Bool) (xs : List X) (k : ℕ) → position p xs ≡ Some k → k < length xs
position-within p xs k h = let there = position-passes p xs k h in slice_get_within xs k there.item there.at

-- the place of an element
pub place-Contains : {X : Type 0} (xs : List X) (x : X) → Contains xs x → (k : ℕ) × (slice_get xs k ≡ Some x)
place-Contains [] x c = absurd (Contains-none x c)
place-Contains (y ∷ ys) x c = elim (Contains-cons_cases y ys x c) [
  | inl e ↦ (0, ap Some e)
  | inr there ↦ let w = place-Contains ys x there in (suc w.0, w.1)
]

pub Contains-place : {X : Type 0} (xs : List X) (k : ℕ) (x : X) → slice_get xs k ≡ Some x → Contains xs x
Contains-place [] k x h = absurd (none-some h)
Contains-place (y ∷ ys) zero x h = subst (Contains (y ∷ ys)) (some-injective h) (Contains-head y ys)
Contains-place (y ∷ ys) (suc k) x h = Contains-behind y ys x (Contains-place ys k x h)

pub place-map : {X Y : Type 0} (f : X → Y) (xs : List X) (k : ℕ) (x : X) → slice_get xs k ≡ Some x → slice_get (map f xs) k ≡ Some (f x)
place-map f [] k x h = absurd (none-some h)
place-map f (y ∷ ys) zero x h = ap (λ z. Some (f z)) (some-injective h)
place-map f (y ∷ ys) (suc k) x h = place-map f ys k x h

pub place-from_map : {X Y : Type 0} (f : X → Y) (xs : List X) (k : ℕ) (y : Y) → slice_get (map f xs) k ≡ Some y → (x : X) × (slice_get xs k ≡ Some x) × (f x ≡ y)
place-from_map f [] k y h = absurd (none-some h)
place-from_map f (x ∷ xs) zero y h = (x, refl, some-injective h)
place-from_map f (x ∷ xs) (suc k) y h = place-from_map f xs k y h

pub place-take : {X : Type 0} (xs : List X) (n k : ℕ) (x : X) → slice_get (take n xs) k ≡ Some x → (k < n) × (slice_get xs k ≡ Some x)
place-take xs zero k x h = absurd (none-some h)
place-take [] (suc n) k x h = absurd (none-some h)
place-take (y ∷ ys) (suc n) zero x h = (omega arith, h)
place-take (y ∷ ys) (suc n) (suc k) x h = let w = place-take ys n k x h in (omega (arith, w.0), w.1)

pub take-place : {X : Type 0} (xs : List X) (n k : ℕ) (x : X) → k < n → slice_get xs k ≡ Some x → slice_get (take n xs) k ≡ Some x
take-place xs zero k x lt h = absurd (omega (arith, lt))
take-place [] (suc n) k x lt h = absurd (none-some h)
take-place (y ∷ ys) (suc n) zero x lt h = h
take-place (y ∷ ys) (suc n) (suc k) x lt h = take-place ys n k x (omega (arith, lt)) h

-- the places of a list with one more element
pub place-push : {X : Type 0} (xs : List X) (y : X) (k : ℕ) (x : X) → slice_get (xs ++ y ∷ []) k ≡ Some x
    → ((k < length xs) × (slice_get xs k ≡ Some x)) ⊎ ((k ≡ length xs) × (y ≡ x))
place-push [] y zero x h = inr (refl, some-injective h)
place-push [] y (suc k) x h = absurd (none-some h)
place-push (z ∷ zs) y zero x h = inl (omega arith, h)
place-push (z ∷ zs) y (suc k) x h = elim (place-push zs y k x h) [
  | inl w ↦ inl (omega (arith, w.0), w.1)
  | inr w ↦ inr (ap suc w.0, w.1)
]
