-- To believe: the closure that is written: passes over all pairs in their numbering, each of which lists a pair as soon as it follows from those listed so far, with the first reason, until a pass lists nothing.
use Rattle.std.specs.Prelude.{◌⊎◌, ℕ, ◌+◌, ◌<◌, ◌≤◌, List, map, take, Option, None, Some, get_or, length}
use Rattle.std.specs.List.{last_or}
use Rattle.fort_alike.specs.ListedClosures as closures
use Rattle.fort_alike.specs.ListedClosures.{Why, Pair as Item}
use Rattle.fort_certificate_theory.specs.ClosureSteps.{ClosureRules, IsListed, FollowsBy, FollowsAt, number}

-- the pair follows and isn't listed
pub record IsDuePair (c : ClosureRules) (items : List Item) (p q : ℕ) : Type 0 where
  pub right : p < length c.rights
  pub left : q < length c.lefts
  pub unlisted : IsListed items p q → ⊥
  pub follows : FollowsAt c items p q

-- Any, then the arguments, then the rules by number
abbrev pub rank : Why → ℕ
rank closures.Any = 0
rank closures.Kids = 1
rank (closures.Rule k) = 2 + k

pub record IsFirstReason (c : ClosureRules) (items : List Item) (p q : ℕ) (why : Why) : Type 0 where
  pub follows : FollowsBy c items p q why
  pub first : (other : Why) → FollowsBy c items p q other → rank why ≤ rank other

-- the number of the last item, if there is one
abbrev pub last_number : ClosureRules → List Item → Option ℕ
last_number c items = last_or None (map (λ (e : Item). number c e.p e.q) items)

-- going up from the last number, and on from 0 in the next pass, n comes before m
abbrev pub IsPassed : Option ℕ → (m n : ℕ) → Type 0
IsPassed None m n = n < m
IsPassed (Some last) m n = ((last < n) × (n < m)) ⊎ ((m ≤ last) × ((last < n) ⊎ (n < m)))

-- the item is the first pair that is due on the way from the last one
pub record IsNextItem (c : ClosureRules) (earlier : List Item) (e : Item) : Type 0 where
  pub due : IsDuePair c earlier e.p e.q
  pub reason : IsFirstReason c earlier e.p e.q e.why
  pub nearest : (p q : ℕ) → IsDuePair c earlier p q → IsPassed (last_number c earlier) (number c e.p e.q) (number c p q) → ⊥

pub record IsListOfPasses (c : ClosureRules) (items : List Item) : Type 0 where
  pub each : (k : ℕ) (d : Item) → k < length items → IsNextItem c (take k items) (get_or items k d)
  pub done : (p q : ℕ) → IsDuePair c items p q → ⊥
