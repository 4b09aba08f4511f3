-- To believe: the count of a state is the greatest height of its terms, or where infinitely many terms give it, its least child of which that is so; marks whose rules hold look only at a state's children.
use Rattle.std.specs.Prelude.{◌≡◌, ℕ, ◌<◌, ◌≤◌, List, [], ◌∷◌, length, get_or, ◌==◌, Bool, true, false, if◌then◌else◌}
use Rattle.fort_theory.specs.Logic.{HasInfinitelyMany}
use Rattle.fort_theory.specs.Trees.{Tree, height}
use Rattle.fort_tables.specs.Tables.{Table}
use Rattle.fort_tables.specs.PureStates.{GivesAlone, IsPureState, IsPureChild}

-- finitely many terms, of at most this height; infinitely many, as this child shows
pub data Count : Type 0 where
  Finite : ℕ → Count
  Infinite : ℕ → Count

abbrev pub is_infinite : Count → Bool
is_infinite (Finite r) = false
is_infinite (Infinite p) = true

-- marked finite with a number below r
abbrev pub IsFiniteBelow : (ℕ → Count) → ℕ → ℕ → Type 0
IsFiniteBelow mark r k = (s : ℕ) × (mark k ≡ Finite s) × (s < r)

-- "finite, at most r" holds by the marks of the children: each is finite with a number below r
abbrev pub KeepsFinite : Table → ℕ → (ℕ → Count) → ℕ → ℕ → Type 0
KeepsFinite body c mark q r = (k : ℕ) → IsPureChild body c q k → IsFiniteBelow mark r k

-- "infinite, by p" holds by the mark of p: p is a child, and marked infinite
pub record KeepsInfinite (body : Table) (c : ℕ) (mark : ℕ → Count) (q p : ℕ) : Type 0 where
  pub child : IsPureChild body c q p
  pub next : ℕ
  pub infinite : mark p ≡ Infinite next

abbrev pub KeepsRule : Table → ℕ → (ℕ → Count) → ℕ → Count → Type 0
KeepsRule body c mark q (Finite r) = KeepsFinite body c mark q r
KeepsRule body c mark q (Infinite p) = KeepsInfinite body c mark q p

-- the marks of all pure states hold by their rules
abbrev pub KeepRules : Table → ℕ → (ℕ → Count) → Type 0
KeepRules body c mark = (q : ℕ) → IsPureState body c q → KeepsRule body c mark q (mark q)

-- no term that gives q is higher than r, and some has that height
pub record IsGreatestHeight (body : Table) (c q r : ℕ) : Type 0 where
  pub bound : (u : Tree) → GivesAlone body c q u → height u ≤ r
  pub term : Tree
  pub gives : GivesAlone body c q term
  pub reaches : height term ≡ r

-- a child of q that infinitely many terms give
pub record IsInfiniteChild (body : Table) (c q p : ℕ) : Type 0 where
  pub child : IsPureChild body c q p
  pub many : HasInfinitelyMany (GivesAlone body c p)

-- infinitely many terms give q, and p is the least such child
pub record IsLeastInfinite (body : Table) (c q p : ℕ) : Type 0 where
  pub many : HasInfinitelyMany (GivesAlone body c q)
  pub child : IsInfiniteChild body c q p
  pub least : (k : ℕ) → IsInfiniteChild body c q k → p ≤ k

abbrev pub IsCountOf : Table → ℕ → ℕ → Count → Type 0
IsCountOf body c q (Finite r) = IsGreatestHeight body c q r
IsCountOf body c q (Infinite p) = IsLeastInfinite body c q p

-- the count beside a state
abbrev pub count_at : List ℕ → List Count → ℕ → Count
count_at [] counts q = Finite 0
count_at (p ∷ ps) [] q = Finite 0
count_at (p ∷ ps) (n ∷ ns) q = if p == q then n else count_at ps ns q

-- the counts of these pure states, which hold by their rules too
pub record AreCounts (body : Table) (c : ℕ) (states : List ℕ) (counts : List Count) : Type 0 where
  pub count : length counts ≡ length states
  pub are : (i : ℕ) → i < length counts → IsCountOf body c (get_or states i 0) (get_or counts i (Finite 0))
  pub rules : KeepRules body c (count_at states counts)
