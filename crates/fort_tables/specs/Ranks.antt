-- Inside: the rank of a state is 0 as long as it has none, else one more than the greatest height of its terms; ranks are found in rounds.
use Rattle.std.specs.Prelude.{◌≡◌, ℕ, zero, suc, ◌+◌, ◌<◌, ◌≤◌, ◌⊎◌, length, Bool, ◌||◌, ◌==◌, not, if◌then◌else◌}
use Rattle.fort_tables.specs.Tables.{Table}
use Rattle.fort_tables.specs.Projections.{is_pure}
use Rattle.fort_tables.specs.PureStates.{IsPureState, IsPureChild}
use Rattle.fort_tables.specs.Counts.{Count, Finite, Infinite}

-- some child of q has P
pub record HasChild (body : Table) (c q : ℕ) (P : ℕ → Type 0) : Type 0 where
  pub state : ℕ
  pub child : IsPureChild body c q state
  pub holds : P state

-- each child of q has P
abbrev pub HasOnlyChildren : Table → ℕ → ℕ → (ℕ → Type 0) → Type 0
HasOnlyChildren body c q P = (k : ℕ) → IsPureChild body c q k → P k

-- a rank, of a height below s
abbrev pub IsRankedBelow : (ℕ → ℕ) → ℕ → ℕ → Type 0
IsRankedBelow rank s k = (i : ℕ) × (rank k ≡ suc i) × (i < s)

-- how many numbers below n pass
abbrev pub count_below : ℕ → (ℕ → Bool) → ℕ
count_below zero p = 0
count_below (suc n) p = count_below n p + (if p n then 1 else 0)

-- whether there is no rank left to find for q
abbrev pub is_done : Table → ℕ → (ℕ → ℕ) → ℕ → Bool
is_done body c rank q = not (is_pure body c q) || not (rank q == 0)

-- what is so after r rounds: the states of heights below r have their ranks
pub record AreRanks (body : Table) (c r : ℕ) (rank : ℕ → ℕ) : Type 0 where
  pub small : (q s : ℕ) → IsPureState body c q → rank q ≡ suc s → s < r
  pub children : (q s : ℕ) → IsPureState body c q → rank q ≡ suc s → HasOnlyChildren body c q (IsRankedBelow rank s)
  pub tight : (q s : ℕ) → IsPureState body c q → rank q ≡ suc (suc s) → HasChild body c q (λ k. rank k ≡ suc s)
  pub later : (q : ℕ) → IsPureState body c q → rank q ≡ 0 → (r ≡ 0) ⊎ HasChild body c q (λ k. (rank k ≡ 0) ⊎ (r ≤ rank k))
  pub many : r ≤ count_below (length body.presences) (is_done body c rank)

-- a state without a rank gets one where each child has one
abbrev pub IsTurned : Table → ℕ → ℕ → (ℕ → ℕ) → ℕ → ℕ → Type 0
IsTurned body c r old q new = ((new ≡ suc r) × HasOnlyChildren body c q (λ k. (i : ℕ) × (old k ≡ suc i))) ⊎ ((new ≡ 0) × HasChild body c q (λ k. old k ≡ 0))

-- a round after r others
pub record IsRound (body : Table) (c r : ℕ) (old new : ℕ → ℕ) : Type 0 where
  pub kept : (q s : ℕ) → IsPureState body c q → old q ≡ suc s → new q ≡ suc s
  pub turned : (q : ℕ) → IsPureState body c q → old q ≡ 0 → IsTurned body c r old q (new q)

-- ranks to which no round adds
pub record AreSettled (body : Table) (c : ℕ) (rank : ℕ → ℕ) : Type 0 where
  pub children : (q s : ℕ) → IsPureState body c q → rank q ≡ suc s → HasOnlyChildren body c q (IsRankedBelow rank s)
  pub tight : (q s : ℕ) → IsPureState body c q → rank q ≡ suc (suc s) → HasChild body c q (λ k. rank k ≡ suc s)
  pub cycles : (q : ℕ) → IsPureState body c q → rank q ≡ 0 → HasChild body c q (λ k. rank k ≡ 0)

-- the least child of q without a rank
pub record IsLeastUnranked (body : Table) (c : ℕ) (rank : ℕ → ℕ) (q p : ℕ) : Type 0 where
  pub child : IsPureChild body c q p
  pub none : rank p ≡ 0
  pub least : (k : ℕ) → IsPureChild body c q k → rank k ≡ 0 → p ≤ k

-- the count by the rank, and by the least child without one
abbrev pub count_by : ℕ → ℕ → Count
count_by zero next = Infinite next
count_by (suc s) next = Finite s
