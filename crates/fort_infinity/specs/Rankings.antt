-- Inside: ranks in the making: how far each state has gone through its children, and which states wait for the rank of a state.
use Rattle.std.specs.Prelude.{◌≡◌, ℕ, suc, ◌+◌, ◌<◌, ◌≤◌, ◌⊎◌, ◌↔◌, ◌==◌, List, [], ◌∷◌, ◌++◌, length, get_or, slice_set, Contains, if◌then◌else◌}
use Rattle.fort_tables.specs.Tables.{Table}
use Rattle.fort_tables.specs.PureStates.{IsPureState, IsPureChild}
use Rattle.fort_tables.specs.Ranks.{HasOnlyChildren, AreRanks}
use Rattle.fort_infinity.specs.Children.{AreChildren}
use Rattle.fort_infinity.specs.RankTests.{IsEarlier, IsOpen}
use Rattle.fort_infinity.specs.declared.ranks.Ranking.{Ranking}

abbrev pub rank_of : Ranking → ℕ → ℕ
rank_of s q = get_or s.ranks.items q 0

abbrev pub passed_of : Ranking → ℕ → ℕ
passed_of s q = get_or s.passed.items q 0

abbrev pub waiting_of : Ranking → ℕ → List ℕ
waiting_of s q = get_or s.waiting q []

-- child number i of q
abbrev pub child_at : List (List ℕ) → ℕ → ℕ → ℕ
child_at children q i = get_or (get_or children q []) i 0

-- one place for each state
pub record HasRoom (s : Ranking) (states : ℕ) : Type 0 where
  pub ranks : length s.ranks.items ≡ states
  pub passed : length s.passed.items ≡ states
  pub waiting : length s.waiting ≡ states

-- q has gone on to a child that is open, and waits for it
pub record IsHeld (children : List (List ℕ)) (r q : ℕ) (old new : Ranking) (ranked again : List ℕ) : Type 0 where
  pub place : ℕ
  pub later : passed_of old q ≤ place
  pub within : place < length (get_or children q [])
  pub before : (i : ℕ) → passed_of old q ≤ i → i < place → IsEarlier old.ranks.items r (child_at children q i)
  pub is_open : IsOpen old.ranks.items r (child_at children q place)
  pub same_ranks : new.ranks.items ≡ old.ranks.items
  pub passed : new.passed.items ≡ slice_set old.passed.items q place
  pub count : length new.waiting ≡ length old.waiting
  pub waits : (k : ℕ) → waiting_of new k ≡ (if k == child_at children q place then waiting_of old k ++ q ∷ [] else waiting_of old k)
  pub same_ranked : again ≡ ranked

-- all children of q are of earlier rounds, and it has its rank
pub record IsRaised (children : List (List ℕ)) (r q : ℕ) (old new : Ranking) (ranked again : List ℕ) : Type 0 where
  pub before : (i : ℕ) → passed_of old q ≤ i → i < length (get_or children q []) → IsEarlier old.ranks.items r (child_at children q i)
  pub ranks : new.ranks.items ≡ slice_set old.ranks.items q (r + 1)
  pub same_passed : new.passed.items ≡ old.passed.items
  pub same_waiting : new.waiting ≡ old.waiting
  pub more_ranked : again ≡ ranked ++ q ∷ []

abbrev pub IsAdvanced : List (List ℕ) → ℕ → ℕ → Ranking → Ranking → List ℕ → List ℕ → Type 0
IsAdvanced children r q old new ranked again = IsHeld children r q old new ranked again ⊎ IsRaised children r q old new ranked again

-- q waits for a child with P
pub record IsWaiting (children : List (List ℕ)) (s : Ranking) (q : ℕ) (P : ℕ → Type 0) : Type 0 where
  pub within : passed_of s q < length (get_or children q [])
  pub waits : Contains (waiting_of s (child_at children q (passed_of s q))) q
  pub holds : P (child_at children q (passed_of s q))

-- in round r, where these states are left to try, and those are ranked
pub record AreTried (body : Table) (c : ℕ) (children : List (List ℕ)) (r : ℕ) (old s : Ranking) (left ranked : List ℕ) : Type 0 where
  pub column : c < body.columns
  pub are_children : AreChildren body c children
  pub room : HasRoom s (length body.presences)
  pub kept : (q i : ℕ) → rank_of old q ≡ suc i → rank_of s q ≡ suc i
  pub fresh : (q i : ℕ) → rank_of old q ≡ 0 → rank_of s q ≡ suc i → (i ≡ r) × HasOnlyChildren body c q (λ k. (n : ℕ) × (rank_of old k ≡ suc n))
  pub passed_by : (q i : ℕ) → i < passed_of s q → (n : ℕ) × (rank_of old (child_at children q i) ≡ suc n)
  pub waits : (q : ℕ) → IsPureState body c q → rank_of s q ≡ 0 → Contains left q ⊎ IsWaiting children s q (λ k. rank_of old k ≡ 0)
  pub pure_waiting : (k q : ℕ) → Contains (waiting_of s k) q → IsPureState body c q
  pub child_waited : (k q : ℕ) → Contains (waiting_of s k) q → IsPureChild body c q k
  pub pure_left : (q : ℕ) → Contains left q → IsPureState body c q
  pub are_ranked : (q : ℕ) → Contains ranked q → IsPureState body c q × (rank_of old q ≡ 0) × (rank_of s q ≡ suc r)
  pub all_ranked : (q : ℕ) → IsPureState body c q → rank_of old q ≡ 0 → rank_of s q ≡ suc r → Contains ranked q

-- before round r, which tries these states
pub record AreReady (body : Table) (c : ℕ) (children : List (List ℕ)) (r : ℕ) (s : Ranking) (tried : List ℕ) : Type 0 where
  pub ranks : AreRanks body c r (rank_of s)
  pub start : AreTried body c children r s s tried []

-- of some table
abbrev pub AreSomeReady : List (List ℕ) → ℕ → Ranking → List ℕ → Type 0
AreSomeReady children r s tried = (body : Table) × (c : ℕ) × AreReady body c children r s tried

-- exactly the states that wait for some of these
abbrev pub AreWoken : Ranking → List ℕ → List ℕ → Type 0
AreWoken s ranked woken = (q : ℕ) → Contains woken q ↔ ((k : ℕ) × Contains ranked k × Contains (waiting_of s k) q)

-- some pure state has no rank yet
abbrev pub HasUnranked : Table → ℕ → Ranking → Type 0
HasUnranked body c s = (q : ℕ) × IsPureState body c q × (rank_of s q ≡ 0)
