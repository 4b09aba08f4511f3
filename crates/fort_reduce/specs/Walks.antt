-- Inside: what a walk over entries does to classes: either it leaves them, and something holds of them, or there are more.
use Rattle.std.specs.Prelude.{◌≡◌, ◌⊎◌, ℕ, ◌<◌, ◌≤◌, List, ◌++◌, map, length, get_or}
use Rattle.fort_tables.specs.Tuples.{TupleSymbol, kid_presence}
use Rattle.fort_tables.specs.Entries.{Entry, entry}
use Rattle.fort_tables.specs.Tables.{Table, IsTableEntry}
use Rattle.fort_target_lists.specs.Places.{number_of}
use Rattle.fort_tables.specs.Merges.{class_of, count_of, AreNumbered}
use Rattle.fort_tables.specs.Refinement.{leader_in}

pub data IsWalked (P : Type 0) (old_of old_leaders new_of new_leaders : List ℕ) : Type 0 where
  Kept : new_of ≡ old_of → new_leaders ≡ old_leaders → P → IsWalked P old_of old_leaders new_of new_leaders
  Grew : length old_leaders < length new_leaders → IsWalked P old_of old_leaders new_of new_leaders

-- one presence and one acceptance
abbrev pub AreLike : Table → ℕ → ℕ → Type 0
AreLike table p q = (get_or table.presences p 0 ≡ get_or table.presences q 0) × (table.accepting p ≡ table.accepting q)

-- the first n states in classes by presence and acceptance
pub record IsStartedTo (table : Table) (n : ℕ) (classes leaders : List ℕ) : Type 0 where
  pub count : length classes ≡ n
  pub few : length leaders ≤ n
  pub within : (q : ℕ) → q < n → class_of classes q < length leaders
  pub led_within : (c : ℕ) → c < length leaders → get_or leaders c 0 < n
  pub led_class : (c : ℕ) → c < length leaders → class_of classes (get_or leaders c 0) ≡ c
  pub like : (q : ℕ) → q < n → AreLike table q (leader_in classes leaders q)
  pub unlike : (c d : ℕ) → c < d → d < length leaders → AreLike table (get_or leaders c 0) (get_or leaders d 0) → ⊥

-- the first k states have their new numbers
pub record IsRenumberedTo (of : List ℕ) (count k : ℕ) (names new : List ℕ) (next : ℕ) : Type 0 where
  pub size : length names ≡ count
  pub made : length new ≡ k
  pub few : next ≤ k
  pub next_is : next ≡ count_of new
  pub numbered : AreNumbered new
  pub named : (q : ℕ) → q < k → get_or new q 0 ≡ get_or names (get_or of q 0) 0
  pub known : (q : ℕ) → q < k → get_or names (get_or of q 0) 0 < next
  pub other : (c : ℕ) → c < count → (get_or names c 0 ≡ 4294967295) ⊎ (get_or names c 0 < next)
  pub only : (c d : ℕ) → c < count → d < count → get_or names c 0 ≡ get_or names d 0 → get_or names c 0 < next → c ≡ d

-- the entry over the leaders of its children's classes
abbrev pub led_in : List ℕ → List ℕ → Entry → Entry
led_in classes leaders e = entry e.symbol (map (leader_in classes leaders) e.kids)

-- the entry leads to the class to which it leads with all its children's leaders
abbrev pub IsWholeIn : Table → List ℕ → List ℕ → Entry → Type 0
IsWholeIn table classes leaders e = class_of classes (table.target e) ≡ class_of classes (table.target (led_in classes leaders e))

-- so do all entries over these first children and n others
abbrev pub AreWholeUnder : Table → List ℕ → List ℕ → TupleSymbol → List ℕ → ℕ → Type 0
AreWholeUnder table classes leaders f before n =
    (ks : List ℕ) → length ks ≡ n → IsTableEntry table (entry f (before ++ ks)) → IsWholeIn table classes leaders (entry f (before ++ ks))

-- so do all entries of the first n tuple symbols
abbrev pub AreWholeBelow : Table → List ℕ → List ℕ → ℕ → ℕ → Type 0
AreWholeBelow table classes leaders base n =
    (e : Entry) → IsTableEntry table e → number_of base e.symbol < n → IsWholeIn table classes leaders e

-- these children may stand first in an entry of the tuple symbol
abbrev pub MayBegin : Table → TupleSymbol → List ℕ → Type 0
MayBegin table f before = (i : ℕ) → i < length before
    → (get_or before i 0 < length table.presences) × (get_or table.presences (get_or before i 0) 0 ≡ kid_presence table.signature f i)
