-- Inside: the first states of the classes of a front of states.
use Rattle.std.specs.Prelude.{◌≡◌, ℕ, ◌<◌, ◌≤◌, List, take, length, get_or}
use Rattle.fort_tables.specs.Tables.{Table}
use Rattle.fort_tables.specs.Merges.{first_of, count_of}
use Rattle.fort_tables.specs.MergeOutcomes.{AreClassesTo}

-- the first state of each class of the first q states
pub record AreLeadersTo (classes : List ℕ) (q : ℕ) (leaders : List ℕ) : Type 0 where
  pub count : length leaders ≡ count_of (take q classes)
  pub few : length leaders ≤ q
  pub are : (c : ℕ) → c < length leaders → get_or leaders c 0 ≡ first_of classes c
  pub below : (c : ℕ) → c < length leaders → get_or leaders c 0 < q
  pub late : (c : ℕ) → c < length leaders → c ≤ get_or leaders c 0

-- all states have right classes, with these first states
pub record AreClassed (table : Table) (classes leaders : List ℕ) : Type 0 where
  pub right : AreClassesTo table classes (length classes)
  pub firsts : AreLeadersTo classes (length classes) leaders

-- places in so many elements, each no earlier than its own in the list
pub record ArePlaces (places : List ℕ) (count : ℕ) : Type 0 where
  pub within : (c : ℕ) → c < length places → get_or places c 0 < count
  pub late : (c : ℕ) → c < length places → c ≤ get_or places c 0
