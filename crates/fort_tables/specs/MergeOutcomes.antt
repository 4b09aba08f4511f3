-- To believe: what comes of a merge step on a table: it is a merge; or its numbers aren't as many as the states; or a first state has no right class; or, all states having right classes, a first entry leads elsewhere than with its children's first states.
use Rattle.std.specs.Prelude.{◌≡◌, ℕ, ◌<◌, ◌≤◌, List, length, take, get_or}
use Rattle.fort_tables.specs.Entries.{Entry, AreInOrder, HasAllEntries}
use Rattle.fort_tables.specs.Tables.{Table}
use Rattle.fort_tables.specs.Merges.{class_of, count_of, leader, led, IsMerge}

pub data MergeOutcome : Type 0 where
  Merges : MergeOutcome
  WrongCount : MergeOutcome
  WrongClass : (state : ℕ) → MergeOutcome
  IsSplitAt : (entry : ℕ) → MergeOutcome

-- the state's class is one so far or the next, and it has what its class's first state has
pub record IsClassAt (table : Table) (classes : List ℕ) (q : ℕ) : Type 0 where
  pub numbered : class_of classes q ≤ count_of (take q classes)
  pub columns : get_or table.presences q 0 ≡ get_or table.presences (leader classes q) 0
  pub acceptance : table.accepting q ≡ table.accepting (leader classes q)

-- as many as states, of which the first n have right classes
pub record AreClassesTo (table : Table) (classes : List ℕ) (n : ℕ) : Type 0 where
  pub count : length classes ≡ length table.presences
  pub right : (q : ℕ) → q < n → IsClassAt table classes q

abbrev pub IsWholeAt : Table → List ℕ → Entry → Type 0
IsWholeAt table classes e = class_of classes (table.target e) ≡ class_of classes (table.target (led classes e))

-- the table's entries, each once and in order
pub record AreEntriesOf (table : Table) (entries : List Entry) : Type 0 where
  pub order : AreInOrder table.signature table.columns table.presences entries
  pub all : HasAllEntries table.signature table.columns table.presences entries

pub data IsMergeOutcome (table : Table) (classes : List ℕ) : MergeOutcome → Type 0 where
  IsRight : IsMerge table classes → IsMergeOutcome table classes Merges
  NotAsMany : (length classes ≡ length table.presences → ⊥) → IsMergeOutcome table classes WrongCount
  NotOfClass : (q : ℕ) → AreClassesTo table classes q → q < length classes → (IsClassAt table classes q → ⊥) → IsMergeOutcome table classes (WrongClass q)
  NotWhole : (entries : List Entry) (i : ℕ) (d : Entry) → AreEntriesOf table entries → AreClassesTo table classes (length classes) → i < length entries
      → ((k : ℕ) → k < i → IsWholeAt table classes (get_or entries k d)) → (IsWholeAt table classes (get_or entries i d) → ⊥)
      → IsMergeOutcome table classes (IsSplitAt i)
