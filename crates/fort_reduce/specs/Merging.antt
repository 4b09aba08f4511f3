-- Inside: the first states of the classes, and how far the table of the classes has come.
use Rattle.std.specs.Prelude.{◌≡◌, ℕ, ◌<◌, ◌≤◌, List, length, get_or}
use Rattle.fort_tables.specs.Entries.{Entry}
use Rattle.fort_tables.specs.Tables.{Table, Made}
use Rattle.fort_tables.specs.Merges.{first_of, count_of, merged}

-- the first state of each class
pub record AreFirsts (classes leaders : List ℕ) : Type 0 where
  pub count : length leaders ≡ count_of classes
  pub are : (c : ℕ) → c < length leaders → get_or leaders c 0 ≡ first_of classes c

-- between two entries: the states so far are the first classes, and the targets are those of the table of the classes
pub record IsMerging (table : Table) (classes : List ℕ) (m : Made) : Type 0 where
  pub signature : m.signature ≡ table.signature
  pub columns_are : m.columns ≡ table.columns
  pub few : length m.presences ≤ count_of classes
  pub presences : (c : ℕ) → c < length m.presences → get_or m.presences c 0 ≡ get_or table.presences (first_of classes c) 0
  pub count : length m.targets ≡ length m.entries
  pub inside : (k : ℕ) → k < length m.targets → get_or m.targets k 0 < length m.presences
  pub are : (k : ℕ) (d : Entry) → k < length m.entries → get_or m.targets k 0 ≡ (merged table classes).target (get_or m.entries k d)
