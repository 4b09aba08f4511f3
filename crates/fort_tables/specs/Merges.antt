-- To believe: a merge gives each state of a table a class, numbered by first state, so that a class has one presence and one acceptance and each entry leads to the class that its children's first states lead to; the table of the classes.
use Rattle.std.specs.Prelude.{◌≡◌, ℕ, ◌<◌, ◌≤◌, ◌==◌, List, map, length, take, get_or}
use Rattle.std.specs.List.{position_or_len}
use Rattle.fort_tables.specs.Tuples.{tabulate}
use Rattle.fort_tables.specs.Entries.{Entry, entry, stage}
use Rattle.fort_tables.specs.Tables.{Table, IsTableEntry}
use Rattle.fort_tables.specs.Separation.{Separated}

-- the class of a state; the first state of a class
abbrev pub class_of : List ℕ → ℕ → ℕ
class_of classes q = get_or classes q 0

abbrev pub first_of : List ℕ → ℕ → ℕ
first_of classes c = position_or_len (λ n. n == c) classes

-- one more than the greatest class: how many there are, where they are numbered by first state
abbrev pub count_of : List ℕ → ℕ
count_of classes = stage classes

-- the first state of a state's class
abbrev pub leader : List ℕ → ℕ → ℕ
leader classes q = first_of classes (class_of classes q)

-- the entry with each child replaced by its class's first state
abbrev pub led : List ℕ → Entry → Entry
led classes e = entry e.symbol (map (leader classes) e.kids)

-- each class is one of those so far, or the next number
abbrev pub AreNumbered : List ℕ → Type 0
AreNumbered classes = (q : ℕ) → q < length classes → class_of classes q ≤ count_of (take q classes)

pub record IsMerge (table : Table) (classes : List ℕ) : Type 0 where
  pub count : length classes ≡ length table.presences
  pub numbered : AreNumbered classes
  pub columns : (q : ℕ) → q < length classes → get_or table.presences q 0 ≡ get_or table.presences (leader classes q) 0
  pub acceptance : (q : ℕ) → q < length classes → table.accepting q ≡ table.accepting (leader classes q)
  pub whole : (e : Entry) → IsTableEntry table e → class_of classes (table.target e) ≡ class_of classes (table.target (led classes e))

-- the entry over states that stands for one over classes
abbrev pub lifted : List ℕ → Entry → Entry
lifted classes e = entry e.symbol (map (first_of classes) e.kids)

abbrev pub merged : Table → List ℕ → Table
merged table classes = record {
  signature = table.signature;
  columns = table.columns;
  presences = tabulate (count_of classes) (λ c. get_or table.presences (first_of classes c) 0);
  target = λ e. class_of classes (table.target (lifted classes e));
  accepting = λ c. table.accepting (first_of classes c);
}

-- a merge that leaves nothing to be joined
pub record IsCoarsest (table : Table) (classes : List ℕ) : Type 0 where
  pub merge : IsMerge table classes
  pub apart : (p q : ℕ) → p < length classes → q < length classes → (class_of classes p ≡ class_of classes q → ⊥) → Separated table p q
