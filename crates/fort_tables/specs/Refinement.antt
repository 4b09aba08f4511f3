-- Inside: classes of states on the way to the coarsest, each with one of its states, its leader; states of different classes are separated.
use Rattle.std.specs.Prelude.{◌≡◌, ℕ, ◌<◌, ◌==◌, List, length, get_or, if◌then◌else◌}
use Rattle.fort_tables.specs.Tuples.{TupleSymbol}
use Rattle.fort_tables.specs.Entries.{Entry}
use Rattle.fort_tables.specs.Tables.{Table}
use Rattle.fort_tables.specs.Separation.{entry_with, Separated}
use Rattle.fort_tables.specs.Merges.{class_of, AreNumbered}

-- the leader of a state's class
abbrev pub leader_in : List ℕ → List ℕ → ℕ → ℕ
leader_in classes leaders q = get_or leaders (class_of classes q) 0

pub record IsRefined (table : Table) (classes leaders : List ℕ) : Type 0 where
  pub count : length classes ≡ length table.presences
  pub within : (q : ℕ) → q < length classes → class_of classes q < length leaders
  pub led_within : (c : ℕ) → c < length leaders → get_or leaders c 0 < length classes
  pub led_class : (c : ℕ) → c < length leaders → class_of classes (get_or leaders c 0) ≡ c
  pub columns : (q : ℕ) → q < length classes → get_or table.presences q 0 ≡ get_or table.presences (leader_in classes leaders q) 0
  pub acceptance : (q : ℕ) → q < length classes → table.accepting q ≡ table.accepting (leader_in classes leaders q)
  pub apart : (p q : ℕ) → p < length classes → q < length classes → (class_of classes p ≡ class_of classes q → ⊥) → Separated table p q

-- the class of a state where a class is split: those that lead elsewhere, in the place of child j, go to a new one
abbrev pub split_one : Table → List ℕ → TupleSymbol → List ℕ → ℕ → (class stays fresh : ℕ) → ℕ → ℕ
split_one table classes f ks j class stays fresh q =
    if class_of classes q == class
    then (if class_of classes (table.target (entry_with f ks j q)) == stays then class_of classes q else fresh)
    else class_of classes q

-- the first n states have their classes after the split
pub record IsSplitTo (table : Table) (classes : List ℕ) (f : TupleSymbol) (ks : List ℕ) (j class stays fresh n : ℕ) (next : List ℕ) : Type 0 where
  pub count : length next ≡ n
  pub are : (q : ℕ) → q < n → get_or next q 0 ≡ split_one table classes f ks j class stays fresh q

-- the entry leads where it leads with a child's leader
pub record PassesAt (table : Table) (classes leaders : List ℕ) (e : Entry) (j : ℕ) : Type 0 where
  pub same : class_of classes (table.target e) ≡ class_of classes (table.target (entry_with e.symbol e.kids j (leader_in classes leaders (get_or e.kids j 0))))

-- the same classes, numbered by first state
pub record IsRenumbered (classes new : List ℕ) : Type 0 where
  pub count : length new ≡ length classes
  pub numbered : AreNumbered new
  pub forth : (p q : ℕ) → p < length classes → q < length classes → class_of classes p ≡ class_of classes q → class_of new p ≡ class_of new q
  pub back : (p q : ℕ) → p < length classes → q < length classes → class_of new p ≡ class_of new q → class_of classes p ≡ class_of classes q
