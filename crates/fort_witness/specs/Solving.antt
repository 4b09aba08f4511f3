-- Inside: the nodes of the search for solutions, and the entries over which it goes.
use Rattle.std.specs.Prelude.{◌≡◌, ℕ, suc, ◌+◌, ◌-◌, ◌*◌, ◌<◌, ◌≤◌, ◌⊎◌, Bool, List, [], ◌∷◌, length, take, drop, get_or, ◌++◌, Contains}
use Rattle.fort_tables.specs.Tuples.{Tuple}
use Rattle.fort_tables.specs.Entries.{Entry, ComesBefore, AreNodes, tuples_of}
use Rattle.fort_tables.specs.Tables.{Table, IsTableEntry, same_entry}
use Rattle.std.specs.List.{IsDistinct}
use Rattle.std.specs.List.Sorted.{IsPermutation}
use Rattle.std.specs.BinaryHeap.{IsHeap, IsUpperBound}
use Rattle.fort_witness.specs.declared.head.Head.{Head}
use Rattle.fort_witness.specs.declared.kept.Kept.{Kept}
use Rattle.fort_witness.specs.Heads.{head_cmp}
use Rattle.fort_witness.specs.Rounds.{over_states, tuple_at}
use Rattle.fort_witness.specs.Choices.{AreListed, lists_of, numbers_from}
use Rattle.fort_witness.specs.Placing.{IsPlaced, ArePlaces}
use Rattle.fort_witness.specs.Accepted.{AreAccepted}
use Rattle.fort_witness.specs.Making.{IsNewRow, Waits, AreOld, AreComing, AreWaiting, AreStatesOf}

-- all entries of a table, each once, with their states
pub record AreEntries (t : Table) (entries : List Head) : Type 0 where
  pub are : (k : ℕ) (d : Head) → k < length entries
      → IsTableEntry t (get_or entries k d).row × (t.target (get_or entries k d).row ≡ (get_or entries k d).state)
  pub apart : (i j : ℕ) (d : Head) → i < j → j < length entries → (get_or entries i d).row ≡ (get_or entries j d).row → ⊥
  pub all : (e : Entry) → IsTableEntry t e → (k : ℕ) × (k < length entries) × ((d : Head) → (get_or entries k d).row ≡ e)

-- nodes that rise, each with its state, at most so many of a state
pub record AreKeptNodes (t : Table) (keep : ℕ) (f : Kept) : Type 0 where
  pub are : AreNodes t.signature t.columns f.dag
  pub places : ArePlaces t (tuples_of f.dag)
  pub count : length f.states.items ≡ length f.dag
  pub states : AreStatesOf t (tuples_of f.dag) f.states.items
  pub lists : AreListed (length t.presences) f.states.items (lists_of f.lists)
  pub few : (q : ℕ) → length (numbers_from (lists_of f.lists) q) ≤ keep
  pub accepted : AreAccepted t (tuples_of f.dag) f.accepted.items

-- whether two heads are of one entry
abbrev pub same_head : List ℕ → Head → Head → Bool
same_head qs x y = same_entry (over_states qs x.row) (over_states qs y.row)

-- within one height: the first nodes are the old ones, and the heap has the rows to come
pub record IsMaking (t : Table) (most h low end : ℕ) (f : Kept) (heads : List Head) : Type 0 where
  pub nodes : AreKeptNodes t (suc most) f
  pub within : end ≤ length f.dag
  pub old : AreOld t (suc most) h low (take end (tuples_of f.dag))
  pub coming : AreComing t (suc most) h low (take end (tuples_of f.dag)) (drop end (tuples_of f.dag)) (take end f.states.items) heads
  pub waiting : AreWaiting t (suc most) low (take end (tuples_of f.dag)) (drop end (tuples_of f.dag)) (take end f.states.items) heads
  pub apart : IsDistinct (same_head (take end f.states.items)) heads
  pub ordered : IsHeap head_cmp heads
  pub few : length f.accepted.items ≤ most

-- the row that comes first was taken out of the heap, which was so before
pub record IsTakenOut (t : Table) (most h low end : ℕ) (f : Kept) (x : Head) (rest : List Head) : Type 0 where
  pub heads : List Head
  pub making : IsMaking t most h low end f heads
  pub permutation : IsPermutation heads (x ∷ rest)
  pub top : IsUpperBound head_cmp x heads
  pub ordered : IsHeap head_cmp rest

-- the nodes that there is room for, and the rows in the heap
abbrev pub work_left : (states most nodes heads : ℕ) → ℕ
work_left states most nodes heads = (states * suc most - nodes) + heads

-- the entries up to one
pub record AreEntriesTo (t : Table) (entries : List Head) (last : Entry) : Type 0 where
  pub are : (k : ℕ) (d : Head) → k < length entries
      → IsTableEntry t (get_or entries k d).row × (t.target (get_or entries k d).row ≡ (get_or entries k d).state)
  pub rise : (i j : ℕ) (d : Head) → i < j → j < length entries
      → ComesBefore (get_or entries i d).row (get_or entries j d).row
  pub upto : (k : ℕ) (d : Head) → k < length entries
      → ((get_or entries k d).row ≡ last) ⊎ ComesBefore (get_or entries k d).row last
  pub all : (e : Entry) → IsTableEntry t e
      → ((k : ℕ) × (k < length entries) × ((d : Head) → (get_or entries k d).row ≡ e)) ⊎ ComesBefore last e

-- the first rows of the entries before a place
pub record AreFirstRows (t : Table) (keep h low : ℕ) (ts : List Tuple) (qs : List ℕ) (entries : List Head) (k : ℕ) (heads : List Head) : Type 0 where
  pub coming : AreComing t keep h low ts [] qs heads
  pub waiting : (e : Entry) → IsNewRow t ts low e → (i : ℕ) (d : Head) → i < k → i < length entries
      → over_states qs e ≡ (get_or entries i d).row → IsPlaced t keep (ts ++ []) (tuple_at ts e) ⊎ Waits qs heads e
  pub earlier : (x : Head) → Contains heads x
      → (i : ℕ) × (i < k) × (i < length entries) × ((d : Head) → over_states qs x.row ≡ (get_or entries i d).row)
  pub apart : IsDistinct (same_head qs) heads
  pub ordered : IsHeap head_cmp heads
