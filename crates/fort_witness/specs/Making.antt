-- Inside: the search for solutions within one height: nodes of lower levels, nodes of this level so far, and rows that are still to come.
use Rattle.std.specs.Prelude.{◌≡◌, ℕ, suc, ◌<◌, ◌≤◌, ◌⊎◌, true, List, [], ◌++◌, length, get_or, nat_lt, Contains}
use Rattle.fort_tables.specs.Tuples.{Tuple, level}
use Rattle.fort_tables.specs.Entries.{Entry, StageBefore}
use Rattle.fort_tables.specs.Tables.{Table, state_of}
use Rattle.fort_tables.specs.TupleOrder.{TupleBefore}
use Rattle.fort_witness.specs.declared.head.Head.{Head}
use Rattle.fort_witness.specs.Rounds.{over_states, tuple_at}
use Rattle.fort_witness.specs.Choices.{HasNew}
use Rattle.fort_witness.specs.Placing.{IsPlaced, ArePlaces, ArePlacedTo, IsRowOver}

-- a row over old nodes, one of them new since the last height; at the first height there are none
pub record IsNewRow (t : Table) (old : List Tuple) (low : ℕ) (e : Entry) : Type 0 where
  pub row : IsRowOver t old e
  pub fresh : nat_lt 0 (length old) ≡ true → HasNew low e.kids

-- the old nodes: all that are kept up to a level, those from low on being of this level
pub record AreOld (t : Table) (keep h low : ℕ) (old : List Tuple) : Type 0 where
  pub places : ArePlaces t old
  pub placed : ArePlacedTo t keep h old
  pub levels : (i : ℕ) → i < length old → level (get_or old i []) ≤ h
  pub lower : (i : ℕ) → i < length old → i < low → level (get_or old i []) < h
  pub top : (i : ℕ) → i < length old → low ≤ i → level (get_or old i []) ≡ h

-- a row of the same entry, at which the search stands before it
pub record Waits (qs : List ℕ) (heads : List Head) (e : Entry) : Type 0 where
  pub head : Head
  pub among : Contains heads head
  pub entry : over_states qs head.row ≡ over_states qs e
  pub before : (head.row ≡ e) ⊎ StageBefore head.row e

-- old nodes and new ones, and rows to come, each behind all new nodes; each new row is placed or waits
pub record AreComing (t : Table) (keep h low : ℕ) (old us : List Tuple) (qs : List ℕ) (heads : List Head) : Type 0 where
  pub news : (i : ℕ) → i < length us → level (get_or us i []) ≡ suc h
  pub rows : (x : Head) → Contains heads x → IsNewRow t old low x.row × (state_of t (tuple_at old x.row) ≡ x.state)
  pub behind : (x : Head) → Contains heads x → (i : ℕ) → i < length us → TupleBefore (get_or us i []) (tuple_at old x.row)

-- the states of the nodes
pub record AreStatesOf (t : Table) (ts : List Tuple) (qs : List ℕ) : Type 0 where
  pub at : (i : ℕ) → i < length ts → get_or qs i 0 ≡ state_of t (get_or ts i [])

-- each new row is placed or waits
pub record AreWaiting (t : Table) (keep low : ℕ) (old us : List Tuple) (qs : List ℕ) (heads : List Head) : Type 0 where
  pub all : (e : Entry) → IsNewRow t old low e → IsPlaced t keep (old ++ us) (tuple_at old e) ⊎ Waits qs heads e
