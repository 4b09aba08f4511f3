-- Inside: tuples that the search for solutions has as nodes, or needn't have since enough of their states come before them.
use Rattle.std.specs.Prelude.{◌≡◌, ℕ, ◌<◌, ◌≤◌, ◌⊎◌, List, [], map, length, get_or}
use Rattle.fort_tables.specs.Tuples.{Tuple, presence, level, IsTuple}
use Rattle.fort_tables.specs.Entries.{Entry, IsEntry}
use Rattle.fort_tables.specs.Tables.{Table, state_of}
use Rattle.fort_tables.specs.TupleOrder.{TupleBefore}

abbrev pub IsAmong : List Tuple → Tuple → Type 0
IsAmong ts u = (k : ℕ) × (k < length ts) × (get_or ts k [] ≡ u)

-- so many of the tuples have the tuple's state and come before it
pub record HasBefore (t : Table) (keep : ℕ) (ts : List Tuple) (v : Tuple) : Type 0 where
  pub numbers : List ℕ
  pub count : length numbers ≡ keep
  pub rise : (i j : ℕ) → i < j → j < length numbers → get_or numbers i 0 < get_or numbers j 0
  pub within : (j : ℕ) → j < length numbers → get_or numbers j 0 < length ts
  pub state : (j : ℕ) → j < length numbers → state_of t (get_or ts (get_or numbers j 0) []) ≡ state_of t v
  pub before : (j : ℕ) → j < length numbers → TupleBefore (get_or ts (get_or numbers j 0) []) v

abbrev pub IsPlaced : Table → ℕ → List Tuple → Tuple → Type 0
IsPlaced t keep ts v = IsAmong ts v ⊎ HasBefore t keep ts v

-- tuples that rise
pub record ArePlaces (t : Table) (ts : List Tuple) : Type 0 where
  pub tuples : (i : ℕ) → i < length ts → IsTuple t.signature t.columns (get_or ts i [])
  pub rise : (i j : ℕ) → i < j → j < length ts → TupleBefore (get_or ts i []) (get_or ts j [])

-- each tuple of at most this level is placed
abbrev pub ArePlacedTo : Table → ℕ → ℕ → List Tuple → Type 0
ArePlacedTo t keep h ts = (v : Tuple) → IsTuple t.signature t.columns v → level v ≤ h → IsPlaced t keep ts v

-- a tuple symbol over numbers of tuples
abbrev pub IsRowOver : Table → List Tuple → Entry → Type 0
IsRowOver t ts e = IsEntry t.signature t.columns (map presence ts) e
