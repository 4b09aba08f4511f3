-- To believe: the terms that give a state, put into one column of a tuple, or standing alone in the column; the states and entries with one column alone present.
use Rattle.std.specs.Prelude.{◌≡◌, ℕ, ◌-◌, ◌^◌, ◌<◌, length, get_or, Some, Contains}
use Rattle.std.specs.List.{insert}
use Rattle.fort_theory.specs.Trees.{Tree}
use Rattle.fort_theory.specs.Signatures.{IsGround}
use Rattle.fort_tables.specs.Tuples.{Tuple, all_absent, presence}
use Rattle.fort_tables.specs.Entries.{Entry}
use Rattle.fort_tables.specs.Tables.{Table, IsTableEntry, state_of}

-- this ground term in column c completes the tuple to one of state q
abbrev pub CompletesTo : Table → ℕ → Tuple → ℕ → Tree → Type 0
CompletesTo body c t q u = IsGround body.signature u × (state_of body (insert t c (Some u)) ≡ q)

-- this ground term, alone in column c, gives the state q
abbrev pub GivesAlone : Table → ℕ → ℕ → Tree → Type 0
GivesAlone body c q u = CompletesTo body c (all_absent (body.columns - 1)) q u

-- a state with column c alone present
pub record IsPureState (body : Table) (c q : ℕ) : Type 0 where
  pub within : q < length body.presences
  pub alone : get_or body.presences q 0 ≡ 2 ^ c

-- an entry with column c alone present that gives the state q
pub record IsPureEntry (body : Table) (c q : ℕ) (e : Entry) : Type 0 where
  pub is_entry : IsTableEntry body e
  pub alone : presence e.symbol ≡ 2 ^ c
  pub gives : body.target e ≡ q

-- k is a child of such an entry
pub record IsPureChild (body : Table) (c q k : ℕ) : Type 0 where
  pub entry : Entry
  pub is_pure : IsPureEntry body c q entry
  pub child : Contains entry.kids k
