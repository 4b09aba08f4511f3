-- To believe: leaders of the states at one place of a table, which tell its targets as far as they depend on the child there; the numbers of the places' views, and the leaders in them.
use Rattle.std.specs.Prelude.{◌≡◌, ℕ, ◌+◌, ◌≤◌, List, [], ◌∷◌, ◌++◌, length, get_or}
use Rattle.fort_tables.specs.Tuples.{TupleSymbol, kid_presence}
use Rattle.fort_tables.specs.Entries.{entry}
use Rattle.fort_tables.specs.Tables.{Table, IsTableEntry}
use Rattle.fort_classes.specs.Leaders.{Leaders, MayBeKid}
use Rattle.fort_target_lists.specs.Places.{number_of}
use Rattle.fort_target_lists.specs.Flats.{base_of}

-- the leader of a state; one that isn't listed is its own
abbrev pub leader_in : List ℕ → ℕ → ℕ
leader_in leaders q = get_or leaders q q

-- a leader is its own leader, no later than the states that it leads, and may stand where they may; an entry has the target of that with the child's leader in its place
pub record IsLedPlace (table : Table) (f : TupleSymbol) (j : ℕ) (lead : ℕ → ℕ) : Type 0 where
  pub least : (q : ℕ) → MayBeKid table.signature table.columns table.presences f j q → lead q ≤ q
  pub itself : (q : ℕ) → MayBeKid table.signature table.columns table.presences f j q → lead (lead q) ≡ lead q
  pub presence_is : (q : ℕ) → MayBeKid table.signature table.columns table.presences f j q → get_or table.presences (lead q) 0 ≡ kid_presence table.signature f j
  pub goes : (before behind : List ℕ) (q : ℕ) → length before ≡ j → IsTableEntry table (entry f (before ++ q ∷ behind))
      → table.target (entry f (before ++ q ∷ behind)) ≡ table.target (entry f (before ++ lead q ∷ behind))

-- the number of a place's view, by where those of its tuple symbol start
abbrev pub view_at : List ℕ → List ℕ → ℕ → ℕ → ℕ
view_at starts numbers symbol j = get_or numbers (get_or starts symbol 0 + j) 0

-- the leader of a state in the view of this number
abbrev pub leader_at : List (List ℕ) → ℕ → ℕ → ℕ
leader_at views view q = leader_in (get_or views view []) q

-- the number of the view of a table's place
abbrev pub place_view : Table → List ℕ → List ℕ → TupleSymbol → ℕ → ℕ
place_view table starts numbers f j = view_at starts numbers (number_of (base_of table) f) j

-- the leaders in the places' views
abbrev pub lead_in : Table → List (List ℕ) → List ℕ → List ℕ → Leaders
lead_in table views starts numbers f j q = leader_at views (place_view table starts numbers f j) q
