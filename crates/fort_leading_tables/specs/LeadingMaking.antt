-- Inside: what a maker of a table by its leading entries stands for, and how it goes on.
use Rattle.std.specs.Prelude.{◌≡◌, ℕ, ◌<◌, ◌≤◌, ◌⊎◌, List, [], ◌∷◌, ◌++◌, map, length, get_or, Bool, true, false, ◌==◌, if◌then◌else◌}
use Rattle.fort_theory.specs.Signatures.{Signature}
use Rattle.fort_tables.specs.Tuples.{presence}
use Rattle.fort_tables.specs.Entries.{Entry}
use Rattle.fort_tables.specs.Tables.{Made}
use Rattle.fort_tables.specs.Labels.{first_word}
use Rattle.fort_classes.specs.Firsts.{IsNextLeading, IsLeadingUpTo}
use Rattle.fort_classes.specs.Keys.{Keys, leaders_by}
use Rattle.fort_classes.specs.LedTables.{IsLeadingMade, IsLeadingComplete}
use Rattle.fort_leading_walk.specs.LeadingPlaces.{leading_entry, StandsAt}
use Rattle.fort_leading_tables.specs.EntryNumbers.{AreTargetsOf}
use Rattle.fort_leading_tables.specs.FirstEntries.{AreFirstEntries}
use Rattle.fort_leading_tables.specs.declared.leading_maker.LeadingMaker.{LeadingMaker}

-- no states and no entries
abbrev pub none_made : Signature → ℕ → Made
none_made sig columns = record { signature = sig; columns = columns; presences = []; entries = []; targets = [] }

-- one more entry with its target, which may be a new state
abbrev pub given : Made → Entry → ℕ → Made
given m e q = record {
  signature = m.signature;
  columns = m.columns;
  presences = if q == length m.presences then m.presences ++ presence e.symbol ∷ [] else m.presences;
  entries = m.entries ++ e ∷ [];
  targets = m.targets ++ q ∷ [];
}

-- who knows the leaders of states with these labels, and the lists to which it is turned
pub record Turned : Type 1 where
  pub keys : Keys
  pub lists : List (List ℕ)
  pub knows : Signature → ℕ → List (List ℕ) → ℕ → Type 0

abbrev pub turned : Keys → List (List ℕ) → (Signature → ℕ → List (List ℕ) → ℕ → Type 0) → Turned
turned keys lists knows = record { keys = keys; lists = lists; knows = knows }

-- the walk stands at the leading entry that comes next behind the entries so far
pub record IsDueAt (t : Turned) (labels : List (List ℕ)) (m : Made) (a : LeadingMaker) : Type 0 where
  pub last : Entry
  pub up_to : IsLeadingUpTo m.signature m.columns m.presences (leaders_by t.keys labels) m.entries last
  pub next : IsNextLeading m.signature m.columns m.presences (leaders_by t.keys labels) last a.row
  pub stands : StandsAt m.signature (leaders_by t.keys labels) m.presences t.lists a.walk
  pub until : ℕ
  pub known : t.knows m.signature m.columns labels until
  pub forward : until ≤ a.walk.walk.stage

-- an entry is due, or none is
abbrev pub IsDueIn : Turned → List (List ℕ) → Made → LeadingMaker → Bool → Type 0
IsDueIn t labels m a true = IsDueAt t labels m a
IsDueIn t labels m a false = IsLeadingComplete (leaders_by t.keys labels) m

-- the maker of this table by leading entries, whose states have these labels
pub record IsMakerOf (t : Turned) (labels : List (List ℕ)) (m : Made) (a : LeadingMaker) : Type 0 where
  pub narrow : m.columns ≤ 16
  pub presences_are : m.presences ≡ a.presences.items
  pub targets_are : AreTargetsOf m.columns m.entries m.targets a.targets
  pub firsts : AreFirstEntries m.entries m.targets (length m.presences) a.first_entries
  pub by_labels : m.presences ≡ map first_word labels
  pub made : IsLeadingMade (leaders_by t.keys labels) m
  pub row : a.row ≡ leading_entry a.walk
  pub width : length a.walk.walk.digits ≡ m.columns
  pub due : IsDueIn t labels m a a.is_due

-- the entry's target is a state that is there, or a new one whose label comes last
pub record IsTargetOf (old new : List (List ℕ)) (e : Entry) (q : ℕ) : Type 0 where
  pub within : q < length new
  pub word : first_word (get_or new q []) ≡ presence e.symbol
  pub old_or_new : ((q < length old) × (new ≡ old)) ⊎ ((q ≡ length old) × ((w : List ℕ) × (new ≡ old ++ w ∷ [])))
