-- Inside: states with their first entries, and one more.
use Rattle.std.specs.Prelude.{◌≡◌, ℕ, ◌<◌, vec_len, vec_capacity, get_or, List, [], ◌∷◌, ◌++◌, length, ◌==◌, if◌then◌else◌}
use Rattle.fort_tables.specs.Tuples.{presence}
use Rattle.fort_tables.specs.Entries.{Entry}
use Rattle.fort_table.specs.EntryListFacts.{entries_in, AreSpans, HasPlace}
use Rattle.fort_lockstep.specs.declared.states.States.{States}

abbrev pub first_entries_in : States → List Entry
first_entries_in s = entries_in s.first_entries.numbers.items s.first_entries.spans.items

pub record IsSameStates (old new : States) : Type 0 where
  pub presences : new.presences.items ≡ old.presences.items
  pub firsts : new.firsts.items ≡ old.firsts.items
  pub spans : new.first_entries.spans.items ≡ old.first_entries.spans.items
  pub numbers : new.first_entries.numbers.items ≡ old.first_entries.numbers.items

-- room for one more state
pub record HasRoom (s : States) : Type 0 where
  pub presences : vec_len s.presences < vec_capacity s.presences
  pub firsts : vec_len s.firsts < vec_capacity s.firsts
  pub first_entries : HasPlace s.first_entries

pub record IsNoted (old : States) (e : Entry) (target place : ℕ) (new : States) : Type 0 where
  pub presences : new.presences.items ≡ (if target == length old.presences.items then old.presences.items ++ presence e.symbol ∷ [] else old.presences.items)
  pub firsts : new.firsts.items ≡ (if target == length old.presences.items then old.firsts.items ++ place ∷ [] else old.firsts.items)
  pub spans : AreSpans new.first_entries.numbers.items new.first_entries.spans.items
  pub first_entries : first_entries_in new ≡ (if target == length old.presences.items then first_entries_in old ++ e ∷ [] else first_entries_in old)

-- each first entry stands at its place
pub record AreFirsts (entries : List Entry) (firsts : List ℕ) (first_entries : List Entry) : Type 0 where
  pub count : length first_entries ≡ length firsts
  pub within : (q : ℕ) → q < length firsts → get_or firsts q 0 < length entries
  pub entries_are : (q : ℕ) (d : Entry) → q < length firsts → get_or entries (get_or firsts q 0) d ≡ get_or first_entries q d
