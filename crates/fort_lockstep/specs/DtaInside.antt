-- Inside: what the fields of a table stand for.
use Rattle.std.specs.Prelude.{◌≡◌, ℕ, ◌<◌, ◌^◌, length, get_or}
use Rattle.fort_tables.specs.Entries.{Entry}
use Rattle.fort_tables.specs.Tables.{Listed, listed_table, IsListed, IsFirstWith}
use Rattle.fort_table.specs.EntryListFacts.{entries_in, AreSpans}
use Rattle.fort_table.specs.declared.entry_list.EntryList.{EntryList}
use Rattle.fort_target_lists.specs.TargetLists.{IsTargetListOf}
use Rattle.fort_lockstep.specs.Fronts.{whole_of, targets_in}
use Rattle.fort_lockstep.specs.declared.dta.Dta.TheInside.{Inside}

-- all entries over the states, with the targets that the list has for them
abbrev pub listed_in : Inside → Listed
listed_in a = record {
  signature = a.shared.value.signature;
  columns = a.shared.value.columns;
  presences = a.shared.value.presences.items;
  entries = whole_of a.shared.value.signature a.shared.value.columns a.shared.value.presences.items;
  targets = targets_in a.shared.value.list (whole_of a.shared.value.signature a.shared.value.columns a.shared.value.presences.items);
  finals = a.finals.items;
}

-- each state's first entry is kept
pub record AreFirstRows (t : Listed) (rows : EntryList) : Type 0 where
  pub spans : AreSpans rows.numbers.items rows.spans.items
  pub count : length rows.spans.items ≡ length t.presences
  pub are : (q : ℕ) (d : Entry) → q < length t.presences → IsFirstWith t.entries t.targets q (get_or (entries_in rows.numbers.items rows.spans.items) q d)

pub record IsDta (a : Inside) : Type 0 where
  pub listed : IsListed (listed_in a)
  pub final_count : length a.finals.items ≡ length a.shared.value.presences.items
  pub few : length a.shared.value.presences.items < 2 ^ 32
  pub list : IsTargetListOf (listed_table (listed_in a)) a.shared.value.list
  pub firsts : AreFirstRows (listed_in a) a.shared.value.first_entries
