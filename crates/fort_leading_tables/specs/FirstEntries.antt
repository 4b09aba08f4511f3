-- To believe: the first entry of each state, one after another.
use Rattle.std.specs.Prelude.{◌≡◌, ℕ, ◌<◌, List, length, get_or}
use Rattle.fort_tables.specs.Entries.{Entry}
use Rattle.fort_tables.specs.Tables.{IsFirstWith}
use Rattle.fort_table.specs.EntryListFacts.{entries_in, AreSpans}
use Rattle.fort_table.specs.declared.entry_list.EntryList.{EntryList}

-- of so many states, by these entries and targets
pub record AreFirstEntries (es : List Entry) (qs : List ℕ) (count : ℕ) (l : EntryList) : Type 0 where
  pub spans : AreSpans l.numbers.items l.spans.items
  pub size : length (entries_in l.numbers.items l.spans.items) ≡ count
  pub are : (q : ℕ) (d : Entry) → q < count → IsFirstWith es qs q (get_or (entries_in l.numbers.items l.spans.items) q d)
