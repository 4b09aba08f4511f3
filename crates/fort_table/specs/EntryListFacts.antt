-- Inside: entries as the digits and child states of one behind those of another.
use Rattle.std.specs.Prelude.{ℕ, ◌+◌, ◌<◌, ◌≤◌, List, map, take, drop, length, get_or, vec_len, vec_capacity}
use Rattle.std.specs.List.{All}
use Rattle.fort_tables.specs.Entries.{Entry, entry}
use Rattle.fort_tuple_symbols.specs.Columns.{symbol_of}
use Rattle.fort_table.specs.declared.entry_list.EntrySpan.{EntrySpan}
use Rattle.fort_table.specs.declared.entry_list.EntryList.{EntryList}

abbrev pub digits_in : List ℕ → EntrySpan → List ℕ
digits_in numbers s = take s.digits (drop s.start numbers)

abbrev pub kids_in : List ℕ → EntrySpan → List ℕ
kids_in numbers s = take s.kids (drop (s.start + s.digits) numbers)

abbrev pub entry_in : List ℕ → EntrySpan → Entry
entry_in numbers s = entry (symbol_of (digits_in numbers s)) (kids_in numbers s)

abbrev pub entries_in : List ℕ → List EntrySpan → List Entry
entries_in numbers spans = map (entry_in numbers) spans

pub record IsSpan (numbers : List ℕ) (s : EntrySpan) : Type 0 where
  pub within : s.start + s.digits + s.kids ≤ length numbers
  pub few_digits : s.digits ≤ 16
  pub few_kids : s.kids ≤ 8
  pub small : (k : ℕ) → get_or (digits_in numbers s) k 0 ≤ 65536

abbrev pub AreSpans : List ℕ → List EntrySpan → Type 0
AreSpans numbers spans = All (IsSpan numbers) spans

-- room for one more entry
pub record HasPlace (f : EntryList) : Type 0 where
  pub spans : vec_len f.spans < vec_capacity f.spans
  pub numbers : vec_len f.numbers + 24 ≤ vec_capacity f.numbers
