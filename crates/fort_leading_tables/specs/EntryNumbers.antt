-- To believe: an entry as a list of numbers: the digits of its tuple symbol, and behind them its child states; and the targets of a list of entries, found by these.
use Rattle.std.specs.Prelude.{◌≡◌, ℕ, ◌<◌, ◌≤◌, List, ◌++◌, map, take, length, get_or}
use Rattle.fort_tables.specs.Entries.{Entry}
use Rattle.fort_tuple_symbols.specs.Columns.{digit_of}
use Rattle.fort_leading_tables.specs.declared.leading_targets.LeadingTargets.{LeadingTargets}

abbrev pub numbers_of : Entry → List ℕ
numbers_of e = map digit_of e.symbol ++ e.kids

-- the first numbers are these
pub record IsNumbered (numbers : List ℕ) (count : ℕ) (xs : List ℕ) : Type 0 where
  pub within : count ≤ length numbers
  pub are : take count numbers ≡ xs

-- each entry is listed, none twice, with its target
pub record AreTargetsOf (columns : ℕ) (es : List Entry) (qs : List ℕ) (t : LeadingTargets) : Type 0 where
  pub numbers : t.entries ≡ map numbers_of es
  pub targets : t.targets.items ≡ qs
  pub count : length qs ≡ length es
  pub widths : (k : ℕ) (d : Entry) → k < length es → length (get_or es k d).symbol ≡ columns
  pub once : (i j : ℕ) (d : Entry) → i < length es → j < length es → get_or es i d ≡ get_or es j d → i ≡ j
