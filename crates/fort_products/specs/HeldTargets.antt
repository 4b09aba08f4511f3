-- To believe: targets are held against the entries over states with given labels, from a place on: there are as many, and each is a state with its entry's label.
use Rattle.std.specs.Prelude.{◌≡◌, ℕ, ◌<◌, ◌≤◌, List, [], map, length, get_or}
use Rattle.fort_tables.specs.Entries.{Entry}
use Rattle.fort_tables.specs.Labels.{first_word}
use Rattle.fort_tables.specs.LabelRules.{LabelRule, entry_label}
use Rattle.fort_tables.specs.Laid.{all_entries}

-- the target is a state with the entry's label
pub record IsHeld (r : LabelRule) (labels : List (List ℕ)) (e : Entry) (target : ℕ) : Type 0 where
  pub within : target < length labels
  pub label : get_or labels target [] ≡ entry_label r labels e

-- all entries over states with these labels
abbrev pub entries_with : LabelRule → List (List ℕ) → List Entry
entries_with r labels = all_entries r.signature r.columns (map first_word labels)

pub record AreHeldFrom (r : LabelRule) (from : ℕ) (targets : List ℕ) (labels : List (List ℕ)) : Type 0 where
  pub count : length targets ≡ length (entries_with r labels)
  pub held : (k : ℕ) (d : Entry) → from ≤ k → k < length targets → IsHeld r labels (get_or (entries_with r labels) k d) (get_or targets k 0)
