-- Inside: the entries over some states in their order, and the first of them.
use Rattle.std.specs.Prelude.{ℕ, List, map, take}
use Rattle.fort_theory.specs.Signatures.{Signature}
use Rattle.fort_tables.specs.Entries.{Entry}
use Rattle.fort_tables.specs.Laid.{all_entries}
use Rattle.fort_target_lists.specs.TargetLists.{target_read}
use Rattle.fort_target_lists.specs.declared.target_list.TargetList.{TargetList}

unfoldable pub whole_of : Signature → ℕ → List ℕ → List Entry
whole_of sig columns ps = all_entries sig columns ps

-- the first n of them
unfoldable pub front_of : Signature → ℕ → List ℕ → ℕ → List Entry
front_of sig columns ps n = take n (all_entries sig columns ps)

-- the targets that a list has for entries
unfoldable pub targets_in : TargetList → List Entry → List ℕ
targets_in l es = map (target_read l) es
