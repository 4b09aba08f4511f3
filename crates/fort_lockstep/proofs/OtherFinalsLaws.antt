-- A table with other accepting states, each of full presence, is one too, with the same list of targets.
use Rattle.std.specs.Prelude.{◌≡◌, ℕ, ◌<◌, List, Bool, true, false, length, get_or}
use Rattle.fort_tables.specs.Tables.{Listed, listed_table, IsListed, full_presence}
use Rattle.fort_target_lists.specs.TargetLists.{IsTargetListOf}
use Rattle.fort_target_lists.proofs.ListLaws.{list_accepting}
use Rattle.fort_target_lists.specs.declared.target_list.TargetList.{TargetList}
use Rattle.fort_lockstep.specs.OtherFinals.{with_finals}

pub IsListed-with_finals : (t : Listed) (finals : List Bool) → IsListed t
    → ((q : ℕ) → q < length t.presences → get_or finals q false ≡ true → get_or t.presences q 0 ≡ full_presence t.columns) → IsListed (with_finals t finals)
IsListed-with_finals t finals is full = record {
  order = is.order;
  all = is.all;
  count = is.count;
  table = record {
    some = is.table.some;
    narrow = is.table.narrow;
    within = is.table.within;
    presence = is.table.presence;
    full = full;
  };
  reached = is.reached;
  numbered = is.numbered;
}

-- both have one list of targets
pub IsTargetListOf-with_finals : (t : Listed) (finals : List Bool) (l : TargetList) → IsTargetListOf (listed_table t) l → IsTargetListOf (listed_table (with_finals t finals)) l
IsTargetListOf-with_finals t finals l is = list_accepting (listed_table t) (λ q. get_or finals q false) l is
