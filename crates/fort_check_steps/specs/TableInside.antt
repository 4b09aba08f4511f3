-- Inside: what the fields of the table of a part stand for.
use Rattle.std.specs.Prelude.{◌≡◌, ◌<◌, ◌^◌, length, IfSome}
use Rattle.fort_tables.specs.Tables.{Listed, listed_table, IsListed}
use Rattle.fort_tables.specs.Laid.{all_entries}
use Rattle.fort_target_lists.specs.TargetLists.{IsTargetListOf}
use Rattle.fort_check_steps.specs.Turned.{TurnedTable}
use Rattle.fort_check_steps.specs.declared.table.PartTable.TheInside.{Inside}

abbrev pub listed_in : Inside → Listed
listed_in a = record {
  signature = a.signature.now;
  columns = a.columns;
  presences = a.room.now.presences.items;
  entries = all_entries a.signature.now a.columns a.room.now.presences.items;
  targets = a.targets.now;
  finals = a.room.now.finals.items;
}

abbrev pub table_in : Inside → TurnedTable
table_in a = record { table = listed_in a; turns = a.turns }

pub record IsPartTable (a : Inside) : Type 0 where
  pub listed : IsListed (listed_in a)
  pub few : length a.room.now.presences.items < 2 ^ 32
  pub few_targets : length a.targets.now < 2 ^ 32
  pub final_count : length a.room.now.finals.items ≡ length a.room.now.presences.items
  pub list_is : IfSome a.list (λ l. IsTargetListOf (listed_table (listed_in a)) l.now)
