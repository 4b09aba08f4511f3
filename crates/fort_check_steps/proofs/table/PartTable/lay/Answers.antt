use Rattle.std.proofs.Common.{refl, subst}
use Rattle.fort_tables.specs.Tables.{listed_table}
use Rattle.fort_target_lists.specs.TargetLists.{IsTargetListOf, IsTableWith}
use Rattle.fort_target_lists.proofs.ListLaws.{list_accepting}
use Rattle.fort_check_steps.specs.Turned.{TurnedTable, turned_table, turned_accepting}
use Rattle.fort_check_steps.specs.TableInside.{listed_in, table_in}
use Rattle.fort_check_steps.proofs.table.PartTable.lay.Goals as goal

pub returns-clause-list : goal.returns-clause-list
returns-clause-list c =
    let a = c.self.inside in
    let t = listed_in a in
    let with : IsTableWith t a.signature.now a.columns c.as_slice.result.now a.targets.now = record { listed = c.self.invariant.listed; signature = refl; columns_are = refl; presences_are = c.as_slice.ensures.value; targets_are = refl } in
    let own : IsTargetListOf (turned_table (table_in a)) c.lay.new.self = list_accepting (listed_table t) (turned_accepting a.turns (listed_table t)) c.lay.new.self (c.lay.ensures.list t with) in
    subst (λ (s : TurnedTable). IsTargetListOf (turned_table s) c.lay.new.self) c.self.view_is own
