use Rattle.std.proofs.Common.{sym, subst}
use Rattle.fort_tables.specs.Tables.{listed_table}
use Rattle.fort_target_lists.specs.TargetLists.{IsTargetListOf}
use Rattle.fort_target_lists.proofs.ListLaws.{list_accepting}
use Rattle.fort_check_steps.specs.Turned.{TurnedTable, turned_table}
use Rattle.fort_check_steps.specs.TableInside.{listed_in, table_in}
use Rattle.fort_check_steps.proofs.table.PartTable.listed.Goals as goal

pub invariant_of-result : goal.invariant_of-result
invariant_of-result c =
    let a = c.self.inside in
    let i = c.self.invariant in
    let own : IsTargetListOf (turned_table (table_in a)) c.args.list.now = subst (λ (s : TurnedTable). IsTargetListOf (turned_table s) c.args.list.now) (sym c.self.view_is) c.requires in
    record {
      listed = i.listed;
      few = i.few;
      few_targets = i.few_targets;
      final_count = i.final_count;
      list_is = list_accepting (turned_table (table_in a)) (listed_table (listed_in a)).accepting c.args.list.now own;
    }
