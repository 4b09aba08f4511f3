use Rattle.std.proofs.Common.{ap, length}
use Rattle.fort_tables.specs.Tables.{listed_table}
use Rattle.fort_target_lists.specs.declared.flat.FlatTargets.{FlatTargets}
use Rattle.fort_classed_tables.proofs.TableLaws.{table_views, no_views}
use Rattle.fort_classed_tables.proofs.classed_table.ClassedTable.new.Goals as goal

pub invariant_of-result : goal.invariant_of-result
invariant_of-result c =
    let t = listed_table c.args.table.now in
    let list = c.list-list.ensures in
    record { views_are = record { list_is = list; kept = list.classes_are c.in-Some.kept.now c.in-Some.ensures.some } }

pub invariant_of-result-in_default-flat : goal.invariant_of-result-in_default-flat
invariant_of-result-in_default-flat c =
    let v = c.in_ok-none.ensures in
    record { views_are = no_views (listed_table c.args.table.now) c.list-list.result.now c.in_ok-none.none c.list-list.ensures c.in_default-flat.ensures.not_made v.views v.numbers }

pub invariant_of-result-2 : goal.invariant_of-result-2
invariant_of-result-2 c =
    let made = c.in-Some-flat.ensures.made in
    record {
      views_are = table_views (listed_table c.args.table.now) c.list-list.result.now c.in_ok-found.found (length c.in-Some-flat.flat.now.listing.starts.items) c.list-list.ensures made.0
          (ap (λ (x : FlatTargets). length x.listing.starts.items) made.1) c.in_ok-found.ensures.led;
    }
