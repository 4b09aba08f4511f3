use Rattle.std.proofs.Common.{◌≡◌, true}
use Rattle.fort_tables.specs.Tables.{listed_table}
use Rattle.fort_engine.proofs.ReducedTables.{IsRight-reduced}
use Rattle.fort_engine.proofs.explored.kept_table.Goals as goal

pub returns-clause-right : goal.returns-clause-right
returns-clause-right c system f right =
    let made = c.in_ok-reduced.ensures in
    let is : c.args.options.now.reduces ≡ true = c.if-not-options.false in
    IsRight-reduced system c.args.options.now f (listed_table c.args.table) (listed_table c.in_ok-reduced.reduced) c.in_ok-reduced.classes.items is right made.classes
    made.merged made.lawful.table made.lawful.reached
