use Rattle.std.proofs.Common.{subst, sym, ◌∙◌, ◌<◌, ap}
use Rattle.fort_theory.specs.Cores as core
use Rattle.fort_tables.specs.Tables.{listed_table}
use Rattle.fort_engine.proofs.AnswerLaws.{bound_column, bound_within, AreLabelsFor-Exists}
use Rattle.fort_engine.proofs.projected.project_by_entries.Goals as goal

pub column_of-requires : goal.column_of-requires
column_of-requires c = let b = c.requires.body in bound_column c.args.number b.0 c.args.columns.now b.1.columns_are b.1.among

pub new-requires-clause-column : goal.new-requires-clause-column
new-requires-clause-column c =
    let table = c.args.table.now in
    let b = c.requires.body in
    subst (λ k. k < table.columns) (sym c.column_of.ensures)
    (bound_within c.args.system.now c.args.options.now c.args.number b.0 (listed_table table) c.args.columns.now b.1.columns_are b.1.right b.1.among)

pub returns : goal.returns
returns c f b =
    let table = listed_table c.args.table.now in
    let own = listed_table c.in_ok-projection.projection.body.now in
    let made = c.in_ok-projection.ensures in
    c.explored.ensures (core.Exists c.args.number f)
    (AreLabelsFor-Exists c.args.system.now c.args.options.now c.args.number f table own c.args.columns.now c.in_ok-projection.projection.column (ap listed_table made.body)
    b.columns_are (made.column ∙ c.column_of.ensures) b.right b.among c.requires.others)
