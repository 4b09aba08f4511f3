use Rattle.std.proofs.Common.{ℕ, ◌<◌, subst, sym, ◌∙◌, ap}
use Rattle.fort_theory.specs.Cores as core
use Rattle.fort_tables.specs.Tuples.{TupleSymbol}
use Rattle.fort_tables.specs.Tables.{Table, Listed, listed_table}
use Rattle.fort_classed_tables.specs.declared.classed_table.ClassedTable.{ClassedTable}
use Rattle.fort_classed_tables.specs.TableViews.{number_in, leader_by}
use Rattle.fort_engine.specs.ClassedView.{classed_table}
use Rattle.fort_engine.proofs.AnswerLaws.{bound_column, bound_within, AreLabelsFor-Exists}
use Rattle.fort_engine.proofs.KeyedLaws.{goes_projected}
use Rattle.fort_engine.proofs.projected.project_by_classes.Goals as goal

-- the numbers of a table's views, and the leaders in them
numbers : ClassedTable → TupleSymbol → ℕ → ℕ
numbers c = number_in (listed_table c.table.now) c.views

leaders : ClassedTable → ℕ → ℕ → ℕ
leaders c = leader_by c.views

pub column_of-column-requires : goal.column_of-column-requires
column_of-column-requires c = let b = c.requires.body in bound_column c.args.number b.0 c.args.columns.now b.1.columns_are b.1.among

pub new-requires-2-clause-column : goal.new-requires-2-clause-column
new-requires-2-clause-column c =
    let table = c.args.table.now in
    let b = c.requires.body in
    subst (λ (t : Listed). c.column_of-column.result < t.columns) (sym c.in_ok-classed.ensures)
    (subst (λ k. k < table.columns) (sym c.column_of-column.ensures)
    (bound_within c.args.system.now c.args.options.now c.args.number b.0 (listed_table table) c.args.columns.now b.1.columns_are b.1.right b.1.among))

pub new-requires-2-clause-another : goal.new-requires-2-clause-another
new-requires-2-clause-another c = subst (λ (t : Listed). 1 < t.columns) (sym c.in_ok-classed.ensures) c.requires.others

pub explored_by_keys-requires-clause-serves : goal.explored_by_keys-requires-clause-serves
explored_by_keys-requires-clause-serves c =
    sym (ap (λ (t : Table). t.signature) (ap classed_table c.in_ok-projection.ensures.body ∙ ap listed_table c.in_ok-classed.ensures) ∙ c.requires.body.1.right.answers.over.signature)

pub explored_by_keys-requires-clause-goes : goal.explored_by_keys-requires-clause-goes
unfolding leaders numbers
explored_by_keys-requires-clause-goes c =
    let own = c.in_ok-projection.projection in
    let made = c.in_ok-projection.ensures in
    let k = c.new-keys in
    goes_projected classed_table numbers leaders c.args.system.now.signature c.in_ok-classed.classed own.body.now k.result.body.now c.column_of-column.result own.column k.result.column
    made.body k.ensures.lent made.column k.ensures.column (sym (ap (λ (t : Listed). t.signature) c.in_ok-classed.ensures ∙ c.requires.body.1.right.answers.over.signature)) k.ensures.goes

pub returns : goal.returns
returns c f b =
    let table = listed_table c.args.table.now in
    let own = classed_table c.in_ok-projection.projection.body.now in
    let made = c.in_ok-projection.ensures in
    c.explored_by_keys.ensures (core.Exists c.args.number f)
    (AreLabelsFor-Exists c.args.system.now c.args.options.now c.args.number f table own c.args.columns.now c.in_ok-projection.projection.column (ap classed_table made.body ∙ ap listed_table c.in_ok-classed.ensures)
    b.columns_are (made.column ∙ c.column_of-column.ensures) b.right b.among c.requires.others)
