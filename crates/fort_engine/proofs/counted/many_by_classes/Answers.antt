use Rattle.std.proofs.Common.{◌≡◌, ℕ, ◌<◌, map, subst, sym, ap, ◌∙◌, refl}
use Rattle.fort_theory.specs.Cores as core
use Rattle.fort_tables.specs.Tuples.{TupleSymbol}
use Rattle.fort_tables.specs.Tables.{Listed, listed_table}
use Rattle.fort_tables.specs.Projections.{ArePure}
use Rattle.fort_tables.specs.Counts.{count_at, KeepRules}
use Rattle.fort_tables.proofs.TellsLaws.{TellsMany-marks}
use Rattle.fort_findings.specs.FindingView.{as_count}
use Rattle.fort_infinity.specs.ManyCounts.{is_many}
use Rattle.fort_parts.specs.PartColumns.{columns_of}
use Rattle.fort_classed_tables.specs.declared.classed_table.ClassedTable.{ClassedTable}
use Rattle.fort_classed_tables.specs.TableViews.{number_in, leader_by}
use Rattle.fort_engine.specs.ClassedView.{classed_table}
use Rattle.fort_engine.proofs.AnswerLaws.{bound_within, AreLabelsFor-Infinite}
use Rattle.fort_engine.proofs.KeyedLaws.{goes_many}
use Rattle.fort_engine.proofs.counted.many_by_classes.Goals as goal

-- the numbers of a table's views, and the leaders in them
numbers : ClassedTable → TupleSymbol → ℕ → ℕ
numbers c = number_in (listed_table c.table.now) c.views

leaders : ClassedTable → ℕ → ℕ → ℕ
leaders c = leader_by c.views

pub new-many-requires-clause-column : goal.new-many-requires-clause-column
new-many-requires-clause-column c =
    let table = c.args.table.now in
    let b = c.requires.counted.2 in
    subst (λ (t : Listed). c.args.column < t.columns) (sym c.in_ok-classed.ensures)
    (subst (λ k. k < table.columns) (sym b.column_is)
    (bound_within c.args.system.now c.args.options.now c.requires.counted.0 c.requires.counted.1 (listed_table table) (columns_of c.requires.counted.1) refl b.right b.among))

pub new-many-requires-clause-another : goal.new-many-requires-clause-another
new-many-requires-clause-another c = subst (λ (t : Listed). 1 < t.columns) (sym c.in_ok-classed.ensures) c.requires.others

pub new-many-requires-clause-alone : goal.new-many-requires-clause-alone
new-many-requires-clause-alone c = subst (λ (t : Listed). ArePure (listed_table t) c.args.column c.args.alone.now) (sym c.in_ok-classed.ensures) c.requires.counted.2.pure

pub new-many-requires-clause-rules : goal.new-many-requires-clause-rules
new-many-requires-clause-rules c =
    subst (λ (t : Listed). KeepRules (listed_table t) c.args.column (count_at c.args.alone.now (map as_count c.args.counts.now))) (sym c.in_ok-classed.ensures)
    c.requires.counted.2.marks_are.rules

pub explored_by_keys-requires-clause-goes : goal.explored_by_keys-requires-clause-goes
unfolding leaders numbers
explored_by_keys-requires-clause-goes c =
    let own = c.new-many.result in
    let made = c.new-many.ensures in
    let k = c.new-keys in
    let many = is_many own.alone.now own.counts.now in
    goes_many classed_table numbers leaders c.args.system.now.signature c.in_ok-classed.classed own.body.now k.result.body.now c.args.column own.column k.result.column many
    made.body k.ensures.lent made.column k.ensures.column (sym (ap (λ (t : Listed). t.signature) c.in_ok-classed.ensures ∙ c.requires.counted.2.right.answers.over.signature))
    (k.ensures.goes many)

pub returns : goal.returns
returns c n f b =
    let table = listed_table c.args.table.now in
    let alone = c.args.alone.now in
    let counts = c.args.counts.now in
    let over = b.right.answers.over in
    let low = subst (λ k. k < table.columns) (sym b.column_is) (bound_within c.args.system.now c.args.options.now n f table (columns_of f) refl b.right b.among) in
    let made = c.new-many.ensures in
    let own = classed_table c.new-many.result.body.now in
    let few : is_many c.new-many.result.alone.now c.new-many.result.counts.now ≡ is_many alone counts =
    ap (λ ks. is_many ks c.new-many.result.counts.now) made.alone ∙ ap (λ ns. is_many alone ns) made.counts in
    c.explored_by_keys.ensures (core.Infinite n f)
    (AreLabelsFor-Infinite c.args.system.now c.args.options.now n f table own (columns_of f) c.args.column c.new-many.result.column
    (is_many alone counts) (is_many c.new-many.result.alone.now c.new-many.result.counts.now) (ap classed_table made.body ∙ ap listed_table c.in_ok-classed.ensures) refl b.column_is made.column few b.right
    b.among c.requires.others (TellsMany-marks table c.args.column (count_at alone (map as_count counts)) over.lawful over.reached low b.marks_are.rules))
