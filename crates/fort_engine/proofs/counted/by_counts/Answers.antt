use Rattle.std.proofs.Common.{◌<◌, map, subst, sym, ◌∙◌, refl}
use Rattle.fort_tables.specs.Tables.{listed_table}
use Rattle.fort_tables.specs.Counts.{count_at}
use Rattle.fort_tables.proofs.TellsLaws.{TellsMany-marks}
use Rattle.fort_findings.specs.FindingView.{as_count}
use Rattle.fort_infinity.specs.ManyCounts.{is_many}
use Rattle.fort_parts.specs.PartColumns.{columns_of}
use Rattle.fort_engine.proofs.AnswerLaws.{bound_within, IsDecision-many_closed}
use Rattle.fort_engine.proofs.counted.by_counts.Goals as goal

pub many_value-requires-clause-column : goal.many_value-requires-clause-column
many_value-requires-clause-column c =
    let table = listed_table c.args.table.now in
    let b = c.requires.2 in
    subst (λ k. k < table.columns) (sym b.column_is)
    (bound_within c.args.system.now c.args.options.now c.requires.0 c.requires.1 table (columns_of c.requires.1) refl b.right b.among)

pub many_value-requires-clause-alone : goal.many_value-requires-clause-alone
many_value-requires-clause-alone c = c.requires.2.pure

pub returns-then-columns-eq1 : goal.returns-then-columns-eq1
returns-then-columns-eq1 c n f b =
    let table = listed_table c.args.table.now in
    let alone = c.args.alone.now in
    let counts = c.args.counts.now in
    let over = b.right.answers.over in
    let low = subst (λ k. k < table.columns) (sym b.column_is) (bound_within c.args.system.now c.args.options.now n f table (columns_of f) refl b.right b.among) in
    IsDecision-many_closed c.args.system.now c.args.options.now n f table (columns_of f) c.args.column (is_many alone counts) c.many_value.result c.truth.result refl
    b.column_is b.right b.among (sym c.columns.ensures.count ∙ c.if-columns-eq1.true)
    (TellsMany-marks table c.args.column (count_at alone (map as_count counts)) over.lawful over.reached low b.marks_are.rules) c.many_value.ensures.value
    c.truth.ensures.answer c.truth.ensures.counts
