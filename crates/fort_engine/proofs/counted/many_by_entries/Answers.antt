use Rattle.std.proofs.Common.{◌≡◌, ◌<◌, map, subst, sym, ap, ◌∙◌, refl}
use Rattle.fort_theory.specs.Cores as core
use Rattle.fort_tables.specs.Tables.{listed_table}
use Rattle.fort_tables.specs.Counts.{count_at}
use Rattle.fort_tables.proofs.TellsLaws.{TellsMany-marks}
use Rattle.fort_findings.specs.FindingView.{as_count}
use Rattle.fort_infinity.specs.ManyCounts.{is_many}
use Rattle.fort_parts.specs.PartColumns.{columns_of}
use Rattle.fort_engine.proofs.AnswerLaws.{bound_within, AreLabelsFor-Infinite}
use Rattle.fort_engine.proofs.counted.many_by_entries.Goals as goal

pub new-many-requires-clause-column : goal.new-many-requires-clause-column
new-many-requires-clause-column c =
    let table = listed_table c.args.table.now in
    let b = c.requires.counted.2 in
    subst (λ k. k < table.columns) (sym b.column_is)
    (bound_within c.args.system.now c.args.options.now c.requires.counted.0 c.requires.counted.1 table (columns_of c.requires.counted.1) refl b.right b.among)

pub new-many-requires-clause-alone : goal.new-many-requires-clause-alone
new-many-requires-clause-alone c = c.requires.counted.2.pure

pub new-many-requires-clause-rules : goal.new-many-requires-clause-rules
new-many-requires-clause-rules c = c.requires.counted.2.marks_are.rules

pub returns : goal.returns
returns c n f b =
    let table = listed_table c.args.table.now in
    let alone = c.args.alone.now in
    let counts = c.args.counts.now in
    let over = b.right.answers.over in
    let low = subst (λ k. k < table.columns) (sym b.column_is) (bound_within c.args.system.now c.args.options.now n f table (columns_of f) refl b.right b.among) in
    let made = c.new-many.ensures in
    let few : is_many c.new-many.result.alone.now c.new-many.result.counts.now ≡ is_many alone counts =
    ap (λ ks. is_many ks c.new-many.result.counts.now) made.alone ∙ ap (λ ns. is_many alone ns) made.counts in
    c.explored.ensures (core.Infinite n f)
    (AreLabelsFor-Infinite c.args.system.now c.args.options.now n f table (listed_table c.new-many.result.body.now) (columns_of f) c.args.column c.new-many.result.column
    (is_many alone counts) (is_many c.new-many.result.alone.now c.new-many.result.counts.now) (ap listed_table made.body) refl b.column_is made.column few b.right
    b.among c.requires.others (TellsMany-marks table c.args.column (count_at alone (map as_count counts)) over.lawful over.reached low b.marks_are.rules))
