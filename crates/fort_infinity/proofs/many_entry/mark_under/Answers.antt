use Rattle.std.proofs.Common.{◌∙◌, ◌||◌, ap, length, replicate, arith}
use Rattle.fort_tables.proofs.TupleLaws.{arity_from_get}
use Rattle.fort_tables.specs.Projections.{has_state}
use Rattle.fort_tables.specs.ManyLabels.{has_many}
use Rattle.fort_tables.specs.ManyEntries.{kid_labels}
use Rattle.fort_tables.proofs.ManyEntryLaws.{choices_count}
use Rattle.fort_tables.proofs.ManySearchLaws.{endless_start, under_state, under_endless}
use Rattle.fort_infinity.specs.ManyCounts.{is_many}
use Rattle.fort_infinity.proofs.ChildrenLaws.{arity_small}
use Rattle.fort_infinity.proofs.ManyMarks.{choices_made}
use Rattle.fort_infinity.proofs.many_entry.mark_under.Goals as goal

pub visit-requires-clause-choices : goal.visit-requires-clause-choices
visit-requires-clause-choices g c =
    choices_made (g.T.Table.table c.args.body.now) c.args.column (is_many c.args.alone.now c.args.counts.now) c.args.rows.now.labels c.args.row.now c.signature-sig.result.now c.args.sym.0 c.sym.result c.with_column.result c.arity-arity.result c.requires.entry c.signature-sig.ensures c.requires.symbol c.sym.ensures c.with_column.ensures c.arity-arity.ensures

pub visit-requires-clause-count : goal.visit-requires-clause-count
visit-requires-clause-count g c =
    let body = g.T.Table.table c.args.body.now in
    let many = is_many c.args.alone.now c.args.counts.now in
    let h = choices_made body c.args.column many c.args.rows.now.labels c.args.row.now c.signature-sig.result.now c.args.sym.0 c.sym.result c.with_column.result c.arity-arity.result c.requires.entry c.signature-sig.ensures c.requires.symbol c.sym.ensures c.with_column.ensures c.arity-arity.ensures in
    omega (arith, choices_count body c.args.column many c.args.rows.now.labels c.args.row.now c.args.sym.0 c.with_column.result c.arity-arity.result c.states-states.ensures.lawful c.states-states.ensures.reached h, c.max.ensures, ap length c.kids.ensures.states)

pub visit-requires-clause-few : goal.visit-requires-clause-few
visit-requires-clause-few g c =
    let sig = c.signature-sig.result.now in
    let small = arity_small sig c.args.sym.0 c.len-symbols.ensures.lawful (omega (arith, c.requires.symbol, ap length c.signature-sig.ensures)) in
    let is = (arity_from_get sig c.args.sym.0 c.arity-arity.result c.arity-arity.ensures).0 in
    omega (arith, c.max.ensures, c.kids.ensures.few, small, is)

pub visit-requires-clause-endless : goal.visit-requires-clause-endless
visit-requires-clause-endless g c = endless_start (g.T.Table.table c.args.body.now) (is_many c.args.alone.now c.args.counts.now) (kid_labels c.args.rows.now.labels c.args.row.now) c.arity-arity.result (replicate 8 0)

pub returns-clause-given : goal.returns-clause-given
returns-clause-given g c = λ q l.
    let body = g.T.Table.table c.args.body.now in
    let many = is_many c.args.alone.now c.args.counts.now in
    let h = choices_made body c.args.column many c.args.rows.now.labels c.args.row.now c.signature-sig.result.now c.args.sym.0 c.sym.result c.with_column.result c.arity-arity.result c.requires.entry c.signature-sig.ensures c.requires.symbol c.sym.ensures c.with_column.ensures c.arity-arity.ensures in
    c.visit.ensures.given q l ∙ ap (λ b. b || has_state c.args.out.now q) (under_state body c.args.column many c.args.rows.now.labels c.args.row.now c.args.sym.0 c.with_column.result c.arity-arity.result c.max.result h (omega (arith, c.max.ensures, ap length c.kids.ensures.states)) q)

pub returns-clause-many : goal.returns-clause-many
returns-clause-many g c = λ q.
    let body = g.T.Table.table c.args.body.now in
    let m = length body.presences in
    let many = is_many c.args.alone.now c.args.counts.now in
    let h = choices_made body c.args.column many c.args.rows.now.labels c.args.row.now c.signature-sig.result.now c.args.sym.0 c.sym.result c.with_column.result c.arity-arity.result c.requires.entry c.signature-sig.ensures c.requires.symbol c.sym.ensures c.with_column.ensures c.arity-arity.ensures in
    c.visit.ensures.many q ∙ ap (λ b. b || has_many m c.args.out.now q) (under_endless body c.args.column many c.args.rows.now.labels c.args.row.now c.args.sym.0 c.with_column.result c.arity-arity.result c.max.result h (omega (arith, c.max.ensures, ap length c.kids.ensures.states)) q)
