use Rattle.std.proofs.Common.{◌≡◌, ◌<◌, map, subst, sym}
use Rattle.fort_tables.specs.Tables.{listed_table}
use Rattle.fort_findings.specs.FindingView.{as_count}
use Rattle.fort_engine.specs.Found.{IsCounted}
use Rattle.fort_engine.proofs.AnswerLaws.{bound_column, bound_within}
use Rattle.fort_engine.proofs.FoundLaws.{IsCounted-body, IsDecidedBy-many}
use Rattle.fort_engine.proofs.counted.count_table.Goals as goal

pub column_of-column-requires : goal.column_of-column-requires
column_of-column-requires c = bound_column c.args.number c.requires.0 c.args.columns.now c.requires.1.columns_are c.requires.1.among

pub pure_states-requires : goal.pure_states-requires
pure_states-requires c =
    let table = c.args.table.now in
    let b = c.requires.1 in
    subst (λ k. k < table.columns) (sym c.column_of-column.ensures)
    (bound_within c.args.system.now c.args.options.now c.args.number c.requires.0 (listed_table table) c.args.columns.now b.columns_are b.right b.among)

pub pure_counts-requires-clause-column : goal.pure_counts-requires-clause-column
pure_counts-requires-clause-column c =
    let table = c.args.table.now in
    let b = c.requires.1 in
    subst (λ k. k < table.columns) (sym c.column_of-column.ensures)
    (bound_within c.args.system.now c.args.options.now c.args.number c.requires.0 (listed_table table) c.args.columns.now b.columns_are b.right b.among)

pub by_counts-decided-requires : goal.by_counts-decided-requires
by_counts-decided-requires c =
    let table = listed_table c.args.table.now in
    let alone : c.deref.result.now ≡ c.deref-2.result.now = cc in
    let counts : c.in_ok-counts.counts.items ≡ c.deref-3.result.now = cc in
    let is : IsCounted c.args.system.now c.args.options.now c.args.number c.requires.0 table c.column_of-column.result c.deref.result.now (map as_count c.in_ok-counts.counts.items) =
    IsCounted-body c.args.system.now c.args.options.now c.args.number c.requires.0 table c.args.columns.now c.column_of-column.result c.in_ok-alone.alone.items c.deref.result.now
    (map as_count c.in_ok-counts.counts.items) c.requires.1 c.column_of-column.ensures c.in_ok-alone.ensures (sym c.deref.ensures.value) c.in_ok-counts.ensures in (
      c.args.number,
      c.requires.0,
      subst (λ ks. IsCounted c.args.system.now c.args.options.now c.args.number c.requires.0 table c.column_of-column.result ks (map as_count c.deref-3.result.now)) alone
          (subst (λ ns. IsCounted c.args.system.now c.args.options.now c.args.number c.requires.0 table c.column_of-column.result c.deref.result.now (map as_count ns)) counts is),
    )

pub returns : goal.returns
returns c f b =
    let system = c.args.system.now in
    let n = c.args.number in
    let table = listed_table c.args.table.now in
    let at = c.column_of-column.result in
    let list = c.in_ok-counts.counts in
    let alone : c.deref.result.now ≡ c.deref-2.result.now = cc in
    let counts : list.items ≡ c.deref-3.result.now = cc in
    let is : IsCounted system c.args.options.now n f table at c.deref.result.now (map as_count list.items) =
    IsCounted-body system c.args.options.now n f table c.args.columns.now at c.in_ok-alone.alone.items c.deref.result.now (map as_count list.items) b c.column_of-column.ensures
    c.in_ok-alone.ensures (sym c.deref.ensures.value) c.in_ok-counts.ensures in
    let there : IsCounted system c.args.options.now n f table at c.deref-2.result.now (map as_count c.deref-3.result.now) =
    subst (λ ks. IsCounted system c.args.options.now n f table at ks (map as_count c.deref-3.result.now)) alone
    (subst (λ ns. IsCounted system c.args.options.now n f table at c.deref.result.now (map as_count ns)) counts is) in
    IsDecidedBy-many system c.args.options.now n f c.args.table.now list at c.deref.result.now is c.by_counts-decided.result c.with_counts.result
    (c.by_counts-decided.ensures n f there) c.with_counts.ensures
