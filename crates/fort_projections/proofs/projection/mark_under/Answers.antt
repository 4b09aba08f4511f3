use Rattle.std.proofs.Common.{◌+◌, ◌||◌, ◌==◌, map, length, refl, ap, sym, ◌∙◌, arith}
use Rattle.fort_tables.specs.Tuples.{arity}
use Rattle.fort_tables.specs.Entries.{entry}
use Rattle.fort_target_lists.specs.LabelLists.{labels_at}
use Rattle.fort_projections.specs.Scopes.{takes}
use Rattle.fort_tables.proofs.TupleLaws.{arity_from_get}
use Rattle.fort_tables.specs.Projections.{absent_state, has_state}
use Rattle.fort_projections.specs.Choices.{symbol_under}
use Rattle.fort_target_lists.proofs.ColumnLaws.{arity_small}
use Rattle.fort_projections.proofs.ProjectEntries.{choices_count, entry_under_constant}
use Rattle.fort_projections.proofs.LabelWritten.{choices_made, under_reachable, constant_gives, none_taken}
use Rattle.fort_projections.proofs.FlatSearch.{shift_test}
use Rattle.fort_projections.proofs.projection.mark_under.Goals as goal

pub under-look_up-requires : goal.under-look_up-requires
under-look_up-requires g c =
    let body = g.T.Table.table c.args.body.now in
    (body, c.args.row.now.symbol, c.args.column, c.requires.finder, c.requires.symbol)

pub visit-requires-clause-look_up : goal.visit-requires-clause-look_up
visit-requires-clause-look_up g c =
    let body = g.T.Table.table c.args.body.now in
    c.under-look_up.ensures body c.args.row.now.symbol c.args.column c.requires.finder c.requires.symbol

pub visit-requires-clause-choices : goal.visit-requires-clause-choices
visit-requires-clause-choices g c =
    let body = g.T.Table.table c.args.body.now in
    choices_made body c.args.column c.args.alone.now c.args.rows.now.labels c.args.row.now c.signature-sig.result.now c.args.sym.0 c.args.row.now.symbol (symbol_under c.args.row.now c.args.column c.args.sym.0) c.arity-arity.result c.requires.searched c.requires.alone c.signature-sig.ensures c.requires.symbol refl refl c.arity-arity.ensures

pub visit-requires-clause-count : goal.visit-requires-clause-count
visit-requires-clause-count g c =
    let body = g.T.Table.table c.args.body.now in
    let h = choices_made body c.args.column c.args.alone.now c.args.rows.now.labels c.args.row.now c.signature-sig.result.now c.args.sym.0 c.args.row.now.symbol (symbol_under c.args.row.now c.args.column c.args.sym.0) c.arity-arity.result c.requires.searched c.requires.alone c.signature-sig.ensures c.requires.symbol refl refl c.arity-arity.ensures in
    omega (arith, choices_count body c.args.column c.args.alone.now c.args.rows.now.labels c.args.row.now c.args.sym.0 (symbol_under c.args.row.now c.args.column c.args.sym.0) c.arity-arity.result h, c.max.ensures, ap length c.kids.ensures.states)

pub visit-requires-clause-few : goal.visit-requires-clause-few
visit-requires-clause-few g c =
    let sig = c.signature-sig.result.now in
    let small = arity_small sig c.args.sym.0 c.len-symbols.ensures.lawful (omega (arith, c.requires.symbol, ap length c.signature-sig.ensures)) in
    let is = (arity_from_get sig c.args.sym.0 c.arity-arity.result c.arity-arity.ensures).0 in
    omega (arith, c.max.ensures, c.kids.ensures.few, small, is)

pub visit-requires-clause-scope : goal.visit-requires-clause-scope
visit-requires-clause-scope g c = record { fits = c.requires.scope; taken = sym c.takes.ensures ∙ c.if-not-takes.false }

pub returns-then-not-takes-clause-marked : goal.returns-then-not-takes-clause-marked
returns-then-not-takes-clause-marked g c = λ q.
    let body = g.T.Table.table c.args.body.now in
    let is = (arity_from_get c.signature-sig.result.now c.args.sym.0 c.arity-arity.result c.arity-arity.ensures).0 in
    none_taken body c.args.column c.args.row.now.symbol (labels_at c.args.rows.now.labels c.args.row.now.kids) c.args.scope q c.args.sym.0 (has_state c.args.out.now q)
    (rw (ap (λ z. arity z c.args.sym.0) (sym c.signature-sig.ensures)) (ap (takes c.args.scope) is ∙ (sym c.takes.ensures ∙ c.if-not-takes.true)))

pub target_over_absent-state-requires-clause-found : goal.target_over_absent-state-requires-clause-found
target_over_absent-state-requires-clause-found g c =
    let body = g.T.Table.table c.args.body.now in
    let f = symbol_under c.args.row.now c.args.column c.args.sym.0 in
    let h = choices_made body c.args.column c.args.alone.now c.args.rows.now.labels c.args.row.now c.signature-sig.result.now c.args.sym.0 c.args.row.now.symbol f c.arity-arity.result c.requires.searched c.requires.alone c.signature-sig.ensures c.requires.symbol refl refl c.arity-arity.ensures in
    let finds = c.under-look_up.ensures body c.args.row.now.symbol c.args.column c.requires.finder c.requires.symbol in
    (f, finds, entry_under_constant body c.args.column c.args.alone.now c.args.rows.now.labels c.args.row.now c.args.sym.0 f c.arity-arity.result c.states-states.ensures.lawful c.states-states.ensures.reached h (omega arith))

pub set_bit-requires : goal.set_bit-requires
set_bit-requires g c =
    let body = g.T.Table.table c.args.body.now in
    let f = symbol_under c.args.row.now c.args.column c.args.sym.0 in
    let ks = map absent_state (labels_at c.args.rows.now.labels c.args.row.now.kids) in
    let h = choices_made body c.args.column c.args.alone.now c.args.rows.now.labels c.args.row.now c.signature-sig.result.now c.args.sym.0 c.args.row.now.symbol f c.arity-arity.result c.requires.searched c.requires.alone c.signature-sig.ensures c.requires.symbol refl refl c.arity-arity.ensures in
    let finds = c.under-look_up.ensures body c.args.row.now.symbol c.args.column c.requires.finder c.requires.symbol in
    let whole = entry_under_constant body c.args.column c.args.alone.now c.args.rows.now.labels c.args.row.now c.args.sym.0 f c.arity-arity.result c.states-states.ensures.lawful c.states-states.ensures.reached h (omega arith) in
    omega (arith, c.states-states.ensures.lawful.within (entry f ks) whole, c.target_over_absent-state.ensures f finds whole, c.requires.room)

pub returns-then-arity-eq0-clause-marked : goal.returns-then-arity-eq0-clause-marked
returns-then-arity-eq0-clause-marked g c = λ q.
    let body = g.T.Table.table c.args.body.now in
    let f = symbol_under c.args.row.now c.args.column c.args.sym.0 in
    let h = choices_made body c.args.column c.args.alone.now c.args.rows.now.labels c.args.row.now c.signature-sig.result.now c.args.sym.0 c.args.row.now.symbol f c.arity-arity.result c.requires.searched c.requires.alone c.signature-sig.ensures c.requires.symbol refl refl c.arity-arity.ensures in
    let finds = c.under-look_up.ensures body c.args.row.now.symbol c.args.column c.requires.finder c.requires.symbol in
    let whole = entry_under_constant body c.args.column c.args.alone.now c.args.rows.now.labels c.args.row.now c.args.sym.0 f c.arity-arity.result c.states-states.ensures.lawful c.states-states.ensures.reached h (omega arith) in
    let state = c.target_over_absent-state.result in
    let given = constant_gives body c.args.column c.args.alone.now c.args.rows.now.labels c.args.row.now c.args.scope c.args.sym.0 f c.arity-arity.result q c.states-states.ensures.lawful c.states-states.ensures.reached h (sym c.takes.ensures ∙ c.if-not-takes.false) (omega arith) in
    c.set_bit.ensures.bits (128 + q)
    ∙ ap (λ b. b || has_state c.args.out.now q) (shift_test state q ∙ (ap (λ x. x == q) (c.target_over_absent-state.ensures f finds whole) ∙ given))

pub returns-clause-marked : goal.returns-clause-marked
returns-clause-marked g c = λ q.
    let body = g.T.Table.table c.args.body.now in
    let h = choices_made body c.args.column c.args.alone.now c.args.rows.now.labels c.args.row.now c.signature-sig.result.now c.args.sym.0 c.args.row.now.symbol (symbol_under c.args.row.now c.args.column c.args.sym.0) c.arity-arity.result c.requires.searched c.requires.alone c.signature-sig.ensures c.requires.symbol refl refl c.arity-arity.ensures in
    c.visit.ensures.marked q ∙ ap (λ b. b || has_state c.args.out.now q) (under_reachable body c.args.column c.args.alone.now c.args.rows.now.labels c.args.row.now c.args.scope c.args.sym.0 (symbol_under c.args.row.now c.args.column c.args.sym.0) c.arity-arity.result c.max.result q h (sym c.takes.ensures ∙ c.if-not-takes.false) (omega (arith, c.max.ensures, ap length c.kids.ensures.states)))
