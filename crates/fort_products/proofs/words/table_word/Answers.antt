use Rattle.std.proofs.Common.{take, get_or, [], sym, ◌∙◌, arith, subst}
use Rattle.std.proofs.lemmas.List.{length-map}
use Rattle.fort_theory.specs.Signatures.{Signature}
use Rattle.fort_tables.specs.Tuples.{AreSymbols}
use Rattle.fort_tables.specs.Tables.{IsTableEntry}
use Rattle.fort_products.proofs.OperandEntries.{entry_read, kids_read, entry_made, state_small}
use Rattle.fort_products.proofs.words.table_word.Goals as goal

pub kid_count-count-requires : goal.kid_count-count-requires
kid_count-count-requires g c =
    let table = g.T.Table.table c.args.table.now in
    let x = entry_read c.requires.0 _ table c.args.places.now c.args.at c.args.rows.now.labels c.args.row.now c.sym.result c.selected-symbol.result c.columns-columns.ensures.lawful c.requires.1 c.sym.ensures c.selected-symbol.ensures (sym c.is_present.ensures ∙ c.if-not-is_present.false) in
    subst (λ (z : Signature). AreSymbols z c.selected-symbol.result) (sym c.signature.ensures) (subst (AreSymbols table.signature) (sym x.0) x.1.symbols)

pub states_at-states-requires-clause-there : goal.states_at-states-requires-clause-there
states_at-states-requires-clause-there g c =
    let table = g.T.Table.table c.args.table.now in
    let labels = c.args.rows.now.labels in
    let e = c.args.row.now in
    let x = entry_read c.requires.0 _ table c.args.places.now c.args.at labels e c.sym.result c.selected-symbol.result c.columns-columns.ensures.lawful c.requires.1 c.sym.ensures c.selected-symbol.ensures (sym c.is_present.ensures ∙ c.if-not-is_present.false) in
    let k = kids_read table c.args.places.now c.args.at labels e c.signature.result.now c.selected-symbol.result c.kid_count-count.result x.0 c.signature.ensures c.kid_count-count.ensures.count in
    omega (arith, k, x.1.count, length-map e.kids (λ q. get_or labels q []))

pub states_at-states-requires-clause-small : goal.states_at-states-requires-clause-small
states_at-states-requires-clause-small g c = λ j l.
    let table = g.T.Table.table c.args.table.now in
    let labels = c.args.rows.now.labels in
    let e = c.args.row.now in
    let x = entry_read c.requires.0 _ table c.args.places.now c.args.at labels e c.sym.result c.selected-symbol.result c.columns-columns.ensures.lawful c.requires.1 c.sym.ensures c.selected-symbol.ensures (sym c.is_present.ensures ∙ c.if-not-is_present.false) in
    let k = kids_read table c.args.places.now c.args.at labels e c.signature.result.now c.selected-symbol.result c.kid_count-count.result x.0 c.signature.ensures c.kid_count-count.ensures.count in
    omega (arith, state_small table c.args.places.now c.args.at labels e x.1 j (omega (arith, k, l)), c.states-states.ensures.count, c.states-states.type_inv)

pub target-requires : goal.target-requires
target-requires g c =
    let table = g.T.Table.table c.args.table.now in
    let labels = c.args.rows.now.labels in
    let e = c.args.row.now in
    let x = entry_read c.requires.0 _ table c.args.places.now c.args.at labels e c.sym.result c.selected-symbol.result c.columns-columns.ensures.lawful c.requires.1 c.sym.ensures c.selected-symbol.ensures (sym c.is_present.ensures ∙ c.if-not-is_present.false) in
    let k = kids_read table c.args.places.now c.args.at labels e c.signature.result.now c.selected-symbol.result c.kid_count-count.result x.0 c.signature.ensures c.kid_count-count.ensures.count in
    subst (IsTableEntry table) (entry_made table c.args.places.now c.args.at labels e c.selected-symbol.result c.kid_count-count.result (take c.kid_count-count.result c.states_at-states.result) x.0 k c.states_at-states.ensures) x.1.entry
