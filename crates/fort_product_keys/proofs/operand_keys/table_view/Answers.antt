use Rattle.std.proofs.Common.{◌≡◌, ◌<◌, length, true, sym, ◌∙◌, ap, arith, subst}
use Rattle.fort_theory.specs.Signatures.{Signature}
use Rattle.fort_tables.specs.Tuples.{TupleSymbol, AreSymbols, symbol_kids}
use Rattle.fort_tables.specs.Selections.{selected}
use Rattle.fort_table_classes.specs.ClassViews.{IsPlaceUnder}
use Rattle.fort_table_classes.specs.KnownSymbols.{are_symbols}
use Rattle.fort_product_keys.proofs.SymbolTests.{place_from_test}
use Rattle.fort_product_keys.proofs.ViewedStates.{own_symbols, there_by_place}
use Rattle.fort_product_keys.proofs.operand_keys.table_view.Goals as goal

pub kid_count-requires : goal.kid_count-requires
kid_count-requires g c =
    let table = g.T.Table.table c.args.table.now in
    let f = c.args.symbol.now in
    let test : are_symbols table.signature f ≡ true = ap (λ z. are_symbols z f) (sym c.signature.ensures) ∙ (sym c.are_symbols.ensures ∙ c.if-not-are_symbols.false) in
    subst (λ (z : Signature). AreSymbols z c.selected-own.result) (sym c.signature-2.ensures)
    (subst (AreSymbols table.signature) (sym c.selected-own.ensures) (own_symbols table c.args.places.now c.args.columns f c.args.place test))

pub view-requires : goal.view-requires
view-requires g c =
    let table = g.T.Table.table c.args.table.now in
    let places = c.args.places.now in
    let n = c.args.columns in
    let f = c.args.symbol.now in
    let own = c.selected-own.result in
    let test : are_symbols table.signature f ≡ true = ap (λ z. are_symbols z f) (sym c.signature.ensures) ∙ (sym c.are_symbols.ensures ∙ c.if-not-are_symbols.false) in
    let wide : length f ≡ n = omega (arith, c.len.ensures.count, c.if-len-columns.false) in
    let same : symbol_kids c.signature-2.result.now own ≡ symbol_kids table.signature (selected places f) =
    ap (λ z. symbol_kids z own) c.signature-2.ensures ∙ ap (symbol_kids table.signature) c.selected-own.ensures in
    let low : c.args.place < symbol_kids table.signature (selected places f) = omega (arith, c.if-place-kid_count.false, c.kid_count.ensures.count, same) in
    subst (λ (z : TupleSymbol). IsPlaceUnder table z c.args.place) (sym c.selected-own.ensures)
    (place_from_test table places n f c.args.place c.requires.operand.1.1.0 (there_by_place table places n f c.args.place wide test low))

pub kid_presence-requires : goal.kid_presence-requires
kid_presence-requires g c =
    let table = g.T.Table.table c.args.table.now in
    let f = c.args.symbol.now in
    let test : are_symbols table.signature f ≡ true = ap (λ z. are_symbols z f) (sym c.signature.ensures) ∙ (sym c.are_symbols.ensures ∙ c.if-not-are_symbols.false) in
    subst (λ (z : Signature). AreSymbols z c.selected-own.result) (sym c.signature-3.ensures)
    (subst (AreSymbols table.signature) (sym c.selected-own.ensures) (own_symbols table c.args.places.now c.args.columns f c.args.place test))
