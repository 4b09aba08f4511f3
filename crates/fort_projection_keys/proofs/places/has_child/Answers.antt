use Rattle.std.proofs.Common.{sym, ◌∙◌, ap}
use Rattle.fort_table_classes.specs.KnownSymbols.{are_symbols}
use Rattle.fort_table_classes.proofs.SymbolTests.{symbols_from_test}
use Rattle.fort_projection_keys.proofs.places.has_child.Goals as goal

pub kid_count-requires : goal.kid_count-requires
kid_count-requires g c =
    let f = c.args.symbol.now in
    symbols_from_test c.signature-2.result.now f (ap (λ z. are_symbols z f) (c.signature-2.ensures ∙ sym c.signature.ensures) ∙ (sym c.are_symbols.ensures ∙ c.if-not-are_symbols.false))
