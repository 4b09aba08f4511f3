use Rattle.std.proofs.Common.{◌≡◌, true, None, sym, ◌∙◌, subst}
use Rattle.fort_theory.specs.Signatures.{Signature}
use Rattle.fort_tables.specs.Tuples.{AreSymbols}
use Rattle.fort_projection_keys.specs.ProjectionViews.{has_child}
use Rattle.fort_projection_keys.proofs.PlaceLaws.{place_from_test, place_with}
use Rattle.fort_projection_keys.proofs.places.write_view.Goals as goal

pub kid_presence-requires : goal.kid_presence-requires
kid_presence-requires g c =
    let table = g.T.Table.table c.args.body.now in
    let f = c.args.symbol.now in
    let j = c.args.place in
    let test : has_child table f j ≡ true = sym c.has_child.ensures ∙ c.if-not-has_child.false in
    subst (λ (z : Signature). AreSymbols z c.with_column-absent.result) (sym c.signature.ensures)
    (subst (AreSymbols table.signature) (sym c.with_column-absent.ensures) (place_with table c.args.column f j None c.requires.column (place_from_test table f j test) tt).symbol.symbols)
