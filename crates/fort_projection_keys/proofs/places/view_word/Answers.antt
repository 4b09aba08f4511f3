use Rattle.std.proofs.Common.{sym, subst}
use Rattle.fort_tables.specs.Tuples.{TupleSymbol}
use Rattle.fort_tuple_symbols.specs.Columns.{as_column}
use Rattle.fort_table_classes.specs.ClassViews.{IsPlaceUnder}
use Rattle.fort_projection_keys.proofs.PlaceLaws.{column_is, place_from_test, place_with}
use Rattle.fort_projection_keys.proofs.places.view_word.Goals as goal

pub view-requires : goal.view-requires
view-requires g c =
    let table = g.T.Table.table c.args.body.now in
    let f = c.args.symbol.now in
    let j = c.args.place in
    subst (λ (z : TupleSymbol). IsPlaceUnder table z j) (sym c.with_column-whole.ensures)
    (place_with table c.args.column f j (as_column c.args.own) c.requires.column (place_from_test table f j c.requires.child) (column_is table.signature c.args.own c.requires.own))
