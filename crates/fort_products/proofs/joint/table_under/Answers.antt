use Rattle.std.proofs.Common.{◌≡◌, ◌<◌, get_or, refl, ap, sym, ◌∙◌, arith}
use Rattle.fort_tuple_symbols.specs.Columns.{symbol_of}
use Rattle.fort_tables.specs.Selections.{selected}
use Rattle.fort_target_lists.specs.Places.{number_of}
use Rattle.fort_products.proofs.ListedLaws.{number_absent, number_present, step_absent, selected_below}
use Rattle.fort_products.proofs.JointLaws.{columns_in_digits}
use Rattle.fort_products.proofs.joint.table_under.Goals as goal

pub number_in-number-requires-clause-some : goal.number_in-number-requires-clause-some
number_in-number-requires-clause-some g c = omega (arith, c.requires.list.base_is)

pub number_in-number-requires-clause-within : goal.number_in-number-requires-clause-within
number_in-number-requires-clause-within g c = c.requires.operand.1.1.1

pub number_in-number-requires-clause-small : goal.number_in-number-requires-clause-small
number_in-number-requires-clause-small g c =
    let table = g.T.Table.table c.args.table.now in
    let list = c.args.list.now in
    let places = c.args.places.now in
    let f = symbol_of c.args.digits.now in
    let columns = columns_in_digits c.requires.operand.0 table places c.args.digits.now c.requires.operand.1 c.requires.operand.2 in
    let below = selected_below table list places f c.requires.list c.requires.operand.1.1.0 columns in
    omega (arith, below, c.requires.list.few)

pub returns-then-number-eq0 : goal.returns-then-number-eq0
returns-then-number-eq0 g c = λ ws.
    let table = g.T.Table.table c.args.table.now in
    let list = c.args.list.now in
    let places = c.args.places.now in
    let f = symbol_of c.args.digits.now in
    let some : 0 < list.base = omega (arith, c.requires.list.base_is) in
    let num : c.number_in-number.result ≡ number_of list.base (selected places f) = c.number_in-number.ensures in
    step_absent table places c.args.at f ws (number_absent list.base (selected places f) some (sym num ∙ c.if-number-eq0.true))

pub start-requires : goal.start-requires
start-requires g c =
    let table = g.T.Table.table c.args.table.now in
    let list = c.args.list.now in
    let places = c.args.places.now in
    let f = symbol_of c.args.digits.now in
    let columns = columns_in_digits c.requires.operand.0 table places c.args.digits.now c.requires.operand.1 c.requires.operand.2 in
    let below = selected_below table list places f c.requires.list c.requires.operand.1.1.0 columns in
    omega (arith, below, c.number_in-number.ensures, c.requires.list.starts_all)

pub returns : goal.returns
returns g c =
    let table = g.T.Table.table c.args.table.now in
    let list = c.args.list.now in
    let places = c.args.places.now in
    let f = symbol_of c.args.digits.now in
    let num : c.number_in-number.result ≡ number_of list.base (selected places f) = c.number_in-number.ensures in
    record {
      lawful = c.columns-columns.ensures.lawful;
      list_is = c.requires.list;
      there = number_present list.base (selected places f) (λ z. c.if-number-eq0.false (num ∙ z));
      start_is = c.start.ensures ∙ ap (λ n. get_or list.listing.starts.items n 0) num;
      at_is = refl;
    }
