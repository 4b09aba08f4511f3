use Rattle.std.proofs.Common.{◌+◌, ◌≤◌, length, get_or, None, ap, ◌∙◌, arith}
use Rattle.std.proofs.lemmas.List.{length-map, take_all}
use Rattle.fort_tuple_symbols.specs.Columns.{symbol_of}
use Rattle.fort_tables.specs.Selections.{selected}
use Rattle.fort_target_lists.specs.Places.{number_of}
use Rattle.fort_target_lists.proofs.SymbolNumbers.{number_of-front}
use Rattle.fort_products.proofs.JointLaws.{number_next}
use Rattle.fort_products.proofs.joint.number_in.Goals as goal

pub returns : goal.returns
returns c =
    let f = symbol_of c.args.digits.now in
    let long : length (selected c.args.places.now f) ≤ c.loop-k.k = omega (arith, c.loop-k-test.false, length-map c.args.places.now (λ p. get_or f p None)) in
    c.loop-k.invariant ∙ ap (number_of c.args.base) (take_all c.loop-k.k (selected c.args.places.now f) long)

pub overflow_mul-number : goal.overflow_mul-number
overflow_mul-number c =
    let turn = number_next c.args.base c.args.digits.now c.args.places.now c.loop-k.k c.loop-k.number c.requires.within (omega (arith, c.loop-k-test.true)) c.loop-k.invariant in
    omega (arith, turn, number_of-front c.args.base (selected c.args.places.now (symbol_of c.args.digits.now)) (c.loop-k.k + 1) c.requires.some, c.requires.small)

pub overflow_add-number : goal.overflow_add-number
overflow_add-number c =
    let turn = number_next c.args.base c.args.digits.now c.args.places.now c.loop-k.k c.loop-k.number c.requires.within (omega (arith, c.loop-k-test.true)) c.loop-k.invariant in
    omega (arith, turn, number_of-front c.args.base (selected c.args.places.now (symbol_of c.args.digits.now)) (c.loop-k.k + 1) c.requires.some, c.requires.small)

pub loop-k-preserved : goal.loop-k-preserved
loop-k-preserved c = number_next c.args.base c.args.digits.now c.args.places.now c.loop-k.k c.loop-k.number c.requires.within (omega (arith, c.loop-k-test.true)) c.loop-k.invariant
