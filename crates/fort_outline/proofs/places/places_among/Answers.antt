use Rattle.std.proofs.Common.{◌≡◌, ◌∙◌, arith, length}
use Rattle.fort_outline.proofs.PlaceLaws.{each_among, all_places}
use Rattle.fort_outline.proofs.places.places_among.Goals as goal

pub column_of-requires : goal.column_of-requires
column_of-requires c = each_among c.args.columns.now c.args.numbers.now c.requires c.loop-k.k c.loop-k-test.true

pub returns : goal.returns
returns c =
    let all : c.loop-k.k ≡ length c.args.numbers.now = omega (arith, c.loop-k-test.false, c.loop-k.auto.k-end) in
    all_places c.args.columns.now c.args.numbers.now c.loop-k.places.items (c.loop-k.invariant.count ∙ all)
    (λ j l. c.loop-k.invariant.each j (omega arith))
