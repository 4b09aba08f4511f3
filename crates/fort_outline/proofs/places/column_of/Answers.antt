use Rattle.fort_outline.proofs.PlaceLaws.{found_number, no_number}
use Rattle.fort_outline.proofs.places.column_of.Goals as goal

pub returns-then-columns-place : goal.returns-then-columns-place
returns-then-columns-place c = found_number c.args.columns.now c.args.number c.loop-place.place c.loop-place-test.true c.loop-place.invariant c.if-columns-place.true

pub unreachable-requires : goal.unreachable-requires
unreachable-requires c = no_number c.args.columns.now c.args.number c.loop-place.place c.requires c.loop-place-test.false c.loop-place.invariant
