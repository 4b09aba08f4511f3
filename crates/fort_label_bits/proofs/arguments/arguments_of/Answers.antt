use Rattle.std.proofs.Common.{sym, arith}
use Rattle.fort_alike.proofs.AtomPlaces.{places-same, places-up, places-down}
use Rattle.fort_label_bits.proofs.arguments.arguments_of.Goals as goal

pub returns-then-x-y-clause-columns : goal.returns-then-x-y-clause-columns
returns-then-x-y-clause-columns c rel index columns are = sym ((places-same rel index c.args.x c.args.y columns are c.if-x-y.true).0)

pub returns-then-x-y-clause-first : goal.returns-then-x-y-clause-first
returns-then-x-y-clause-first c rel index columns are = sym ((places-same rel index c.args.x c.args.y columns are c.if-x-y.true).1)

pub returns-then-x-y-clause-second : goal.returns-then-x-y-clause-second
returns-then-x-y-clause-second c rel index columns are = sym ((places-same rel index c.args.x c.args.y columns are c.if-x-y.true).2)

pub returns-then-x-y-2-clause-columns : goal.returns-then-x-y-2-clause-columns
returns-then-x-y-2-clause-columns c rel index columns are = sym ((places-up rel index c.args.x c.args.y columns are c.if-x-y-2.true).0)

pub returns-then-x-y-2-clause-first : goal.returns-then-x-y-2-clause-first
returns-then-x-y-2-clause-first c rel index columns are = sym ((places-up rel index c.args.x c.args.y columns are c.if-x-y-2.true).1)

pub returns-then-x-y-2-clause-second : goal.returns-then-x-y-2-clause-second
returns-then-x-y-2-clause-second c rel index columns are = sym ((places-up rel index c.args.x c.args.y columns are c.if-x-y-2.true).2)

pub returns-else-x-y-2-clause-columns : goal.returns-else-x-y-2-clause-columns
returns-else-x-y-2-clause-columns c rel index columns are = sym ((places-down rel index c.args.x c.args.y columns are (omega (arith, c.if-x-y-2.false, c.if-x-y.false))).0)

pub returns-else-x-y-2-clause-first : goal.returns-else-x-y-2-clause-first
returns-else-x-y-2-clause-first c rel index columns are = sym ((places-down rel index c.args.x c.args.y columns are (omega (arith, c.if-x-y-2.false, c.if-x-y.false))).1)

pub returns-else-x-y-2-clause-second : goal.returns-else-x-y-2-clause-second
returns-else-x-y-2-clause-second c rel index columns are = sym ((places-down rel index c.args.x c.args.y columns are (omega (arith, c.if-x-y-2.false, c.if-x-y.false))).2)
