use Rattle.std.proofs.Common.{◌≡◌, length, ap, arith}
use Rattle.fort_infinity.proofs.ChildrenLaws.{children_noted}
use Rattle.fort_infinity.proofs.children.pure_children.Goals as goal

pub returns : goal.returns
returns g c =
    let body = g.T.Table.table c.args.body.now in
    let all : c.loop-g.g ≡ length body.signature = omega (arith, c.loop-g-test.false, c.loop-g.auto.g-end, c.len-g-end.ensures.count, ap length c.signature.ensures) in
    children_noted body c.args.column c.loop-g.g c.loop-g.children c.requires.column c.loop-g.invariant.size all c.loop-g.invariant.noted
