use Rattle.std.proofs.Common.{◌≡◌, ◌*◌, ap, arith}
use Rattle.fort_gtt_closure.proofs.ProgressLaws.{Progress-at}
use Rattle.fort_gtt_closure.proofs.passes.pass.Goals as goal

pub returns-clause-progress : goal.returns-clause-progress
returns-clause-progress c start h =
    let agtt = c.args.agtt.now in
    let last : c.loop-p.p ≡ agtt.right.states = omega (arith, c.loop-p-test.false, c.loop-p.auto.p-end) in
    Progress-at agtt start c.loop-p.listing.grid.entries.items (c.loop-p.p * agtt.left.states) (agtt.right.states * agtt.left.states) (ap (λ p. p * agtt.left.states) last)
    (c.loop-p.invariant.progress start h)
