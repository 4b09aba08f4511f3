use Rattle.std.proofs.Common.{◌∙◌, arith}
use Rattle.fort_projections.proofs.ImageLaws.{states_joined}
use Rattle.fort_projections.proofs.imaged.join.Goals as goal

pub returns-clause-marked : goal.returns-clause-marked
returns-clause-marked c =
    let i = c.loop-i.invariant in
    states_joined c.args.set.now c.args.out.now c.loop-i.out c.requires (i.size ∙ c.requires) (λ k a b. i.done k a (omega (arith, b, c.loop-i-test.false)))
