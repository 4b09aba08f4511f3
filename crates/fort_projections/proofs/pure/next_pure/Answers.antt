use Rattle.fort_projections.proofs.PureSearch.{next_listed, none_listed}
use Rattle.fort_projections.proofs.pure.next_pure.Goals as goal

pub returns-then-place-alone-clause-some : goal.returns-then-place-alone-clause-some
returns-then-place-alone-clause-some c = λ body column pure.
    let f = c.first_from-place.ensures in
    next_listed body column c.args.alone.now c.args.from c.first_from-place.result pure f.below f.above c.if-place-alone.true

pub returns-else-place-alone-clause-none : goal.returns-else-place-alone-clause-none
returns-else-place-alone-clause-none c = λ body column pure.
    let f = c.first_from-place.ensures in
    none_listed body column c.args.alone.now c.args.from c.first_from-place.result pure f.below c.if-place-alone.false
