use Rattle.fort_projections.proofs.PureSearch.{searched_below}
use Rattle.fort_projections.proofs.pure.first_from.Goals as goal

pub returns-in-Err-clause-below : goal.returns-in-Err-clause-below
returns-in-Err-clause-below c = (searched_below c.args.numbers.now c.args.from c.in-Err.place c.binary_search.result c.binary_search.ensures.position c.in-Err.is c.requires).0

pub returns-in-Err-clause-above : goal.returns-in-Err-clause-above
returns-in-Err-clause-above c = (searched_below c.args.numbers.now c.args.from c.in-Err.place c.binary_search.result c.binary_search.ensures.position c.in-Err.is c.requires).1
