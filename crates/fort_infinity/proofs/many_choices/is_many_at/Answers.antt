use Rattle.fort_infinity.proofs.ManyMarks.{many_found, many_missing}
use Rattle.fort_infinity.proofs.many_choices.is_many_at.Goals as goal

pub returns-in-Ok : goal.returns-in-Ok
returns-in-Ok c = many_found c.args.alone.now c.args.counts.now c.args.k c.in-Ok.place c.binary_search.result _ c.is_infinite.result c.binary_search.ensures.position c.in-Ok.is c.requires.ascending c.requires.sizes c.is_infinite.ensures

pub returns-in-Err : goal.returns-in-Err
returns-in-Err c = many_missing c.args.alone.now c.args.counts.now c.args.k c.in-Err.field-0 c.binary_search.result c.binary_search.ensures.position c.in-Err.is c.requires.ascending
