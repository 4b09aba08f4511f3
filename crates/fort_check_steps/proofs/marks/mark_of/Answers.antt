use Rattle.std.proofs.Common.{get_or, refl}
use Rattle.fort_findings.specs.declared.count.Count.TheVariants.{Finite}
use Rattle.fort_check_steps.proofs.MarkSearch.{search_found, search_missed, mark_found, mark_missed}
use Rattle.fort_check_steps.proofs.marks.mark_of.Goals as goal

pub returns-in-Ok : goal.returns-in-Ok
returns-in-Ok c =
    mark_found c.args.states.now c.args.marks.now c.args.k c.in-Ok.place (Finite 0) (get_or c.args.marks.now c.in-Ok.place (Finite 0))
    (search_found c.args.states.now c.args.k c.in-Ok.place c.binary_search.result c.binary_search.ensures.position c.in-Ok.is c.requires.ascending) c.requires.ascending c.requires.sizes refl

pub returns-in-Err : goal.returns-in-Err
returns-in-Err c =
    mark_missed c.args.states.now c.args.marks.now c.args.k
    (search_missed c.args.states.now c.args.k c.in-Err.field-0 c.binary_search.result c.binary_search.ensures.position c.in-Err.is c.requires.ascending)
