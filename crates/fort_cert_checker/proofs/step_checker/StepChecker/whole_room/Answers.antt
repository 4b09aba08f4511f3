use Rattle.std.proofs.Common.{sym, subst, arith}
use Rattle.fort_cert_checker.specs.Fronts.{HasFewTargets}
use Rattle.fort_cert_checker.proofs.step_checker.StepChecker.whole_room.Goals as goal

pub with_room-requires : goal.with_room-requires
with_room-requires c =
    let r = c.requires in
    let few = c.list_of-needs.ensures.few (subst HasFewTargets (sym r.4.steps_are) r.4.ready.few) in
    omega (arith, few)
