use Rattle.std.proofs.Common.{map, sym, subst, ◌∙◌, arith}
use Rattle.std.proofs.lemmas.List.{get_or_default}
use Rattle.fort_steps.specs.StepView.{as_step}
use Rattle.fort_cert_checker.specs.declared.plan.Plan.{Plan}
use Rattle.fort_cert_checker.specs.Pasts.{IsMarkRoomFor}
use Rattle.fort_cert_checker.proofs.MakingLaws.{made_more}
use Rattle.fort_cert_checker.proofs.making.mark_rooms.Goals as goal

pub loop-plan-preserved : goal.loop-plan-preserved
loop-plan-preserved c =
    made_more _ c.loop-plan.plan-index c.loop-plan.rooms.items c.push.new.self.items c.in_ok-marks_for.field-0 c.loop-plan.invariant
    (λ d. subst (λ (p : Plan). IsMarkRoomFor (map as_step c.args.steps.now) p.work c.in_ok-marks_for.field-0) (sym (get_or_default c.args.plans.now c.loop-plan.plan-index d c.plan-item.result (omega (arith, c.loop-plan-test.true)) ∙ sym c.plan-item.is)) c.in_ok-marks_for.ensures)
    c.in_ok-push.ensures.items
