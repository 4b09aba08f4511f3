use Rattle.std.proofs.Common.{◌≡◌, arith, ℕ, map, length, sym, subst}
use Rattle.std.proofs.lemmas.Result.{IfOk-weaker}
use Rattle.fort_steps.specs.StepView.{as_step}
use Rattle.fort_check_steps.specs.Marks.{HasMarkRoom}
use Rattle.fort_cert_checker.specs.declared.plan.Work.{Work}
use Rattle.fort_cert_checker.specs.Pasts.{IsMarkRoomFor}
use Rattle.fort_cert_checker.proofs.making.marks_for.Goals as goal

pub returns-in-Projection : goal.returns-in-Projection
returns-in-Projection c =
    IfOk-weaker c.mark_room.result _ _ (λ r has.
    subst (λ (w : Work). IsMarkRoomFor (map as_step c.args.steps.now) w r) (sym c.in-Projection.is)
    (λ n are. subst (λ (m : ℕ). HasMarkRoom m 0 r) (c.states_of.ensures.states n are) has))
    c.mark_room.ensures

pub returns-in-Many : goal.returns-in-Many
returns-in-Many c =
    let count : c.len.result ≡ length c.in-Many.marks.items = omega (arith, c.len.ensures, c.in-Many.marks.ok.0) in
    IfOk-weaker c.mark_room-in-Many.result _ _ (λ r has.
    subst (λ (w : Work). IsMarkRoomFor (map as_step c.args.steps.now) w r) (sym c.in-Many.is)
    (λ n are.
    subst (λ (m : ℕ). HasMarkRoom n m r) count
    (subst (λ (m : ℕ). HasMarkRoom m c.len.result r) (c.states_of-in-Many.ensures.states n are) has)))
    c.mark_room-in-Many.ensures
