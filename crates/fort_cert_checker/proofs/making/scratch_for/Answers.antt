use Rattle.std.proofs.Common.{◌≡◌, ◌<◌, ◌≤◌, ℕ, map, length, get_or, sym, subst, ◌∙◌, arith, ⊎_elim}
use Rattle.std.proofs.lemmas.Bool.{cases_lt}
use Rattle.std.proofs.lemmas.List.{get_or_default}
use Rattle.std.proofs.lemmas.Result.{IfOk-weaker}
use Rattle.fort_steps.specs.StepView.{as_step}
use Rattle.fort_check_steps.proofs.RoomLaws.{more_room}
use Rattle.fort_cert_checker.specs.declared.plan.Plan.{Plan}
use Rattle.fort_cert_checker.specs.Makings.{IsScratchFor, IsScratchMade}
use Rattle.fort_cert_checker.proofs.making.scratch_for.Goals as goal

pub loop-k-init : goal.loop-k-init
loop-k-init c scratch has = λ k d l. absurd (omega arith)

pub loop-k-preserved : goal.loop-k-preserved
loop-k-preserved c scratch has = λ j d l.
    let k = c.loop-k.k in
    ⊎_elim
    (λ (m : j < k). c.loop-k.invariant scratch (more_room c.max-needs.ensures.own has) j d m)
    (λ (m : k ≤ j).
    let same : k ≡ j = omega (arith, l) in
    let own = c.in-Some.ensures.some scratch (more_room c.max-needs.ensures.other has) in
    let is = get_or_default c.args.plans.now k d c.index-plans-k.result (omega (arith, c.loop-k-test.true)) ∙ sym c.index-plans-k.is in
    subst (λ (i : ℕ). IsScratchFor (map as_step c.args.steps.now) i (get_or c.args.plans.now i d) scratch) same
    (subst (λ (p : Plan). IsScratchFor (map as_step c.args.steps.now) k p scratch) (sym is) own))
    (cases_lt j k)

pub returns : goal.returns
returns c =
    let n : c.loop-k.k ≡ length c.args.plans.now = omega arith in
    IfOk-weaker c.new.result _ _
    (λ scratch has. subst (λ (m : ℕ). IsScratchMade (map as_step c.args.steps.now) c.args.plans.now m scratch) n (c.loop-k.invariant scratch has))
    c.new.ensures
