use Rattle.std.proofs.Common.{sym, subst, ◌∙◌, arith}
use Rattle.std.proofs.lemmas.List.{length-map, get_or-map}
use Rattle.fort_certificate_theory.specs.Dues as definitions
use Rattle.fort_dues.specs.DueView.{as_due}
use Rattle.fort_cert_checker.specs.Makings.{IsClosureFor}
use Rattle.fort_cert_checker.proofs.MakingLaws.{made_more}
use Rattle.fort_cert_checker.proofs.making.closure_plans.Goals as goal

pub plan_for-requires : goal.plan_for-requires
plan_for-requires c = λ which index e.
    let here = get_or-map as_due c.args.dues.now c.loop-due.due-index _ (definitions.OfClosure which index) c.loop-due-test.true in
    c.requires which index (c.loop-due.due-index, omega (arith, length-map c.args.dues.now as_due, c.loop-due-test.true), here ∙ e)

pub loop-due-preserved : goal.loop-due-preserved
loop-due-preserved c =
    let here = get_or-map as_due c.args.dues.now c.loop-due.due-index _ (definitions.OfPart 0) c.loop-due-test.true in
    made_more _ c.loop-due.due-index c.loop-due.plans.items c.push.new.self.items c.in_ok-plan_for.field-0 c.loop-due.invariant
    (subst (λ d. IsClosureFor c.args.system.now d c.in_ok-plan_for.field-0) (sym here) c.in_ok-plan_for.ensures) c.in_ok-push.ensures.items
