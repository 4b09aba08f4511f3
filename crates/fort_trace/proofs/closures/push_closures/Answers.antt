use Rattle.std.proofs.Common.{◌≡◌, ◌<◌, ◌≤◌, List, map, length, take, get_or, refl, ap, ◌∙◌, subst, arith}
use Rattle.std.proofs.lemmas.List.{take_all}
use Rattle.fort_certificate_theory.specs.Dues.{DueStep}
use Rattle.fort_engine.specs.declared.closures.IndexClosure.{IndexClosure}
use Rattle.fort_trace.specs.Recording.{AddsSteps}
use Rattle.fort_trace.proofs.ClosureLaws.{step_for, closures_are_due, AddsSteps-none, AddsSteps-more}
use Rattle.fort_trace.proofs.closures.push_closures.Goals as goal

pub loop-closure-init : goal.loop-closure-init
loop-closure-init c parts made are = AddsSteps-none c.args.system.now parts made (map step_for (take 0 c.args.closures.now.list.items)) c.args.steps.now.items refl

pub loop-closure-preserved : goal.loop-closure-preserved
loop-closure-preserved c parts made are =
    let cs : List IndexClosure = c.args.closures.now.list.items in
    let i = c.loop-closure.closure-index in
    let own : IndexClosure = c.closure-item.result in
    let low : i < length cs = subst (λ (xs : List IndexClosure). i < length xs) c.deref-closure-items.ensures.value c.loop-closure-test.true in
    let at : own ≡ get_or cs i own = subst (λ (xs : List IndexClosure). own ≡ get_or xs i own) c.deref-closure-items.ensures.value c.closure-item.is in
    AddsSteps-more c.args.system.now parts c.signature-lawful.ensures.lawful made cs i own c.in_ok-entries.entries c.args.steps.now.items c.loop-closure.steps.items c.push.new.self.items low at
    (c.in_ok-entries.ensures.items ∙ c.deref.ensures.value) c.in_ok-push.ensures.items are (c.loop-closure.invariant parts made are)

pub returns : goal.returns
returns c parts made are =
    let cs : List IndexClosure = c.args.closures.now.list.items in
    let end : length cs ≤ c.loop-closure.closure-index = omega (arith, c.loop-closure-test.false, ap length c.deref-closure-items.ensures.value) in
    subst (λ (ds : List DueStep). AddsSteps c.args.system.now parts made ds c.args.steps.now.items c.loop-closure.steps.items)
    (ap (map step_for) (take_all c.loop-closure.closure-index cs end) ∙ closures_are_due c.args.system.now parts cs are) (c.loop-closure.invariant parts made are)
