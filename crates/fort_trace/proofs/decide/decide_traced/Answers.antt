use Rattle.std.proofs.Common.{◌≡◌, ◌<◌, ◌^◌, List, [], None, length, get_or, refl, sym, ◌∙◌, subst, arith}
use Rattle.std.proofs.lemmas.List.{get_or_default}
use Rattle.fort_formulas.specs.CoreView.{as_core}
use Rattle.fort_certificate_theory.specs.Dues.{closures_due}
use Rattle.fort_certificate_theory.specs.Made.{nothing_made}
use Rattle.fort_outline.specs.Outlines.{parts_in}
use Rattle.fort_engine.specs.Deciding.{IsPlanned}
use Rattle.fort_engine.proofs.OperandLaws.{none_taken}
use Rattle.fort_engine.proofs.DecideLaws.{IsAnswerTo-taken}
use Rattle.fort_steps.specs.declared.step.Step.{Step}
use Rattle.fort_trace.specs.Recording.{recorded_with, AddsSteps}
use Rattle.fort_trace.proofs.RecordLaws.{IsRecordedTo-none, taken_right, none_over_end, IsTraced-root}
use Rattle.fort_trace.proofs.decide.decide_traced.Goals as goal

pub decide_parts-requires-clause-planned : goal.decide_parts-requires-clause-planned
decide_parts-requires-clause-planned c = (as_core c.args.core.now, record { decided = c.requires; laid = c.in_ok-outline.ensures })

pub decide_parts-requires-clause-closures : goal.decide_parts-requires-clause-closures
decide_parts-requires-clause-closures c = rw c.deref.ensures.value at c.in_ok-closures.ensures

pub decide_parts-requires-clause-begun : goal.decide_parts-requires-clause-begun
decide_parts-requires-clause-begun c =
    let system = c.args.system.now in
    let o = c.in_ok-outline.outline in
    let new = c.push_closures.new.steps.items in
    let few : length o.roots.items < 2 ^ 32 = omega (arith, c.len.ensures) in
    let begun : AddsSteps system (parts_in o) nothing_made (closures_due (parts_in o) (length system.rules) 1) [] new =
    subst (λ (xs : List Step). AddsSteps system (parts_in o) nothing_made (closures_due (parts_in o) (length system.rules) 1) xs new) c.new-list.ensures.items
    (c.in_ok-push_closures.ensures (parts_in o) nothing_made (rw c.deref.ensures.value at c.in_ok-closures.ensures)) in
    record { few = few; recorded = IsRecordedTo-none c.args.reduces system (parts_in o) o.last_uses.items new begun }

pub unreachable-requires : goal.unreachable-requires
unreachable-requires c =
    let a = c.args in
    let system = a.system.now in
    let f = as_core a.core.now in
    let o = c.in_ok-outline.outline in
    let kept = c.in-Ok.kept.items in
    let n = length o.roots.items in
    let plan : IsPlanned system f o = record { decided = c.requires; laid = c.in_ok-outline.ensures } in
    let far = c.in-Ok.ensures.far in
    let taken : get_or kept o.whole None ≡ c.swap_remove.result =
    get_or_default kept o.whole None c.swap_remove.result (omega (arith, plan.laid.within, far.kept_are.count)) ∙ sym c.swap_remove.ensures.value in
    let has = taken_right a.reduces system f o plan a.cap n kept far refl in
    none_taken system (recorded_with a.cap a.reduces) f (get_or kept o.whole None) has (taken ∙ c.in-None.is)

pub returns-clause-truth : goal.returns-clause-truth
returns-clause-truth c =
    let a = c.args in
    let system = a.system.now in
    let f = as_core a.core.now in
    let o = c.in_ok-outline.outline in
    let kept = c.in-Ok.kept.items in
    let n = length o.roots.items in
    let plan : IsPlanned system f o = record { decided = c.requires; laid = c.in_ok-outline.ensures } in
    let far = c.in-Ok.ensures.far in
    let taken : get_or kept o.whole None ≡ c.swap_remove.result =
    get_or_default kept o.whole None c.swap_remove.result (omega (arith, plan.laid.within, far.kept_are.count)) ∙ sym c.swap_remove.ensures.value in
    let has = taken_right a.reduces system f o plan a.cap n kept far refl in
    IsAnswerTo-taken system (recorded_with a.cap a.reduces) f (get_or kept o.whole None) c.in-Some.last has (taken ∙ c.in-Some.is)

pub returns-clause-steps : goal.returns-clause-steps
returns-clause-steps c =
    let a = c.args in
    let system = a.system.now in
    let f = as_core a.core.now in
    let o = c.in_ok-outline.outline in
    let kept = c.in-Ok.kept.items in
    let n = length o.roots.items in
    let plan : IsPlanned system f o = record { decided = c.requires; laid = c.in_ok-outline.ensures } in
    let far = c.in-Ok.ensures.far in
    let taken : get_or kept o.whole None ≡ c.swap_remove.result =
    get_or_default kept o.whole None c.swap_remove.result (omega (arith, plan.laid.within, far.kept_are.count)) ∙ sym c.swap_remove.ensures.value in
    IsTraced-root a.reduces system f o plan a.cap n kept far refl c.decide_parts.new.recorder.list.items c.in-Ok.ensures.recorded.recorded c.in-Some.last (taken ∙ c.in-Some.is)

pub returns-clause-within : goal.returns-clause-within
returns-clause-within c =
    let a = c.args in
    let system = a.system.now in
    let f = as_core a.core.now in
    let o = c.in_ok-outline.outline in
    let kept = c.in-Ok.kept.items in
    let n = length o.roots.items in
    let plan : IsPlanned system f o = record { decided = c.requires; laid = c.in_ok-outline.ensures } in
    let far = c.in-Ok.ensures.far in
    none_over_end a.reduces system f o plan a.cap n kept far refl
