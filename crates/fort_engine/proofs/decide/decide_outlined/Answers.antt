use Rattle.std.proofs.Common.{◌≡◌, ◌<◌, None, sym, ◌∙◌, subst, arith, length, get_or}
use Rattle.std.proofs.lemmas.List.{get_or_default}
use Rattle.fort_outline.specs.Outlines.{parts_in}
use Rattle.fort_outline.proofs.RootLaws.{length-cores_of}
use Rattle.fort_engine.specs.Kept.{IsKeptOverCap}
use Rattle.fort_engine.proofs.OperandLaws.{none_taken}
use Rattle.fort_engine.proofs.DecideLaws.{HasRightAnswer-root, none_over, IsAnswerTo-taken}
use Rattle.fort_engine.proofs.StateLaws.{HasStatesWithin-taken}
use Rattle.fort_engine.proofs.decide.decide_outlined.Goals as goal

pub unreachable-requires : goal.unreachable-requires
unreachable-requires c =
    let system = c.args.system.now in
    let f = c.requires.0 in
    let planned = c.requires.1 in
    let o = c.args.outline.now in
    let laid = planned.laid in
    let kept = c.in-Ok.kept.items in
    let far = c.in-Ok.ensures.far in
    let end : length o.roots.items ≡ length (parts_in o) = sym (length-cores_of o.roots.items) in
    let before : o.whole < length (parts_in o) = omega (arith, laid.within, end) in
    let has =
    HasRightAnswer-root system c.args.options.now f (parts_in o) laid.parts o.whole o.last_uses.items laid.uses (length o.roots.items) kept far end before laid.whole_is in
    let taken : get_or kept o.whole None ≡ c.swap_remove.result =
    get_or_default kept o.whole None c.swap_remove.result (omega (arith, laid.within, far.kept_are.count)) ∙ sym c.swap_remove.ensures.value in
    none_taken system c.args.options.now f (get_or kept o.whole None) has (taken ∙ c.in-None.is)

pub returns-clause-truth : goal.returns-clause-truth
returns-clause-truth c = λ f planned.
    let system = c.args.system.now in
    let o = c.args.outline.now in
    let laid = planned.laid in
    let kept = c.in-Ok.kept.items in
    let far = c.in-Ok.ensures.far in
    let end : length o.roots.items ≡ length (parts_in o) = sym (length-cores_of o.roots.items) in
    let before : o.whole < length (parts_in o) = omega (arith, laid.within, end) in
    let has =
    HasRightAnswer-root system c.args.options.now f (parts_in o) laid.parts o.whole o.last_uses.items laid.uses (length o.roots.items) kept far end before laid.whole_is in
    let taken : get_or kept o.whole None ≡ c.swap_remove.result =
    get_or_default kept o.whole None c.swap_remove.result (omega (arith, laid.within, far.kept_are.count)) ∙ sym c.swap_remove.ensures.value in
    IsAnswerTo-taken system c.args.options.now f (get_or kept o.whole None) c.in-Some.last has (taken ∙ c.in-Some.is)

pub returns-clause-within : goal.returns-clause-within
returns-clause-within c = λ f planned.
    let system = c.args.system.now in
    let o = c.args.outline.now in
    let laid = planned.laid in
    let kept = c.in-Ok.kept.items in
    let far = c.in-Ok.ensures.far in
    let end : length o.roots.items ≡ length (parts_in o) = sym (length-cores_of o.roots.items) in
    none_over system c.args.options.now f (parts_in o) laid.parts o.whole o.last_uses.items laid.uses (length o.roots.items) kept far end

pub returns-clause-states : goal.returns-clause-states
returns-clause-states c =
    let system = c.args.system.now in
    let f = c.requires.0 in
    let planned = c.requires.1 in
    let o = c.args.outline.now in
    let laid = planned.laid in
    let kept = c.in-Ok.kept.items in
    let far = c.in-Ok.ensures.far in
    let end : length o.roots.items ≡ length (parts_in o) = sym (length-cores_of o.roots.items) in
    let before : o.whole < length (parts_in o) = omega (arith, laid.within, end) in
    let has =
    HasRightAnswer-root system c.args.options.now f (parts_in o) laid.parts o.whole o.last_uses.items laid.uses (length o.roots.items) kept far end before laid.whole_is in
    let taken : get_or kept o.whole None ≡ c.swap_remove.result =
    get_or_default kept o.whole None c.swap_remove.result (omega (arith, laid.within, far.kept_are.count)) ∙ sym c.swap_remove.ensures.value in
    HasStatesWithin-taken system c.args.options.now f (get_or kept o.whole None) c.in-Some.last has (taken ∙ c.in-Some.is)
    (λ over. far.kept_within o.whole (omega (arith, laid.within)) (subst (λ z. IsKeptOverCap system c.args.options.now z) (sym laid.whole_is) over))
