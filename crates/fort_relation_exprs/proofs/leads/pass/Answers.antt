use Rattle.std.proofs.Common.{◌≡◌, ℕ, List, map, get_or, length, ap, ◌∙◌, subst, arith}
use Rattle.std.specs.Prelude.{vec_items}
use Rattle.std.specs.List.{Contains}
use Rattle.std.proofs.lemmas.List.{length-map, get_or_default}
use Rattle.std.proofs.lemmas.List.Elements.{Contains-get_or}
use Rattle.fort_relation_exprs.proofs.LeadRowLaws.{HasPassed-none, HasPassed-more, NameRows-gathered}
use Rattle.fort_relation_exprs.proofs.leads.pass.Goals as goal

pub loop-step-init : goal.loop-step-init
loop-step-init c = HasPassed-none c.args.nta.now (map vec_items c.args.rows.now.items)

pub join-more-requires-clause-from : goal.join-more-requires-clause-from
join-more-requires-clause-from c =
    let silent : List (ℕ × ℕ) = c.as_slice-step-items.result.now in
    let step : ℕ × ℕ = get_or silent c.loop-step.step-index (0, 0) in
    let listed : Contains c.args.nta.now.silent.items step =
    subst (λ (xs : List (ℕ × ℕ)). Contains xs step) c.as_slice-step-items.ensures.value (Contains-get_or silent c.loop-step.step-index (0, 0) c.loop-step-test.true) in
    let here = NameRows-gathered c.args.nta.now c.args.nta.now.silent.items (map vec_items c.args.rows.now.items) (map vec_items c.loop-step.rows.items)
    c.requires.named c.loop-step.invariant.gathered step.0 step.1 listed in
    omega (arith, here.0, length-map c.loop-step.rows.items vec_items)

pub join-more-requires-clause-to : goal.join-more-requires-clause-to
join-more-requires-clause-to c =
    let silent : List (ℕ × ℕ) = c.as_slice-step-items.result.now in
    let step : ℕ × ℕ = get_or silent c.loop-step.step-index (0, 0) in
    let listed : Contains c.args.nta.now.silent.items step =
    subst (λ (xs : List (ℕ × ℕ)). Contains xs step) c.as_slice-step-items.ensures.value (Contains-get_or silent c.loop-step.step-index (0, 0) c.loop-step-test.true) in
    let here = NameRows-gathered c.args.nta.now c.args.nta.now.silent.items (map vec_items c.args.rows.now.items) (map vec_items c.loop-step.rows.items)
    c.requires.named c.loop-step.invariant.gathered step.0 step.1 listed in
    omega (arith, here.1, length-map c.loop-step.rows.items vec_items)

pub loop-step-preserved : goal.loop-step-preserved
loop-step-preserved c =
    let silent : List (ℕ × ℕ) = c.as_slice-step-items.result.now in
    let step : ℕ × ℕ = get_or silent c.loop-step.step-index (0, 0) in
    let at : step ≡ get_or c.args.nta.now.silent.items c.loop-step.step-index step =
    get_or_default silent c.loop-step.step-index (0, 0) step c.loop-step-test.true ∙ ap (λ (xs : List (ℕ × ℕ)). get_or xs c.loop-step.step-index step) c.as_slice-step-items.ensures.value in
    HasPassed-more c.args.nta.now (map vec_items c.args.rows.now.items) c.loop-step.step-index c.loop-step.more c.join-more.result
    (map vec_items c.loop-step.rows.items) (map vec_items c.join-more.new.rows.items) step.0 step.1
    (omega (arith, c.loop-step-test.true, ap length c.as_slice-step-items.ensures.value)) at c.loop-step.invariant c.join-more.ensures
