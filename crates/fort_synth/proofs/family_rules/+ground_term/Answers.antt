use Rattle.std.proofs.Common.{◌≡◌, ◌∙◌, ap, arith, map, subst, sym, take, Some}
use Rattle.std.proofs.lemmas.List.{take_all}
use Rattle.fort_terms.specs.PatternView.{as_pattern, node_count}
use Rattle.fort_synth.specs.FamilyLists.{ground_term}
use Rattle.fort_synth.proofs.FamilySteps.{argument_falls, no_ground_term, whole_ground_term}
use Rattle.fort_synth.proofs.family_rules.+ground_term.Goals as goal

pub ground_term-requires : goal.ground_term-requires
ground_term-requires t c =
    let falls = argument_falls c.in-App.sym.0 c.in-App.args c.as_slice-arg-items.result.now c.loop-arg.arg-index c.arg-item.result
    c.as_slice-arg-items.ensures c.loop-arg-test.true c.arg-item.is in
    let whole = ap (λ q. node_count (as_pattern q)) c.in-App.is in
    (omega (arith, c.decreases, falls, whole), tt)

pub returns-in-None : goal.returns-in-None
returns-in-None t c =
    no_ground_term c.in-App.sym.0 c.in-App.args c.as_slice-arg-items.result.now c.loop-arg.arg-index c.arg-item.result
    c.as_slice-arg-items.ensures c.loop-arg-test.true c.arg-item.is (sym c.in-None.is ∙ c.in_ok-kid-in-App.ensures)
    ∙ ap (λ q. ground_term (as_pattern q)) (sym c.in-App.is)

pub returns-after-loop-arg : goal.returns-after-loop-arg
returns-after-loop-arg t c =
    let all : take c.loop-arg.arg-index c.as_slice-arg-items.result.now ≡ c.as_slice-arg-items.result.now = take_all _ _ c.loop-arg-test.false in
    whole_ground_term c.in-App.sym.0 c.in-App.args c.as_slice-arg-items.result.now c.loop-arg.kids.items c.as_slice-arg-items.ensures
    (subst (λ ps. map (λ p. ground_term (as_pattern p)) ps ≡ map (λ t. Some t) c.loop-arg.kids.items) all c.loop-arg.invariant)
    ∙ ap (λ q. ground_term (as_pattern q)) (sym c.in-App.is)
