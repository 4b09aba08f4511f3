use Rattle.std.proofs.Common.{◌≡◌, List, ◌++◌, ◌∷◌, [], map, sym, ap, ◌∙◌, append_assoc, subst}
use Rattle.std.proofs.lemmas.Result.{on_ok_weaker}
use Rattle.fort_theory.specs.Cores as theory
use Rattle.fort_theory.specs.EachOnce.{AreEachOnce}
use Rattle.fort_theory.specs.Parts.{postorder}
use Rattle.fort_formulas.specs.CoreView.{as_core}
use Rattle.fort_formulas.proofs.CoreShapes.{postorder-one, postorder-two}
use Rattle.fort_formulas.proofs.subformulas.+push_parts.Goals as goal

pub returns-in_ok-push_parts-in-Not : goal.returns-in_ok-push_parts-in-Not
returns-in_ok-push_parts-in-Not t c =
    let arm = c.in-Not in
    let h = as_core c.args.core.now in
    let operand = rw c.as_core-in-Not.ensures at c.in_ok-push_parts-in-Not.ensures in
    let all : (before : List theory.Core) → (before ++ postorder arm.f) ++ h ∷ [] ≡ before ++ postorder h =
    λ before. append_assoc before (postorder arm.f) (h ∷ [])
    ∙ ap (λ fs. before ++ fs) (sym (postorder-one c.args.core.now arm.f arm.is)) in
    on_ok_weaker c.push_new-in-Not.result
    (λ last before once.
    subst (λ fs. AreEachOnce fs (map as_core c.push_new-in-Not.new.found.keys)) (all before)
    (last (before ++ postorder arm.f) (operand before once)))
    c.push_new-in-Not.ensures

pub returns-in_ok-push_parts-in-And-2 : goal.returns-in_ok-push_parts-in-And-2
returns-in_ok-push_parts-in-And-2 t c =
    let arm = c.in-And in
    let h = as_core c.args.core.now in
    let first = rw c.as_core.ensures at c.in_ok-push_parts-in-And.ensures in
    let second = rw c.as_core-in-And.ensures at c.in_ok-push_parts-in-And-2.ensures in
    let all : (before : List theory.Core) → ((before ++ postorder arm.f) ++ postorder arm.g) ++ h ∷ [] ≡ before ++ postorder h =
    λ before. append_assoc (before ++ postorder arm.f) (postorder arm.g) (h ∷ [])
    ∙ (append_assoc before (postorder arm.f) (postorder arm.g ++ h ∷ [])
    ∙ ap (λ fs. before ++ fs) (sym (postorder-two c.args.core.now arm.f arm.g arm.is))) in
    on_ok_weaker c.push_new-in-And.result
    (λ last before once.
    subst (λ fs. AreEachOnce fs (map as_core c.push_new-in-And.new.found.keys)) (all before)
    (last ((before ++ postorder arm.f) ++ postorder arm.g) (second (before ++ postorder arm.f) (first before once))))
    c.push_new-in-And.ensures
