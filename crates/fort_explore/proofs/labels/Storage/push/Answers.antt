use Rattle.std.proofs.Common.{◌≡◌, ℕ, ◌<◌, List, [], ◌∷◌, ◌++◌, map, take, length, get_or, refl, ap, sym, ◌∙◌, subst}
use Rattle.std.proofs.lemmas.Result.{on_ok_weaker}
use Rattle.fort_explore.specs.LabelsInside.{labels_in, IsStorage, ArePadded, AreLabelsIn}
use Rattle.fort_explore.specs.declared.labels.Storage.TheVariants.{Short}
use Rattle.fort_explore.proofs.LabelSetLaws.{padded_absent, labels_pushed, short_after}
use Rattle.fort_explore.proofs.labels.Storage.push.Goals as goal

pub push-requires : goal.push-requires
push-requires c =
    let label = c.args.label.now in
    let w = length label in
    let wss = c.in-Short.set in
    let p : ArePadded w wss = subst (IsStorage w) c.in-Short.is c.requires.fit.storage in
    let none = subst (λ (ls : List (List ℕ)). (q : ℕ) → q < length ls → get_or ls q [] ≡ label → ⊥) (ap (labels_in w) c.in-Short.is) c.requires.absent in
    subst (λ (ws : List ℕ). (q : ℕ) → q < length wss → get_or wss q [] ≡ ws → ⊥) (sym c.new.ensures)
    (padded_absent w wss label refl p.narrow none)

pub returns-in-Short-clause-fit : goal.returns-in-Short-clause-fit
returns-in-Short-clause-fit c =
    let label = c.args.label.now in
    let fit : AreLabelsIn (length label) (Short c.in-Short.set) = subst (AreLabelsIn (length label)) c.in-Short.is c.requires.fit in
    short_after c.push.result c.in-Short.set c.push.new.self label _ c.new.ensures fit c.push.ensures.ok c.push.ensures.err

pub returns-in-Short-clause-ok : goal.returns-in-Short-clause-ok
returns-in-Short-clause-ok c =
    let label = c.args.label.now in
    let w = length label in
    let wss = c.in-Short.set in
    let p : ArePadded w wss = subst (IsStorage w) c.in-Short.is c.requires.fit.storage in
    on_ok_weaker c.push.result (λ (e : c.push.new.self ≡ wss ++ _ ∷ []). ap (map (take w)) e
    ∙ (ap (λ (ws : List ℕ). map (take w) (wss ++ ws ∷ [])) c.new.ensures
    ∙ (labels_pushed w wss label refl p.narrow ∙ ap (λ (ls : List (List ℕ)). ls ++ label ∷ []) (ap (labels_in w) (sym c.in-Short.is))))) c.push.ensures.ok
