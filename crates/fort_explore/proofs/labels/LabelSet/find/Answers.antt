use Rattle.std.proofs.Common.{◌≡◌, ℕ, List, map, take, ap, sym, ◌∙◌, subst}
use Rattle.fort_explore.specs.LabelsInside.{labels_in, IsStorage, ArePadded}
use Rattle.fort_explore.proofs.LabelSetLaws.{IsFoundIn, found_padded}
use Rattle.fort_explore.proofs.labels.LabelSet.find.Goals as goal

pub returns-in-Short : goal.returns-in-Short
returns-in-Short c =
    let w = c.self.inside.width in
    let wss = c.in-Short.set in
    let label = c.args.label.now in
    let all : map (take w) wss ≡ c.args.self.now = ap (labels_in w) (sym c.in-Short.is) ∙ c.self.view_is in
    let padded : ArePadded w wss = subst (IsStorage w) c.in-Short.is c.self.invariant.storage in
    subst (λ (labels : List (List ℕ)). IsFoundIn labels label c.find.result) all
    (found_padded w wss label c.find.result c.if-label-self.false padded
    (subst (λ (ws : List ℕ). IsFoundIn wss ws c.find.result) c.new.ensures c.find.ensures))
