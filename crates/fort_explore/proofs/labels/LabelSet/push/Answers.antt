use Rattle.std.proofs.Common.{◌≡◌, ℕ, List, [], ◌∷◌, ◌++◌, length, OnOk, OnErr, refl, ap, sym, ◌∙◌, subst}
use Rattle.fort_explore.specs.LabelsInside.{labels_in, AreOfWidth}
use Rattle.fort_explore.specs.declared.labels.LabelSet.TheInside.{Inside}
use Rattle.fort_explore.proofs.LabelSetLaws.{no_labels, IsReadyFor}
use Rattle.fort_explore.proofs.labels.LabelSet.push.Goals as goal
use Rattle.fort_explore.proofs.labels.LabelSet.push.Goals.{then-label-self+in-Short-1, then-label-self+in-Long-1, else-label-self}

pub returns-clause-ok : goal.returns-clause-ok
returns-clause-ok c =
    let label = c.args.label.now in
    let n = length label in
    let old = c.args.self.now in
    let a = c.self.inside in
    let of_width : AreOfWidth a.width old = subst (AreOfWidth a.width) c.self.view_is c.self.invariant.widths in
    let F : Inside → Type 0 = λ i. IsReadyFor n old i.width i.storage in
    let j : F c.if-label-self.self-inside = elim c.if-label-self.branch [
      | then-label-self+in-Short-1 w ↦ subst F (sym w.self-inside-is) (record { width_is = refl; labels = w.new.ensures.none ∙ sym (no_labels a.width n old of_width c.requires.width w.if-label-self.true) })
      | then-label-self+in-Long-1 w ↦ subst F (sym w.self-inside-is) (record { width_is = refl; labels = w.new.ensures.none ∙ sym (no_labels a.width n old of_width c.requires.width w.if-label-self.true) })
      | else-label-self w ↦ subst F (sym w.self-inside-is) (record { width_is = sym w.if-label-self.false; labels = ap (λ k. labels_in k a.storage) w.if-label-self.false ∙ c.self.view_is })
    ] in
    subst (λ (k : ℕ). OnOk c.push.result (labels_in k c.push.new.self ≡ old ++ label ∷ [])) (sym j.width_is)
    (subst (λ (ls : List (List ℕ)). OnOk c.push.result (labels_in n c.push.new.self ≡ ls ++ label ∷ [])) j.labels c.push.ensures.ok)

pub returns-clause-err : goal.returns-clause-err
returns-clause-err c =
    let label = c.args.label.now in
    let n = length label in
    let old = c.args.self.now in
    let a = c.self.inside in
    let of_width : AreOfWidth a.width old = subst (AreOfWidth a.width) c.self.view_is c.self.invariant.widths in
    let F : Inside → Type 0 = λ i. IsReadyFor n old i.width i.storage in
    let j : F c.if-label-self.self-inside = elim c.if-label-self.branch [
      | then-label-self+in-Short-1 w ↦ subst F (sym w.self-inside-is) (record { width_is = refl; labels = w.new.ensures.none ∙ sym (no_labels a.width n old of_width c.requires.width w.if-label-self.true) })
      | then-label-self+in-Long-1 w ↦ subst F (sym w.self-inside-is) (record { width_is = refl; labels = w.new.ensures.none ∙ sym (no_labels a.width n old of_width c.requires.width w.if-label-self.true) })
      | else-label-self w ↦ subst F (sym w.self-inside-is) (record { width_is = sym w.if-label-self.false; labels = ap (λ k. labels_in k a.storage) w.if-label-self.false ∙ c.self.view_is })
    ] in
    subst (λ (k : ℕ). OnErr c.push.result (labels_in k c.push.new.self ≡ old)) (sym j.width_is)
    (subst (λ (ls : List (List ℕ)). OnErr c.push.result (labels_in n c.push.new.self ≡ ls)) j.labels c.push.ensures.err)
