-- The labels of an entry's children, among wide labels of which there are more and more.
use Rattle.std.proofs.Common.{◌≡◌, ℕ, suc, ◌<◌, List, [], ◌∷◌, ◌++◌, length, get_or, refl, ap, sym, ◌∙◌, arith, length-append}
use Rattle.std.proofs.Math.ListN.{get_or-append}
use Rattle.fort_check_steps.specs.SparseRowsView.{SparseLabels}
use Rattle.fort_check_steps.specs.WideKidsInside.{AreWideKids}
use Rattle.fort_check_steps.specs.declared.state_labels.WideKids.{WideKids}
use Rattle.fort_check_steps.proofs.KidLaws.{kid_labels}

kids_kept : (labels : List (List ℕ)) (label : List ℕ) (qs : List ℕ) → ((j : ℕ) → j < length qs → get_or qs j 0 < length labels) → kid_labels labels qs ≡ kid_labels (labels ++ label ∷ []) qs
kids_kept labels label [] h = refl
kids_kept labels label (q ∷ qs) h =
    let a = sym (get_or-append labels (label ∷ []) [] q (h 0 (omega arith))) in
    let b = kids_kept labels label qs (λ j l. h (suc j) (omega arith)) in
    λ j. a j ∷ b j

-- one label more
pub kids_more : (old new : SparseLabels) (kids : WideKids) (label : List ℕ) → new.labels ≡ old.labels ++ label ∷ [] → new.width ≡ old.width → AreWideKids old kids → AreWideKids new kids
kids_more old new kids label more same h = record {
  label_width = h.label_width ∙ sym same;
  width = h.width ∙ sym same;
  room = h.room;
  noted_room = h.noted_room;
  noted = λ j l. omega (arith, h.noted j l, ap length more, length-append old.labels (label ∷ []));
  labels = h.labels ∙ (kids_kept old.labels label kids.noted.items h.noted ∙ sym (ap (λ ls. kid_labels ls kids.noted.items) more));
}
