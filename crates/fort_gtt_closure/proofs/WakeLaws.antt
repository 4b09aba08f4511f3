-- What waits after some of the pairs under a left state were gone through.
use Rattle.std.proofs.Common.{◌≡◌, ℕ, ◌+◌, ◌*◌, ◌<◌, ◌↔◌, List, [], ◌∷◌, true, ap, sym, ◌∙◌, subst, length, get_or, take, inl, inr, ◌⊎◌}
use Rattle.std.specs.Prelude.{Contains}
use Rattle.std.proofs.lemmas.List.{take_more}
use Rattle.std.proofs.lemmas.List.Elements.{Contains-push_cases, Contains-push, Contains-append_left}
use Rattle.fort_theory.proofs.Members.{Contains-none}
use Rattle.fort_gtt_closure.specs.declared.agenda.Agenda.{Agenda}
use Rattle.fort_gtt_closure.specs.declared.entry.Entry.{Entry}
use Rattle.fort_gtt_closure.specs.declared.marks.Shape.{Shape}
use Rattle.fort_gtt_closure.specs.declared.links.Links.{Links}
use Rattle.fort_gtt_closure.specs.Grids.{is_listed}
use Rattle.fort_gtt_closure.specs.Groups.{group}
use Rattle.fort_gtt_closure.specs.Marks.{IsSet, IsMarked, KeepsSet}
use Rattle.fort_gtt_closure.specs.Ready.{LeadsThrough, HasRow, Passed, Wakes}
use Rattle.fort_gtt_closure.proofs.ElementLaws.{each_more}

pub Passed-none : (shape : Shape) (es : List Entry) (p : ℕ) (start : Agenda) → start.shape ≡ shape → Passed shape es p start start []
Passed-none shape es p start same = record {
  shape_same = same;
  kept = λ i h. h;
  through = λ x b lx lb. (λ h. inl h, λ h. elim h [ inl led ↦ led | inr w ↦ absurd (Contains-none {A = ℕ × ℕ} (w.1, b) w.2) ]);
  rows = λ pair there. absurd (Contains-none {A = ℕ × ℕ} pair there);
}

module _ (shape : Shape) (es : List Entry) (p : ℕ) (start mid new : Agenda) (pairs : List (ℕ × ℕ)) (i : ℕ) (lt : i < length pairs) where
  abbrev here : ℕ × ℕ
  here = get_or pairs i (0, 0)

  in-more : (pair : ℕ × ℕ) → Contains (take i pairs) pair → Contains (take (i + 1) pairs) pair
  in-more pair c = subst (λ zs. Contains zs pair) (sym (take_more pairs i (0, 0) lt)) (Contains-append_left (take i pairs) (here ∷ []) pair c)

  in-here : Contains (take (i + 1) pairs) here
  in-here = subst (λ zs. Contains zs here) (sym (take_more pairs i (0, 0) lt)) (Contains-push (take i pairs) here)

  more-cases : (pair : ℕ × ℕ) → Contains (take (i + 1) pairs) pair → Contains (take i pairs) pair ⊎ (here ≡ pair)
  more-cases pair c = Contains-push_cases (take i pairs) here pair (subst (λ zs. Contains zs pair) (take_more pairs i (0, 0) lt) c)

  pub Passed-more : Passed shape es p start mid (take i pairs) → p < shape.height → new.shape ≡ mid.shape → KeepsSet mid.waiting.items new.waiting.items
      → ((x b : ℕ) → x < mid.shape.height → b < mid.shape.height → LeadsThrough new x b ↔ (LeadsThrough mid x b ⊎ ((x ≡ p) × (b ≡ here.1))))
      → (here.1 < mid.shape.height → LeadsThrough mid p here.1 ⊎ ((q : ℕ) → is_listed es here.1 q ≡ true → IsMarked new.shape new.waiting.items p q))
      → Passed shape es p start new (take (i + 1) pairs)
  Passed-more h low same kept through row = record {
    shape_same = shape_new;
    kept = λ k s. kept k (h.kept k s);
    through = λ x b lx lb.
        let now = through x b (lower x lx) (lower b lb) in
        let before = h.through x b lx lb in (
          λ led. elim (now.0 led) [
            | inl old ↦ elim (before.0 old) [ inl first ↦ inl first | inr w ↦ inr (w.0, w.1, in-more (w.1, b) w.2) ]
            | inr w ↦ inr (w.0, here.0, subst (λ z. Contains (take (i + 1) pairs) (here.0, z)) (sym w.1) in-here)
          ],
          λ w. elim w [
            | inl first ↦ now.1 (inl (before.1 (inl first)))
            | inr v ↦ elim (more-cases (v.1, b) v.2) [
              | inl old ↦ now.1 (inl (before.1 (inr (v.0, v.1, old))))
              | inr e ↦ now.1 (inr (v.0, sym (ap (λ (z : ℕ × ℕ). z.1) e)))
            ]
          ],
        );
    rows = each_more (λ (pair : ℕ × ℕ). pair.1 < shape.height → HasRow shape es p start new pair.1) pairs i (0, 0) lt
        (λ pair there lb. later pair.1 (h.rows pair there lb)) last;
  }
    where
      shape_new : new.shape ≡ shape
      shape_new = same ∙ h.shape_same

      lower : (n : ℕ) → n < shape.height → n < mid.shape.height
      lower n l = subst (λ (s : Shape). n < s.height) (sym h.shape_same) l

      later : (b : ℕ) → HasRow shape es p start mid b → HasRow shape es p start new b
      later b (inl led) = inl led
      later b (inr marks) = inr (λ y there lp ly. kept _ (marks y there lp ly))

      last : here.1 < shape.height → HasRow shape es p start new here.1
      last lb = elim (row (lower here.1 lb)) [
        | inl led ↦ elim ((h.through p here.1 low lb).0 led) [
          | inl first ↦ inl first
          | inr w ↦ later here.1 (h.rows (w.1, here.1) w.2 lb)
        ]
        | inr marks ↦ inr (λ y there. subst (λ (s : Shape). IsMarked s new.waiting.items p y) shape_new (marks y there))
      ]

LeadsThrough-same : (a b : Agenda) → b.shape ≡ a.shape → b.through ≡ a.through → (x y : ℕ) → LeadsThrough b x y ↔ LeadsThrough a x y
LeadsThrough-same a b shape through x y =
    let height = ap (λ s. s.height) shape in
    let cells = ap (λ v. v.items) through in (
      λ h. subst (λ n. IsSet a.through.items (x * n + y)) height (subst (λ bs. IsSet bs (x * b.shape.height + y)) cells h),
      λ h. subst (λ n. IsSet b.through.items (x * n + y)) (sym height) (subst (λ bs. IsSet bs (x * a.shape.height + y)) (sym cells) h),
    )

-- what waits by the moves, then by the pairs, then by what leads through p
module _ (links : Links) (es : List Entry) (p q : ℕ) (old first second new : Agenda) where
  pub Wakes-made : p < old.shape.height → first.shape ≡ old.shape → first.through ≡ old.through → KeepsSet old.waiting.items first.waiting.items
      → ((right : ℕ × ℕ) → Contains (group links.right_uses p) right → (left : ℕ × ℕ) → Contains (group links.left_uses q) left → right.0 ≡ left.0
      → IsMarked first.shape first.waiting.items right.1 left.1)
      → ((step : ℕ × ℕ) → Contains (group links.right_silent p) step → IsMarked first.shape first.waiting.items step.1 q)
      → ((step : ℕ × ℕ) → Contains (group links.left_silent q) step → IsMarked first.shape first.waiting.items p step.1)
      → Passed first.shape es p first second (group links.pairs q)
      → new.shape ≡ second.shape → new.through ≡ second.through → KeepsSet second.waiting.items new.waiting.items
      → ((x : ℕ) → x < second.shape.height → p < second.shape.height → LeadsThrough second x p → IsMarked new.shape new.waiting.items x q)
      → Wakes links es p q old new
  Wakes-made low shape through kept met right_silent left_silent passed shape_2 through_2 kept_2 back = record {
    shape = shape_2 ∙ (passed.shape_same ∙ shape);
    kept = λ i h. kept_2 i (passed.kept i (kept i h));
    met = λ right r left l e. from_first right.1 left.1 (met right r left l e);
    right_silent = λ step there. from_first step.1 q (right_silent step there);
    left_silent = λ step there. from_first p step.1 (left_silent step there);
    through = λ x b lx lb.
        let all = passed.through x b (in_first x lx) (in_first b lb) in (
          λ h. elim (all.0 ((LeadsThrough-same second new shape_2 through_2 x b).0 h)) [
            | inl led ↦ inl ((LeadsThrough-same old first shape through x b).0 led)
            | inr w ↦ inr w
          ],
          λ h. (LeadsThrough-same second new shape_2 through_2 x b).1
              (all.1 (elim h [ inl led ↦ inl ((LeadsThrough-same old first shape through x b).1 led) | inr w ↦ inr w ])),
        );
    rows = λ pair there lb. elim (passed.rows pair there (in_first pair.1 lb)) [
      | inl led ↦ inl ((LeadsThrough-same old first shape through p pair.1).0 led)
      | inr marks ↦ inr (λ y listed. from_second p y (subst (λ (s : Shape). IsMarked s second.waiting.items p y) (sym passed.shape_same) (marks y listed)))
    ];
    back = λ x lx h. back x (in_second x lx) (in_second p low) ((LeadsThrough-same second new shape_2 through_2 x p).0 h);
  }
    where
      in_first : (n : ℕ) → n < old.shape.height → n < first.shape.height
      in_first n l = subst (λ (s : Shape). n < s.height) (sym shape) l

      in_second : (n : ℕ) → n < old.shape.height → n < second.shape.height
      in_second n l = subst (λ (s : Shape). n < s.height) (sym (passed.shape_same ∙ shape)) l

      from_second : (x y : ℕ) → IsMarked second.shape second.waiting.items x y → IsMarked new.shape new.waiting.items x y
      from_second x y m = subst (λ (s : Shape). IsMarked s new.waiting.items x y) (sym shape_2) (λ lx ly. kept_2 _ (m lx ly))

      from_first : (x y : ℕ) → IsMarked first.shape first.waiting.items x y → IsMarked new.shape new.waiting.items x y
      from_first x y m =
          from_second x y (subst (λ (s : Shape). IsMarked s second.waiting.items x y) (sym passed.shape_same) (λ lx ly. passed.kept _ (m lx ly)))
