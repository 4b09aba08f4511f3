-- A truth is set in a square table, and the second number pushed to the group of the first.
use Rattle.std.proofs.Common.{◌≡◌, ℕ, ◌+◌, ◌*◌, ◌<◌, ◌↔◌, List, [], ◌∷◌, Bool, true, false, ap, sym, ◌∙◌, subst, arith, length, get_or, inl, inr, ◌⊎◌, nat_eq, eq-eqb}
use Rattle.std.specs.Prelude.{Contains}
use Rattle.std.specs.List.{list_any}
use Rattle.std.proofs.Math.ListN.{set}
use Rattle.std.proofs.lemmas.Bool.{cases_eq}
use Rattle.std.proofs.lemmas.List.{get_or-set_same, get_or-set_other}
use Rattle.std.proofs.lemmas.Nat.{mul-add-lt, same_from_place}
use Rattle.fort_theory.specs.Sides.{pushed_at}
use Rattle.fort_theory.proofs.Members.{Contains-cons_cases, Contains-none}
use Rattle.fort_gtt_closure.specs.declared.groups.Groups.{Groups}
use Rattle.fort_gtt_closure.specs.Groups.{lists, group}
use Rattle.fort_gtt_closure.specs.Marks.{IsSet, AreSources}
use Rattle.fort_gtt_closure.proofs.ElementLaws.{found_by_any}
use Rattle.fort_gtt_closure.proofs.GridLaws.{or_left, or_right}
use Rattle.fort_gtt_closure.proofs.GroupLaws.{count_pushed, group_kept, group_new}

any_by_element : {X : Type 0} (test : X → Bool) (xs : List X) (x : X) → Contains xs x → test x ≡ true → list_any test xs ≡ true
any_by_element test [] x c h = absurd (Contains-none x c)
any_by_element test (y ∷ ys) x c h = elim (Contains-cons_cases y ys x c) [
  | inl e ↦ or_left (test y) (list_any test ys) (ap test e ∙ h)
  | inr there ↦ or_right (test y) (list_any test ys) (any_by_element test ys x there h)
]

module _ (height : ℕ) (cells : List Bool) (p b : ℕ) (sized : length cells ≡ height * height) (low_p : p < height) (low_b : b < height) where
  place : p * height + b < length cells
  place = omega (arith, mul-add-lt p height b height low_p low_b, sized)

  pub through_set : (x y : ℕ) → x < height → y < height → IsSet (set cells (p * height + b) true) (x * height + y) ↔ (IsSet cells (x * height + y) ⊎ ((x ≡ p) × (y ≡ b)))
  through_set x y lx ly = elim (cases_eq (x * height + y) (p * height + b)) [
    | inl e ↦
        let same = same_from_place x y p b height ly low_b e in (
          λ h. inr same,
          λ h. subst (λ k. IsSet (set cells (p * height + b) true) k) (sym e) (get_or-set_same cells (p * height + b) true false place),
        )
    | inr ne ↦
        let kept : get_or (set cells (p * height + b) true) (x * height + y) false ≡ get_or cells (x * height + y) false =
        get_or-set_other cells (p * height + b) (x * height + y) true false ne in (
          λ h. inl (sym kept ∙ h),
          λ h. elim h [
            | inl old ↦ kept ∙ old
            | inr w ↦ absurd (ne (ap (λ k. k * height + y) w.0 ∙ ap (λ k. p * height + k) w.1))
          ],
        )
  ]

  pub AreSources-more : (old new : Groups) → AreSources height cells old → lists new ≡ pushed_at (b + 1) (b, p) (lists old)
      → AreSources height (set cells (p * height + b) true) new
  AreSources-more old new h e = record {
    count_same = count_pushed old new b (b, p) e ∙ h.count_same;
    each = λ x y lx ly is. elim ((through_set x y lx ly).0 is) [
      | inl before ↦
          let test : ℕ × ℕ → Bool = λ pair. nat_eq pair.1 x in
          let w = found_by_any test (group old y) (h.each x y lx ly before) in
          any_by_element test (group new y) w.0 (group_kept old new b (b, p) e y w.0 w.1) w.2
      | inr v ↦
          let test : ℕ × ℕ → Bool = λ pair. nat_eq pair.1 x in
          let here : Contains (group new b) (b, p) = group_new old new b (b, p) e (subst (λ n. b < n) (sym h.count_same) low_b) in
          any_by_element test (group new y) (b, p) (subst (λ k. Contains (group new k) (b, p)) (sym v.1) here) (eq-eqb p x (sym v.0))
    ];
  }
