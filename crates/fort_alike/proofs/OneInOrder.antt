-- Two lists of the same members, each in order, are one: numbers that ascend, patterns in their order.
use Rattle.std.proofs.Common.{◌≡◌, ℕ, suc, ◌<◌, ◌⊎◌, List, [], ◌∷◌, length, get_or, refl, ap, sym, ◌∙◌, arith, subst, inl, inr, ⊎_elim}
use Rattle.std.specs.Prelude.{◌↔◌, Contains}
use Rattle.std.proofs.lemmas.List.{get_or_default}
use Rattle.fort_theory.specs.Patterns.{Pattern, Patterns, Any, At, NoPattern, MorePatterns}
use Rattle.fort_theory.specs.PatternOrder.{PatternBefore, PatternsBefore, AreSubpatternsInOrder}
use Rattle.fort_theory.proofs.Members.{Contains-head, Contains-behind, Contains-cons_cases, Contains-none}

module _ {A : Type 0} (Before : A → A → Type 0) (d : A) (asymmetric : (x y : A) → Before x y → Before y x → ⊥) where
  abbrev AreOrdered : List A → Type 0
  AreOrdered xs = (i j : ℕ) → i < j → j < length xs → Before (get_or xs i d) (get_or xs j d)

  rest_ordered : (x : A) (xs : List A) → AreOrdered (x ∷ xs) → AreOrdered xs
  rest_ordered x xs h i j l m = h (suc i) (suc j) (omega arith) (omega arith)

  first_before : (x : A) (xs : List A) (y : A) → AreOrdered (x ∷ xs) → Contains xs y → Before x y
  first_before x xs y h c = subst (Before x) (get_or_default xs c.0 d y c.1 ∙ c.2) (h 0 (suc c.0) (omega arith) (omega (arith, c.1)))

  pub ordered_same : (xs ys : List A) → AreOrdered xs → AreOrdered ys → ((z : A) → Contains xs z ↔ Contains ys z) → xs ≡ ys
  ordered_same [] [] a b same = refl
  ordered_same [] (y ∷ ys) a b same = absurd (Contains-none y ((same y).1 (Contains-head y ys)))
  ordered_same (x ∷ xs) [] a b same = absurd (Contains-none x ((same x).0 (Contains-head x xs)))
  ordered_same (x ∷ xs) (y ∷ ys) a b same =
      let heads = one_head (Contains-cons_cases y ys x ((same x).0 (Contains-head x xs))) (Contains-cons_cases x xs y ((same y).1 (Contains-head y ys))) in
      let tails = ordered_same xs ys (rest_ordered x xs a) (rest_ordered y ys b) (λ z. (
        (λ h. not_first y ys z (Contains-cons_cases y ys z ((same z).0 (Contains-behind x xs z h))) (λ e. itself x (first_before x xs x a (subst (Contains xs) (sym e ∙ sym heads) h)))),
        (λ h. not_first x xs z (Contains-cons_cases x xs z ((same z).1 (Contains-behind y ys z h))) (λ e. itself y (first_before y ys y b (subst (Contains ys) (sym e ∙ heads) h)))),
      )) in
      ap (λ w. w ∷ xs) heads ∙ ap (λ ws. y ∷ ws) tails
    where
      itself : (z : A) → Before z z → ⊥
      itself z h = asymmetric z z h h

      one_head : (y ≡ x) ⊎ Contains ys x → (x ≡ y) ⊎ Contains xs y → x ≡ y
      one_head (inl e) other = sym e
      one_head (inr h) (inl e) = e
      one_head (inr h) (inr k) = absurd (asymmetric x y (first_before x xs y a k) (first_before y ys x b h))

      not_first : (w : A) (ws : List A) (z : A) → (w ≡ z) ⊎ Contains ws z → (w ≡ z → ⊥) → Contains ws z
      not_first w ws z (inl e) other = absurd (other e)
      not_first w ws z (inr h) other = h

pub ascending_same : (xs ys : List ℕ) → ((i j : ℕ) → i < j → j < length xs → get_or xs i 0 < get_or xs j 0)
    → ((i j : ℕ) → i < j → j < length ys → get_or ys i 0 < get_or ys j 0) → ((z : ℕ) → Contains xs z ↔ Contains ys z) → xs ≡ ys
ascending_same xs ys a b same = ordered_same (λ x y. x < y) 0 (λ x y l m. omega arith) xs ys a b same

mutual
  pub before_asymmetric : (p q : Pattern) → PatternBefore p q → PatternBefore q p → ⊥
  before_asymmetric Any Any h k = h
  before_asymmetric Any (At g qs) h k = k
  before_asymmetric (At f ps) Any h k = h
  before_asymmetric (At f ps) (At g qs) h k =
      ⊎_elim
      (λ (l : f < g). ⊎_elim (λ (m : g < f). omega arith) (λ m. let e = m.0 in omega arith) k)
      (λ s. let e = s.0 in ⊎_elim (λ (m : g < f). omega arith) (λ m. patterns_asymmetric ps qs s.1 m.1) k)
      h

  patterns_asymmetric : (ps qs : Patterns) → PatternsBefore ps qs → PatternsBefore qs ps → ⊥
  patterns_asymmetric NoPattern NoPattern h k = h
  patterns_asymmetric NoPattern (MorePatterns q qs) h k = k
  patterns_asymmetric (MorePatterns p ps) NoPattern h k = h
  patterns_asymmetric (MorePatterns p ps) (MorePatterns q qs) h k =
      ⊎_elim
      (λ l. ⊎_elim (λ m. before_asymmetric p q l m) (λ m. let z = subst (PatternBefore p) m.0 l in before_asymmetric p p z z) k)
      (λ s. ⊎_elim (λ m. let z = subst (λ (x : Pattern). PatternBefore x p) (sym s.0) m in before_asymmetric p p z z) (λ m. patterns_asymmetric ps qs s.1 m.1) k)
      h

pub subpatterns_one : (tops xs ys : List Pattern) → AreSubpatternsInOrder tops xs → AreSubpatternsInOrder tops ys → xs ≡ ys
subpatterns_one tops xs ys a b =
    ordered_same PatternBefore Any before_asymmetric xs ys a.ordered b.ordered (λ p. ((λ h. (b.same p).1 ((a.same p).0 h)), (λ h. (a.same p).1 ((b.same p).0 h))))
