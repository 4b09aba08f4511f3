-- Passes make one list of pairs, which is right.
use Rattle.std.proofs.Common.{◌≡◌, ◌⊎◌, ℕ, zero, suc, ◌/◌, ◌%◌, ◌<◌, ◌≤◌, List, [], ◌∷◌, ◌++◌, length, take, get_or, Option, None, Some, refl, ap, sym, ◌∙◌, arith, subst, inl, inr, ⊎_elim}
use Rattle.std.specs.Prelude.{Contains}
use Rattle.std.proofs.lemmas.Bool.{cases_lt, cases_eq}
use Rattle.std.proofs.lemmas.Nat.{div-mul-add, mod-mul-add}
use Rattle.std.proofs.lemmas.List.{take_all}
use Rattle.std.proofs.Math.Seq.{take-suc}
use Rattle.fort_theory.specs.Patterns.{Pattern, Any}
use Rattle.fort_theory.proofs.Members.{Contains-head, Contains-behind, Contains-cons_cases, Contains-none}
use Rattle.fort_alike.specs.ListedClosures as closures
use Rattle.fort_alike.specs.ListedClosures.{Why, Pair as Item}
use Rattle.fort_certificate_theory.specs.Outcomes.{Fine}
use Rattle.fort_certificate_theory.specs.ClosureSteps.{ClosureRules, numbers_of, Follows, AnyRight, AnyLeft, ByArguments, ByRule, IsRuleBelow, number, IsClosureOutcome, IsRight}
use Rattle.fort_certificate_theory.specs.Passes.{rank, IsFirstReason, last_number, IsPassed, IsNextItem, IsListOfPasses}

-- of two numbers one comes first
passed_one : (last : Option ℕ) (m n : ℕ) → (m ≡ n → ⊥) → IsPassed last m n ⊎ IsPassed last n m
passed_one None m n other = ⊎_elim (λ (l : m < n). inr l) (λ l. inl (omega arith)) (cases_lt m n)
passed_one (Some last) m n other =
    ⊎_elim
    (λ (a : last < m). ⊎_elim
    (λ (b : last < n). ⊎_elim (λ (l : m < n). inr (inl (a, l))) (λ l. inl (inl (b, omega arith))) (cases_lt m n))
    (λ b. inr (inr (omega arith, inl a)))
    (cases_lt last n))
    (λ a. ⊎_elim
    (λ (b : last < n). inl (inr (omega arith, inl b)))
    (λ b. ⊎_elim (λ (l : m < n). inr (inr (omega arith, inr l))) (λ l. inl (inr (omega arith, inr (omega arith)))) (cases_lt m n))
    (cases_lt last n))
    (cases_lt last m)

rank_one : (v w : Why) → rank v ≡ rank w → v ≡ w
rank_one closures.Any closures.Any h = refl
rank_one closures.Any closures.Kids h = absurd (omega arith)
rank_one closures.Any (closures.Rule k) h = absurd (omega arith)
rank_one closures.Kids closures.Any h = absurd (omega arith)
rank_one closures.Kids closures.Kids h = refl
rank_one closures.Kids (closures.Rule k) h = absurd (omega arith)
rank_one (closures.Rule k) closures.Any h = absurd (omega arith)
rank_one (closures.Rule k) closures.Kids h = absurd (omega arith)
rank_one (closures.Rule k) (closures.Rule j) h = let e : k ≡ j = omega arith in ap closures.Rule e

module _ (c : ClosureRules) where
  first_one : (items : List Item) (p q : ℕ) (v w : Why) → IsFirstReason c items p q v → IsFirstReason c items p q w → v ≡ w
  first_one items p q v w h k = rank_one v w (omega (arith, h.first w k.follows, k.first v h.follows))

  next_one : (items : List Item) (d e : Item) → IsNextItem c items d → IsNextItem c items e → d ≡ e
  next_one items d e h k =
      let same : number c d.p d.q ≡ number c e.p e.q =
      ⊎_elim (λ s. s)
      (λ other. absurd (⊎_elim (λ f. h.nearest e.p e.q k.due f) (λ f. k.nearest d.p d.q h.due f) (passed_one (last_number c items) (number c d.p d.q) (number c e.p e.q) other)))
      (cases_eq (number c d.p d.q) (number c e.p e.q)) in
      let nl = length c.lefts in
      let p : d.p ≡ e.p = sym (div-mul-add d.p nl d.q h.due.left) ∙ (ap (λ i. i / nl) same ∙ div-mul-add e.p nl e.q k.due.left) in
      let q : d.q ≡ e.q = sym (mod-mul-add d.p nl d.q h.due.left) ∙ (ap (λ i. i % nl) same ∙ mod-mul-add e.p nl e.q k.due.left) in
      let first : IsFirstReason c items e.p e.q d.why = subst (λ (i : ℕ). IsFirstReason c items i e.q d.why) p (subst (λ (i : ℕ). IsFirstReason c items d.p i d.why) q h.reason) in
      let why : d.why ≡ e.why = first_one items e.p e.q d.why e.why first k.reason in
      λ i. record { p = p i; q = q i; why = why i }

  no_item : Item
  no_item = record { p = 0; q = 0; why = closures.Any }

  passes_to : (items others : List Item) → IsListOfPasses c items → IsListOfPasses c others → (n : ℕ) → n ≤ length items → n ≤ length others → take n items ≡ take n others
  passes_to items others h k zero l m = refl
  passes_to items others h k (suc n) l m =
      let e = passes_to items others h k n (omega arith) (omega arith) in
      let a = h.each n no_item (omega arith) in
      let b = subst (λ (xs : List Item). IsNextItem c xs (get_or others n no_item)) (sym e) (k.each n no_item (omega arith)) in
      let at = next_one (take n items) (get_or items n no_item) (get_or others n no_item) a b in
      take-suc items n no_item (omega arith) ∙ (ap (λ xs. xs ++ get_or items n no_item ∷ []) e ∙ (ap (λ x. take n others ++ x ∷ []) at ∙ sym (take-suc others n no_item (omega arith))))

  no_more : (items others : List Item) → IsListOfPasses c items → IsListOfPasses c others → length items < length others → ⊥
  no_more items others h k l =
      let n = length items in
      let e : items ≡ take n others = sym (take_all n items (omega arith)) ∙ passes_to items others h k n (omega arith) (omega arith) in
      let b = subst (λ (xs : List Item). IsNextItem c xs (get_or others n no_item)) (sym e) (k.each n no_item l) in
      h.done (get_or others n no_item).p (get_or others n no_item).q b.due

  -- Result
  pub passes_one : (items others : List Item) → IsListOfPasses c items → IsListOfPasses c others → items ≡ others
  passes_one items others h k =
      let n = length items in
      let count : n ≡ length others =
      ⊎_elim (λ (l : n < length others). absurd (no_more items others h k l))
      (λ l. ⊎_elim (λ (m : length others < n). absurd (no_more others items k h m)) (λ m. omega arith) (cases_lt (length others) n))
      (cases_lt n (length others)) in
      sym (take_all n items (omega arith)) ∙ (passes_to items others h k n (omega arith) (omega arith) ∙ take_all n others (omega arith))

  rule_below : (items : List Item) (why : Why) (x y : Pattern) → Follows c items why x y → IsRuleBelow (length c.pairs) why
  rule_below items why x y AnyRight = tt
  rule_below items why x y AnyLeft = tt
  rule_below items why x y (ByArguments h) = tt
  rule_below items why x y (ByRule pair l e a b) = l

  pair_listed : (xs : List (ℕ × ℕ)) (p q : ℕ) → Contains xs (p, q) ⊎ (Contains xs (p, q) → ⊥)
  pair_listed [] p q = inr (Contains-none (p, q))
  pair_listed (x ∷ xs) p q =
      ⊎_elim (λ h. inl (Contains-behind x xs (p, q) h))
      (λ other. ⊎_elim
      (λ (a : x.0 ≡ p). ⊎_elim
      (λ (b : x.1 ≡ q). inl (subst (Contains (x ∷ xs)) (λ i. (a i, b i)) (Contains-head x xs)))
      (λ (b : x.1 ≡ q → ⊥). inr (λ h. ⊎_elim (λ e. b (ap (λ (z : ℕ × ℕ). z.1) e)) other (Contains-cons_cases x xs (p, q) h)))
      (cases_eq x.1 q))
      (λ (a : x.0 ≡ p → ⊥). inr (λ h. ⊎_elim (λ e. a (ap (λ (z : ℕ × ℕ). z.0) e)) other (Contains-cons_cases x xs (p, q) h)))
      (cases_eq x.0 p))
      (pair_listed xs p q)

  -- Result: what passes list is right
  pub IsClosureOutcome-passes : (items : List Item) → IsListOfPasses c items → IsClosureOutcome c items Fine
  IsClosureOutcome-passes items h =
      IsRight (record {
        count = omega arith;
        within = λ i d l.
            let e = h.each i d l in
            record {
              right = e.due.right;
              left = e.due.left;
              rule = rule_below (take i items) (get_or items i d).why (get_or c.rights (get_or items i d).p Any) (get_or c.lefts (get_or items i d).q Any) e.reason.follows;
            };
        founded = λ i d l. (h.each i d l).reason.follows;
      })
      (λ p q l m f. ⊎_elim (λ is. is) (λ other. absurd (h.done p q (record { right = l; left = m; unlisted = other; follows = f }))) (pair_listed (numbers_of items) p q))
