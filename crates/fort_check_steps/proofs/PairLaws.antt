-- Pairs by numbers follow exactly where the pairs of their patterns do.
use Rattle.std.specs.Prelude.{◌≡◌, ℕ, ◌<◌, List, [], ◌∷◌, length, get_or, None, Some, nat_lt, Bool, true, false, Decides, ◌&&◌, ◌||◌, ◌==◌, refl}
use Rattle.std.specs.List.{list_any}
use Rattle.std.proofs.Common.{sym, ap, subst, ◌∙◌, arith, ⊎_elim}
use Rattle.std.proofs.lemmas.Bool.{cases_lt}
use Rattle.std.proofs.lemmas.Bool.Decides.{Decides-eqb, Decides-ltb, Decides-like}
use Rattle.std.proofs.lemmas.List.{length-map, get_or-map, get_or_default}
use Rattle.std.proofs.lemmas.List.Folds.{Any-from_list_any, list_any_at}
use Rattle.fort_theory.specs.Patterns.{Pattern, Patterns, Any, At, NoPattern, MorePatterns, Pair}
use Rattle.fort_theory.specs.PatternOrder.{PatternBefore, AreSubpatternsInOrder}
use Rattle.fort_alike.specs.PatternNumbers.{PatternNumber, AreAt, IsNumberOf}
use Rattle.fort_alike.proofs.Bits.{Decides-true, Decides-false, Decides-and_then}
use Rattle.fort_alike.specs.ListedClosures as closures
use Rattle.fort_alike.specs.ListedClosures.{Why, Pair as Item}
use Rattle.fort_certificate_theory.specs.ClosureSteps.{ClosureRules, IsPatternAt, IsListed, AreListed, AllListed, Follows, AnyRight, AnyLeft, ByArguments, ByRule, FollowsBy, FollowsAt}
use Rattle.fort_alike.proofs.OneInOrder.{before_asymmetric}
use Rattle.fort_label_bits.specs.declared.rule_places.RulePlaces.{RulePlaces}
use Rattle.fort_label_bits.specs.RulePlaces.{pair_at, no_rule}
use Rattle.fort_check_steps.specs.declared.pairs.PairRules.{PairRules}
use Rattle.fort_check_steps.specs.PairTests.{all_pairs, by_any, by_kids, by_rule, by_reason, follows}
use Rattle.fort_check_steps.specs.PairSteps.{IsPairRules}

-- a pattern has one place
one_place : (tops ps : List Pattern) → AreSubpatternsInOrder tops ps → (i j : ℕ) (x : Pattern) → IsPatternAt ps i x → IsPatternAt ps j x → i ≡ j
one_place tops ps order i j x a b =
    ⊎_elim
    (λ (n : i < j). absurd (itself (subst (λ (z : Pattern). PatternBefore z x) a.1 (subst (PatternBefore (get_or ps i Any)) b.1 (order.ordered i j n b.0)))))
    (λ n. ⊎_elim
    (λ (o : j < i). absurd (itself (subst (λ (z : Pattern). PatternBefore z x) b.1 (subst (PatternBefore (get_or ps j Any)) a.1 (order.ordered j i o a.0)))))
    (λ o. omega arith)
    (cases_lt j i))
    (cases_lt i j)
  where
    itself : PatternBefore x x → ⊥
    itself h = before_asymmetric x x h h

module _ (c : ClosureRules) (r : PairRules) (rules : IsPairRules c r) (items : List Item) (has : ℕ → ℕ → Bool)
    (tells : (p q : ℕ) → p < length c.rights → q < length c.lefts → Decides (has p q) (IsListed items p q)) where
  -- what each reason says of two patterns
  abbrev Says : Why → Pattern → Pattern → Type 0
  Says closures.Any Any y = Unit {0}
  Says closures.Any (At f xs) Any = Unit {0}
  Says closures.Any (At f xs) (At g ys) = ⊥
  Says closures.Kids Any y = ⊥
  Says closures.Kids (At f xs) Any = ⊥
  Says closures.Kids (At f xs) (At g ys) = (f ≡ g) × AllListed c items xs ys
  Says (closures.Rule k) x y =
      (pair : Pair) × (k < length c.pairs) × (get_or c.pairs k pair ≡ pair) × AreListed c items x pair.0 × AreListed c items pair.1 y

  any_left : (x : Pattern) → Says closures.Any x Any
  any_left Any = tt
  any_left (At f xs) = tt

  says : (why : Why) (x y : Pattern) → Follows c items why x y → Says why x y
  says why x y AnyRight = tt
  says why x y AnyLeft = any_left x
  says why x y (ByArguments h) = (refl, h)
  says why x y (ByRule pair l e a b) = (pair, l, e, a, b)

  by_arguments : (f g : ℕ) (xs ys : Patterns) → f ≡ g → AllListed c items xs ys → Follows c items closures.Kids (At f xs) (At g ys)
  by_arguments f g xs ys e h = subst (λ (z : ℕ). Follows c items closures.Kids (At f xs) (At z ys)) e (ByArguments h)

  from_says : (why : Why) (x y : Pattern) → Says why x y → Follows c items why x y
  from_says closures.Any Any y s = AnyRight
  from_says closures.Any (At f xs) Any s = AnyLeft
  from_says closures.Any (At f xs) (At g ys) s = absurd s
  from_says closures.Kids Any y s = absurd s
  from_says closures.Kids (At f xs) Any s = absurd s
  from_says closures.Kids (At f xs) (At g ys) s = by_arguments f g xs ys s.0 s.1
  from_says (closures.Rule k) x y s = ByRule s.0 s.1 s.2 s.3 s.4

  Decides-listed : (p q : ℕ) (x y : Pattern) → IsPatternAt c.rights p x → IsPatternAt c.lefts q y → Decides (has p q) (AreListed c items x y)
  Decides-listed p q x y a b = Decides-like (has p q)
      (λ h. record { p = p; q = q; right = a; left = b; listed = h })
      (λ l. subst (λ (i : ℕ). IsListed items i q) (one_place _ c.rights rules.patterns.right l.p p x l.right a)
      (subst (λ (j : ℕ). IsListed items l.p j) (one_place _ c.lefts rules.patterns.left l.q q y l.left b) l.listed))
      (tells p q a.0 b.0)

  Decides-all : (ps qs : List ℕ) (xs ys : Patterns) → AreAt c.rights ps xs → AreAt c.lefts qs ys → Decides (all_pairs has ps qs) (AllListed c items xs ys)
  Decides-all [] qs (MorePatterns x xs) ys a b = absurd a
  Decides-all (p ∷ ps) qs NoPattern ys a b = absurd a
  Decides-all [] [] NoPattern (MorePatterns y ys) a b = absurd b
  Decides-all [] (q ∷ qs) NoPattern NoPattern a b = absurd b
  Decides-all (p ∷ ps) [] (MorePatterns x xs) (MorePatterns y ys) a b = absurd b
  Decides-all (p ∷ ps) (q ∷ qs) (MorePatterns x xs) NoPattern a b = absurd b
  Decides-all [] [] NoPattern NoPattern a b = Decides-true tt
  Decides-all [] (q ∷ qs) NoPattern (MorePatterns y ys) a b = Decides-false (λ h. h)
  Decides-all (p ∷ ps) [] (MorePatterns x xs) NoPattern a b = Decides-false (λ h. h)
  Decides-all (p ∷ ps) (q ∷ qs) (MorePatterns x xs) (MorePatterns y ys) a b =
      Decides-and_then (has p q) (all_pairs has ps qs) (Decides-listed p q x y (a.0, a.1) (b.0, b.1)) (λ h. Decides-all ps qs xs ys a.2 b.2)

  Decides-any : (w v : PatternNumber) (x y : Pattern) → IsNumberOf c.rights w x → IsNumberOf c.lefts v y → Decides (by_any w v) (Says closures.Any x y)
  Decides-any None v Any y a b = Decides-true tt
  Decides-any None v (At f xs) y a b = absurd a
  Decides-any (Some w) v Any y a b = absurd a
  Decides-any (Some w) None (At f xs) Any a b = Decides-true tt
  Decides-any (Some w) None (At f xs) (At g ys) a b = absurd b
  Decides-any (Some w) (Some v) (At f xs) Any a b = absurd b
  Decides-any (Some w) (Some v) (At f xs) (At g ys) a b = Decides-false (λ h. h)

  Decides-kids : (w v : PatternNumber) (x y : Pattern) → IsNumberOf c.rights w x → IsNumberOf c.lefts v y → Decides (by_kids has w v) (Says closures.Kids x y)
  Decides-kids None v Any y a b = Decides-false (λ h. h)
  Decides-kids None v (At f xs) y a b = absurd a
  Decides-kids (Some w) v Any y a b = absurd a
  Decides-kids (Some w) None (At f xs) Any a b = Decides-false (λ h. h)
  Decides-kids (Some w) None (At f xs) (At g ys) a b = absurd b
  Decides-kids (Some w) (Some v) (At f xs) Any a b = absurd b
  Decides-kids (Some w) (Some v) (At f xs) (At g ys) a b =
      Decides-and_then (w.0 == v.0) (all_pairs has w.1 v.1)
      (Decides-like (w.0 == v.0) (λ e. sym a.0 ∙ (e ∙ b.0)) (λ e. a.0 ∙ (e ∙ sym b.0)) (Decides-eqb w.0 v.0))
      (λ e. Decides-all w.1 v.1 xs ys a.1 b.1)

  -- a rule by its numbers
  record IsRuleAt (k : ℕ) (rule : RulePlaces) : Type 0 where
    pair : Pair
    within : k < length c.pairs
    is : get_or c.pairs k pair ≡ pair
    left : IsPatternAt c.lefts rule.left pair.0
    right : IsPatternAt c.rights rule.right pair.1

  rule_count : length r.rules.items ≡ length c.pairs
  rule_count = sym (length-map r.rules.items (pair_at c.lefts c.rights)) ∙ ap length rules.rules.pairs_are

  rule_at : (k : ℕ) → k < length r.rules.items → IsRuleAt k (get_or r.rules.items k no_rule)
  rule_at k l =
      let rule = get_or r.rules.items k no_rule in
      let within = rules.rules.within rule (k, l, sym (get_or_default r.rules.items k no_rule rule l)) in
      record {
        pair = pair_at c.lefts c.rights rule;
        within = omega (arith, rule_count);
        is = ap (λ (ps : List Pair). get_or ps k (pair_at c.lefts c.rights rule)) (sym rules.rules.pairs_are)
            ∙ get_or-map (pair_at c.lefts c.rights) r.rules.items k no_rule (pair_at c.lefts c.rights rule) l;
        left = (within.0, refl);
        right = (within.1, refl);
      }

  Decides-rule : (k p q : ℕ) (x y : Pattern) → IsPatternAt c.rights p x → IsPatternAt c.lefts q y → k < length r.rules.items
      → Decides (by_rule has p q (get_or r.rules.items k no_rule)) (Says (closures.Rule k) x y)
  Decides-rule k p q x y a b l =
      let rule = get_or r.rules.items k no_rule in
      let at = rule_at k l in
      Decides-like (by_rule has p q rule)
      (λ h. (at.pair, at.within, at.is, h.0, h.1))
      (λ s. let same : s.0 ≡ at.pair = sym s.2 ∙ (get_or_default c.pairs k s.0 at.pair s.1 ∙ at.is) in
      subst (λ (z : Pair). AreListed c items x z.0 × AreListed c items z.1 y) same (s.3, s.4))
      (Decides-and_then (has p rule.left) (has rule.right q) (Decides-listed p rule.left x at.pair.0 a at.left) (λ h. Decides-listed rule.right q at.pair.1 y at.right b))

  -- a pair of numbers by a reason
  Decides-says : (p q : ℕ) → p < length c.rights → q < length c.lefts → (why : Why)
      → Decides (by_reason has (get_or r.rights.items p None) (get_or r.lefts.items q None) r.rules.items p q why) (Says why (get_or c.rights p Any) (get_or c.lefts q Any))
  Decides-says p q l m closures.Any = Decides-any (get_or r.rights.items p None) (get_or r.lefts.items q None) (get_or c.rights p Any) (get_or c.lefts q Any) (rules.rights.each p l) (rules.lefts.each q m)
  Decides-says p q l m closures.Kids = Decides-kids (get_or r.rights.items p None) (get_or r.lefts.items q None) (get_or c.rights p Any) (get_or c.lefts q Any) (rules.rights.each p l) (rules.lefts.each q m)
  Decides-says p q l m (closures.Rule k) =
      let x = get_or c.rights p Any in
      let y = get_or c.lefts q Any in
      Decides-like (nat_lt k (length r.rules.items) && by_rule has p q (get_or r.rules.items k no_rule))
      (λ h. h.1)
      (λ s. (omega (arith, rule_count, s.1), s))
      (Decides-and_then (nat_lt k (length r.rules.items)) (by_rule has p q (get_or r.rules.items k no_rule)) (Decides-ltb k (length r.rules.items)) (λ n. Decides-rule k p q x y (l, refl) (m, refl) n))

  -- Result
  pub Decides-reason : (p q : ℕ) → p < length c.rights → q < length c.lefts → (why : Why)
      → Decides (by_reason has (get_or r.rights.items p None) (get_or r.lefts.items q None) r.rules.items p q why) (FollowsBy c items p q why)
  Decides-reason p q l m why = Decides-like (by_reason has (get_or r.rights.items p None) (get_or r.lefts.items q None) r.rules.items p q why)
      (from_says why (get_or c.rights p Any) (get_or c.lefts q Any)) (says why (get_or c.rights p Any) (get_or c.lefts q Any)) (Decides-says p q l m why)

  some_rule_from : (p q : ℕ) → p < length c.rights → q < length c.lefts → list_any (by_rule has p q) r.rules.items ≡ true → FollowsAt c items p q
  some_rule_from p q l m h =
      let w = Any-from_list_any (by_rule has p q) r.rules.items h in
      let is : by_rule has p q (get_or r.rules.items w.0 no_rule) ≡ true = ap (by_rule has p q) (get_or_default r.rules.items w.0 no_rule w.1 w.2 ∙ w.3) ∙ w.4 in
      let s = (Decides-rule w.0 p q (get_or c.rights p Any) (get_or c.lefts q Any) (l, refl) (m, refl) w.2).0 is in
      (closures.Rule w.0, from_says (closures.Rule w.0) (get_or c.rights p Any) (get_or c.lefts q Any) s)

  test_from : (p q : ℕ) → p < length c.rights → q < length c.lefts → (why : Why) → FollowsBy c items p q why
      → follows has (get_or r.rights.items p None) (get_or r.lefts.items q None) r.rules.items p q ≡ true
  test_from p q l m why h = by why ((Decides-reason p q l m why).1 h)
    where
      a : Bool
      a = by_any (get_or r.rights.items p None) (get_or r.lefts.items q None)

      b : Bool
      b = by_kids has (get_or r.rights.items p None) (get_or r.lefts.items q None)

      d : Bool
      d = list_any (by_rule has p q) r.rules.items

      first : (x y z : Bool) → x ≡ true → ((x || y) || z) ≡ true
      first true y z e = refl
      first false y z e = absurd (let no : ⊥ = cc in no)

      second : (x y z : Bool) → y ≡ true → ((x || y) || z) ≡ true
      second true y z e = refl
      second false true z e = refl
      second false false z e = absurd (let no : ⊥ = cc in no)

      third : (x y z : Bool) → z ≡ true → ((x || y) || z) ≡ true
      third true y z e = refl
      third false true z e = refl
      third false false z e = e

      by : (w : Why) → by_reason has (get_or r.rights.items p None) (get_or r.lefts.items q None) r.rules.items p q w ≡ true → ((a || b) || d) ≡ true
      by closures.Any e = first a b d e
      by closures.Kids e = second a b d e
      by (closures.Rule k) e =
          let w = (Decides-and_then (nat_lt k (length r.rules.items)) (by_rule has p q (get_or r.rules.items k no_rule)) (Decides-ltb k (length r.rules.items)) (λ n. ((λ (u : by_rule has p q (get_or r.rules.items k no_rule) ≡ true). u), (λ u. u)))).0 e in
          third a b d (list_any_at (by_rule has p q) r.rules.items k no_rule w.0 w.1)

  from_test : (p q : ℕ) → p < length c.rights → q < length c.lefts
      → follows has (get_or r.rights.items p None) (get_or r.lefts.items q None) r.rules.items p q ≡ true → FollowsAt c items p q
  from_test p q l m h =
      cases (by_any (get_or r.rights.items p None) (get_or r.lefts.items q None)) (by_kids has (get_or r.rights.items p None) (get_or r.lefts.items q None)) (list_any (by_rule has p q) r.rules.items)
      (λ e. (closures.Any, (Decides-reason p q l m closures.Any).0 e)) (λ e. (closures.Kids, (Decides-reason p q l m closures.Kids).0 e)) (some_rule_from p q l m) h
    where
      cases : (x y z : Bool) → (x ≡ true → FollowsAt c items p q) → (y ≡ true → FollowsAt c items p q) → (z ≡ true → FollowsAt c items p q) → ((x || y) || z) ≡ true → FollowsAt c items p q
      cases true y z a b d e = a refl
      cases false true z a b d e = b refl
      cases false false z a b d e = d e

  -- Result
  pub Decides-follows : (p q : ℕ) → p < length c.rights → q < length c.lefts
      → Decides (follows has (get_or r.rights.items p None) (get_or r.lefts.items q None) r.rules.items p q) (FollowsAt c items p q)
  Decides-follows p q l m = (from_test p q l m, (λ f. test_from p q l m f.0 f.1))
