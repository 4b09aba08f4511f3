-- A list of pairs that is right lists exactly the closure of its rules.
use Rattle.std.proofs.Common.{◌≡◌, ℕ, zero, suc, ◌<◌, List, length, take, get_or, refl, ap, sym, ◌∙◌, arith, subst, ⊎_elim}
use Rattle.std.specs.Prelude.{◌↔◌, Contains}
use Rattle.std.proofs.lemmas.Bool.{cases_lt}
use Rattle.std.proofs.lemmas.List.{length-map, get_or-map, get_or_default, get_or-take, length-take}
use Rattle.fort_theory.specs.Patterns.{Pattern, Any, Patterns, NoPattern, MorePatterns, Pair}
use Rattle.fort_theory.specs.PatternOrder.{AllAmong}
use Rattle.fort_theory.proofs.ClosedPatterns.{HaveArguments-subpatterns, subpatterns-self}
use Rattle.fort_theory.proofs.Lists.{Contains-map}
use Rattle.fort_reachability.specs.PatternClosures as closures
use Rattle.fort_reachability.specs.PatternClosures.{InPatternClosure, AllInPatternClosure, NoneIn, MoreIn}
use Rattle.fort_alike.specs.ListedClosures as listed_closures
use Rattle.fort_alike.specs.ListedClosures.{Why, Pair as Item}
use Rattle.fort_certificate_theory.specs.ClosureSteps.{ClosureRules, AreSidePatterns, IsPatternAt, IsListed, AreListed, AllListed, Follows, AnyRight, AnyLeft, ByArguments, ByRule, FollowsAt, AreFounded, IsClosed}

abbrev number_pair : Item → ℕ × ℕ
number_pair e = (e.p, e.q)

-- what is listed is in the closure
module _ (c : ClosureRules) (items : List Item) where
  abbrev AllIn : ℕ → Type 0
  AllIn n = (i : ℕ) (d : Item) → i < n → InPatternClosure c.pairs (get_or c.rights (get_or items i d).p Any) (get_or c.lefts (get_or items i d).q Any)

  listed_in : (n : ℕ) (d : Item) (x y : Pattern) → AllIn n → AreListed c (take n items) x y → InPatternClosure c.pairs x y
  listed_in n d x y all a =
      let k = a.listed.0 in
      let l : k < length (take n items) = omega (arith, a.listed.1, length-map (take n items) number_pair) in
      let m : k < n = omega (arith, length-take n items) in
      let at : (get_or (take n items) k d).p ≡ a.p = ap (λ (z : ℕ × ℕ). z.0) (sym (get_or-map number_pair (take n items) k d (a.p, a.q) l) ∙ a.listed.2) in
      let bt : (get_or (take n items) k d).q ≡ a.q = ap (λ (z : ℕ × ℕ). z.1) (sym (get_or-map number_pair (take n items) k d (a.p, a.q) l) ∙ a.listed.2) in
      let here : get_or (take n items) k d ≡ get_or items k d = get_or-take n items k d m in
      let xe : get_or c.rights (get_or items k d).p Any ≡ x = ap (λ (e : Item). get_or c.rights e.p Any) (sym here) ∙ (ap (λ i. get_or c.rights i Any) at ∙ a.right.1) in
      let ye : get_or c.lefts (get_or items k d).q Any ≡ y = ap (λ (e : Item). get_or c.lefts e.q Any) (sym here) ∙ (ap (λ i. get_or c.lefts i Any) bt ∙ a.left.1) in
      subst (λ (z : Pattern). InPatternClosure c.pairs z y) xe (subst (λ (z : Pattern). InPatternClosure c.pairs (get_or c.rights (get_or items k d).p Any) z) ye (all k d m))

  each_in : (n : ℕ) (d : Item) (xs ys : Patterns) → AllIn n → AllListed c (take n items) xs ys → AllInPatternClosure c.pairs xs ys
  each_in n d NoPattern NoPattern all h = NoneIn
  each_in n d NoPattern (MorePatterns y ys) all h = absurd h
  each_in n d (MorePatterns x xs) NoPattern all h = absurd h
  each_in n d (MorePatterns x xs) (MorePatterns y ys) all h = MoreIn (listed_in n d x y all h.0) (each_in n d xs ys all h.1)

  follows_in : (n : ℕ) (d : Item) (why : Why) (x y : Pattern) → AllIn n → Follows c (take n items) why x y → InPatternClosure c.pairs x y
  follows_in n d why x y all AnyRight = closures.AnyRight
  follows_in n d why x y all AnyLeft = closures.AnyLeft
  follows_in n d why x y all (ByArguments {xs = xs} {ys = ys} h) = closures.ByArguments (each_in n d xs ys all h)
  follows_in n d why x y all (ByRule {k = k} pair l e a b) = closures.ThroughPair pair (k, l, e) (listed_in n d x pair.0 all a) (listed_in n d pair.1 y all b)

  all_in : (n : ℕ) → AreFounded c items n → AllIn n
  all_in zero h i d l = absurd (omega arith)
  all_in (suc n) h i d l =
      let less : AreFounded c items n = record { count = omega (arith, h.count); within = λ j e m. h.within j e (omega arith); founded = λ j e m. h.founded j e (omega arith) } in
      let all = all_in n less in
      ⊎_elim (λ m. all i d m)
      (λ m. follows_in i d (get_or items i d).why (get_or c.rights (get_or items i d).p Any) (get_or c.lefts (get_or items i d).q Any) (λ j e b. all j e (omega arith)) (h.founded i d l))
      (cases_lt i n)

follows_at : (c : ClosureRules) (items : List Item) (p q : ℕ) (x y : Pattern) (why : Why) → IsPatternAt c.rights p x → IsPatternAt c.lefts q y → Follows c items why x y → FollowsAt c items p q
follows_at c items p q x y why a b h =
    (why, subst (λ (z : Pattern). Follows c items why z (get_or c.lefts q Any)) (sym a.1) (subst (λ (z : Pattern). Follows c items why x z) (sym b.1) h))

-- a pattern of a list has a number
pattern_at : (ps : List Pattern) (p : Pattern) → Contains ps p → (k : ℕ) × IsPatternAt ps k p
pattern_at ps p h = (h.0, (h.1, get_or_default ps h.0 Any p h.1 ∙ h.2))

at_pattern : (ps : List Pattern) (k : ℕ) (p : Pattern) → IsPatternAt ps k p → Contains ps p
at_pattern ps k p h = (k, h.0, get_or_default ps k p Any h.0 ∙ h.1)

-- what is in the closure is listed
module _ (c : ClosureRules) (items : List Item) (closed : IsClosed c items) (sides : AreSidePatterns c.pairs c.lefts c.rights) where
  right_side : (pair : Pair) → Contains c.pairs pair → Contains c.rights pair.1
  right_side pair h = (sides.right.same pair.1).1 (pair.1, Contains-map (λ (z : Pair). z.1) c.pairs pair h, subpatterns-self pair.1)

  left_side : (pair : Pair) → Contains c.pairs pair → Contains c.lefts pair.0
  left_side pair h = (sides.left.same pair.0).1 (pair.0, Contains-map (λ (z : Pair). z.0) c.pairs pair h, subpatterns-self pair.0)

  mutual
    closure_listed : (x y : Pattern) → InPatternClosure c.pairs x y → (p q : ℕ) → IsPatternAt c.rights p x → IsPatternAt c.lefts q y → IsListed items p q
    closure_listed x y closures.AnyRight p q a b = closed p q a.0 b.0 (follows_at c items p q x y listed_closures.Any a b AnyRight)
    closure_listed x y closures.AnyLeft p q a b = closed p q a.0 b.0 (follows_at c items p q x y listed_closures.Any a b AnyLeft)
    closure_listed x y (closures.ByArguments {f = f} {ps = xs} {qs = ys} h) p q a b =
        closed p q a.0 b.0 (follows_at c items p q x y listed_closures.Kids a b (ByArguments (each_listed xs ys h
        (HaveArguments-subpatterns _ c.rights sides.right f xs (at_pattern c.rights p x a)) (HaveArguments-subpatterns _ c.lefts sides.left f ys (at_pattern c.lefts q y b)))))
    closure_listed x y (closures.ThroughPair pair h s t) p q a b =
        let i = pattern_at c.lefts pair.0 (left_side pair h) in
        let j = pattern_at c.rights pair.1 (right_side pair h) in
        closed p q a.0 b.0 (follows_at c items p q x y (listed_closures.Rule h.0) a b (ByRule pair h.1 h.2
        (record { p = p; q = i.0; right = a; left = i.1; listed = closure_listed x pair.0 s p i.0 a i.1 })
        (record { p = j.0; q = q; right = j.1; left = b; listed = closure_listed pair.1 y t j.0 q j.1 b })))

    each_listed : (xs ys : Patterns) → AllInPatternClosure c.pairs xs ys → AllAmong c.rights xs → AllAmong c.lefts ys → AllListed c items xs ys
    each_listed xs ys NoneIn a b = tt
    each_listed xs ys (MoreIn {p = x} {q = y} {ps = us} {qs = vs} h k) a b =
        let i = pattern_at c.rights x a.0 in
        let j = pattern_at c.lefts y b.0 in
        (record { p = i.0; q = j.0; right = i.1; left = j.1; listed = closure_listed x y h i.0 j.0 i.1 j.1 }, each_listed us vs k a.1 b.1)

-- Result: a pair of numbers is listed exactly where the patterns of these numbers are in the closure
pub closure_exact : (c : ClosureRules) (items : List Item) → AreSidePatterns c.pairs c.lefts c.rights → AreFounded c items (length items) → IsClosed c items
    → (p q : ℕ) → p < length c.rights → q < length c.lefts → IsListed items p q ↔ InPatternClosure c.pairs (get_or c.rights p Any) (get_or c.lefts q Any)
closure_exact c items sides founded closed p q l m = (
  (λ h.
      let d : Item = record { p = 0; q = 0; why = listed_closures.Any } in
      let k = h.0 in
      let b : k < length items = omega (arith, h.1, length-map items number_pair) in
      let is : number_pair (get_or items k d) ≡ (p, q) = sym (get_or-map number_pair items k d (p, q) b) ∙ h.2 in
      let at : (get_or items k d).p ≡ p = ap (λ (z : ℕ × ℕ). z.0) is in
      let bt : (get_or items k d).q ≡ q = ap (λ (z : ℕ × ℕ). z.1) is in
      subst (λ (i : ℕ). InPatternClosure c.pairs (get_or c.rights i Any) (get_or c.lefts q Any)) at
      (subst (λ (i : ℕ). InPatternClosure c.pairs (get_or c.rights (get_or items k d).p Any) (get_or c.lefts i Any)) bt (all_in c items (length items) founded k d b))),
  (λ h. closure_listed c items closed sides (get_or c.rights p Any) (get_or c.lefts q Any) h p q (l, refl) (m, refl)),
)
