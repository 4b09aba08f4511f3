-- Each atom has a closure test: the pairs of patterns in the closure can all be listed.
use Rattle.std.proofs.Common.{◌≡◌, ℕ, List, [], ◌∷◌, map, Bool, true, false, true≢false, ◌==◌, ◌&&◌, ◌||◌, eq-eqb, eqb-true, refl, ap, sym, ◌∙◌, subst, inl, inr, ⊎_elim}
use Rattle.std.specs.Prelude.{Contains, Decides}
use Rattle.std.specs.List.{flat_map}
use Rattle.std.proofs.lemmas.Bool.{or_cases}
use Rattle.std.proofs.lemmas.Bool.Decides.{Decides-like, Decides-and, Decides-or}
use Rattle.fort_theory.specs.Patterns.{Pattern, Patterns, Any, At, NoPattern, MorePatterns, Pair}
use Rattle.fort_theory.specs.PatternOrder.{AllAmong}
use Rattle.fort_theory.proofs.Lists.{Contains-map}
use Rattle.fort_theory.proofs.Members.{Contains-none, Contains-cons_cases, Contains-head, Contains-behind}
use Rattle.fort_reachability.specs.PatternClosures as closures
use Rattle.fort_reachability.specs.PatternClosures.{InPatternClosure, AllInPatternClosure, NoneIn, MoreIn}
use Rattle.fort_reachability.proofs.PatternClosureExact.{InPatternClosure-ReachesInstance}
use Rattle.fort_tables.proofs.JoinedLists.{flat_map_has}
use Rattle.fort_alike.specs.Alike.{is_reaching}
use Rattle.fort_alike.specs.AtomRules.{same_pattern, any_pair}
use Rattle.fort_alike.specs.ListedAtoms.{ListedAtom, IsListedAtom}
use Rattle.fort_alike.specs.ClosureTests.{IsClosure}
use Rattle.fort_alike.proofs.Bits.{Decides-false, Decides-iff, Decides-same_pattern, SomePair, Decides-any_pair}
use Rattle.fort_alike.proofs.ClosedLists.{ArePatterns-lefts, ArePatterns-rights, lefts-has_side, rights-has_side}
use Rattle.fort_tables.proofs.SearchLaws.{both, left, right, either_left, either_right}
use Rattle.fort_right_answers.proofs.Saturation.{HasSaturation, saturation_exists}

-- pairs of a right pattern and a left one
abbrev PatternPairs : Type 0
PatternPairs = List (Pattern × Pattern)

-- whether the pair is among those found
abbrev is_found : PatternPairs → Pattern → Pattern → Bool
is_found [] p q = false
is_found (x ∷ xs) p q = (same_pattern x.0 p && same_pattern x.1 q) || is_found xs p q

pair_equal : {a b : Pattern × Pattern} → a.0 ≡ b.0 → a.1 ≡ b.1 → a ≡ b
pair_equal e h = λ i. (e i, h i)

Decides-is_found : (xs : PatternPairs) (p q : Pattern) → Decides (is_found xs p q) (Contains xs (p, q))
Decides-is_found [] p q = Decides-false (Contains-none (p, q))
Decides-is_found (x ∷ xs) p q =
    let w : Pattern × Pattern = (p, q) in
    Decides-like (is_found (x ∷ xs) p q)
    (λ s. elim s [ inl a ↦ subst (Contains (x ∷ xs)) (pair_equal a.0 a.1) (Contains-head x xs) | inr b ↦ Contains-behind x xs w b ])
    (λ c. elim (Contains-cons_cases x xs w c) [ inl e ↦ inl (ap (λ (z : Pattern × Pattern). z.0) e, ap (λ (z : Pattern × Pattern). z.1) e) | inr n ↦ inr n ])
    (Decides-or (same_pattern x.0 p && same_pattern x.1 q) (is_found xs p q)
    (Decides-and (same_pattern x.0 p) (same_pattern x.1 q) (Decides-same_pattern x.0 p) (Decides-same_pattern x.1 q)) (Decides-is_found xs p q))

-- one by one, as many of each
abbrev all_found : PatternPairs → Patterns → Patterns → Bool
all_found xs NoPattern NoPattern = true
all_found xs NoPattern (MorePatterns q qs) = false
all_found xs (MorePatterns p ps) NoPattern = false
all_found xs (MorePatterns p ps) (MorePatterns q qs) = is_found xs p q && all_found xs ps qs

-- whether a pair follows from those found
abbrev follows_through : List Pair → PatternPairs → Pattern → Pattern → Bool
follows_through pairs xs p q = any_pair (λ (r : Pair). is_found xs p r.0 && is_found xs r.1 q) pairs

abbrev follows : List Pair → PatternPairs → Pattern → Pattern → Bool
follows pairs xs Any q = true
follows pairs xs (At f ps) Any = true
follows pairs xs (At f ps) (At g qs) = ((f == g) && all_found xs ps qs) || follows_through pairs xs (At f ps) (At g qs)

module _ (pairs : List Pair) (xs : PatternPairs) where
  -- what is found is in the closure
  abbrev AreSound : Type 0
  AreSound = (p q : Pattern) → Contains xs (p, q) → InPatternClosure pairs p q

  found_in : AreSound → (p q : Pattern) → is_found xs p q ≡ true → InPatternClosure pairs p q
  found_in sound p q e = sound p q ((Decides-is_found xs p q).0 e)

  all_in : AreSound → (ps qs : Patterns) → all_found xs ps qs ≡ true → AllInPatternClosure pairs ps qs
  all_in sound NoPattern NoPattern e = NoneIn
  all_in sound NoPattern (MorePatterns q qs) e = absurd cc
  all_in sound (MorePatterns p ps) NoPattern e = absurd cc
  all_in sound (MorePatterns p ps) (MorePatterns q qs) e =
      MoreIn (found_in sound p q (left (is_found xs p q) (all_found xs ps qs) e)) (all_in sound ps qs (right (is_found xs p q) (all_found xs ps qs) e))

  through_in : AreSound → (p q : Pattern) → follows_through pairs xs p q ≡ true → InPatternClosure pairs p q
  through_in sound p q e =
      let test : Pair → Bool = λ r. is_found xs p r.0 && is_found xs r.1 q in
      let w = (Decides-any_pair test (λ r. test r ≡ true) pairs (λ r c. ((λ h. h), (λ h. h)))).0 e in
      closures.ThroughPair w.0 w.1 (found_in sound p w.0.0 (left (is_found xs p w.0.0) (is_found xs w.0.1 q) w.2))
      (found_in sound w.0.1 q (right (is_found xs p w.0.0) (is_found xs w.0.1 q) w.2))

  follows_in : AreSound → (p q : Pattern) → follows pairs xs p q ≡ true → InPatternClosure pairs p q
  follows_in sound Any q e = closures.AnyRight
  follows_in sound (At f ps) Any e = closures.AnyLeft
  follows_in sound (At f ps) (At g qs) e =
      ⊎_elim
      (λ h. subst (λ k. InPatternClosure pairs (At f ps) (At k qs)) (eqb-true f g (left (f == g) (all_found xs ps qs) h))
      (closures.ByArguments (all_in sound ps qs (right (f == g) (all_found xs ps qs) h))))
      (λ h. through_in sound (At f ps) (At g qs) h)
      (or_cases ((f == g) && all_found xs ps qs) (follows_through pairs xs (At f ps) (At g qs)) e)

  follows_any : (p : Pattern) → follows pairs xs p Any ≡ true
  follows_any Any = refl
  follows_any (At f ps) = refl

  follows_pair : (p q : Pattern) (r : Pair) → Contains pairs r → is_found xs p r.0 ≡ true → is_found xs r.1 q ≡ true → follows pairs xs p q ≡ true
  follows_pair Any q r c h k = refl
  follows_pair (At f ps) Any r c h k = refl
  follows_pair (At f ps) (At g qs) r c h k =
      let test : Pair → Bool = λ s. is_found xs (At f ps) s.0 && is_found xs s.1 (At g qs) in
      let w : SomePair (λ s. test s ≡ true) pairs = (r, c, both (is_found xs (At f ps) r.0) (is_found xs r.1 (At g qs)) h k) in
      either_right ((f == g) && all_found xs ps qs) (follows_through pairs xs (At f ps) (At g qs))
      ((Decides-any_pair test (λ s. test s ≡ true) pairs (λ s d. ((λ h. h), (λ h. h)))).1 w)

  -- where all that follow are found, the closure is
  module _ (rights lefts : List Pattern) (closed : (p q : Pattern) → Contains rights p → Contains lefts q → follows pairs xs p q ≡ true → Contains xs (p, q))
      (right_arguments : (f : ℕ) (ps : Patterns) → Contains rights (At f ps) → AllAmong rights ps) (left_arguments : (f : ℕ) (ps : Patterns) → Contains lefts (At f ps) → AllAmong lefts ps)
      (right_sides : (pair : Pair) → Contains pairs pair → Contains rights pair.1) (left_sides : (pair : Pair) → Contains pairs pair → Contains lefts pair.0) where
    mutual
      closure_found : (p q : Pattern) → InPatternClosure pairs p q → Contains rights p → Contains lefts q → is_found xs p q ≡ true
      closure_found p q closures.AnyRight a b = (Decides-is_found xs p q).1 (closed p q a b refl)
      closure_found p q closures.AnyLeft a b = (Decides-is_found xs p q).1 (closed p q a b (follows_any p))
      closure_found p q (closures.ByArguments {f = f} {ps = ps} {qs = qs} h) a b =
          (Decides-is_found xs p q).1 (closed p q a b (either_left ((f == f) && all_found xs ps qs) (follows_through pairs xs p q)
          (both (f == f) (all_found xs ps qs) (eq-eqb f f refl) (arguments_found ps qs h (right_arguments f ps a) (left_arguments f qs b)))))
      closure_found p q (closures.ThroughPair pair h s t) a b =
          (Decides-is_found xs p q).1 (closed p q a b (follows_pair p q pair h (closure_found p pair.0 s a (left_sides pair h)) (closure_found pair.1 q t (right_sides pair h) b)))

      arguments_found : (ps qs : Patterns) → AllInPatternClosure pairs ps qs → AllAmong rights ps → AllAmong lefts qs → all_found xs ps qs ≡ true
      arguments_found ps qs NoneIn a b = refl
      arguments_found ps qs (MoreIn {p = p} {q = q} {ps = us} {qs = vs} h k) a b =
          both (is_found xs p q) (all_found xs us vs) (closure_found p q h a.0 b.0) (arguments_found us vs k a.1 b.1)

module _ (a : ListedAtom) (is : IsListedAtom a) where
  abbrev all_pairs : PatternPairs
  all_pairs = flat_map (λ (p : Pattern). map (λ (q : Pattern). (p, q)) a.lefts) a.rights

  sound_more : (xs : PatternPairs) (x : Pattern × Pattern) → AreSound a.atom.pairs xs → follows a.atom.pairs xs x.0 x.1 ≡ true → AreSound a.atom.pairs (x ∷ xs)
  sound_more xs x sound e p q c =
      ⊎_elim
      (λ s. subst (λ (z : Pattern × Pattern). InPatternClosure a.atom.pairs z.0 z.1) s (follows_in a.atom.pairs xs sound x.0 x.1 e))
      (λ d. sound p q d)
      (Contains-cons_cases x xs (p, q) c)

  pairs_found : HasSaturation (λ xs x. follows a.atom.pairs xs x.0 x.1) (AreSound a.atom.pairs) all_pairs
  pairs_found = saturation_exists (Pattern × Pattern) (λ xs x. follows a.atom.pairs xs x.0 x.1) (AreSound a.atom.pairs) all_pairs sound_more (λ p q c. absurd (Contains-none (p, q) c))

  sides_there : is_reaching a.atom.kind ≡ true → (pair : Pair) → Contains a.atom.pairs pair → Contains a.rights pair.1
  sides_there e = ⊎_elim (λ n. absurd (true≢false (sym e ∙ ap is_reaching n))) (λ h. h) (rights-has_side a is)

  pub closure_by : Pattern → Pattern → Bool
  closure_by p q = is_found pairs_found.found p q

  -- Result: it tells the closure
  pub IsClosure-found : IsClosure a closure_by
  unfolding closure_by
  IsClosure-found e p q among_rights among_lefts =
      let r = ArePatterns-rights a is in
      let l = ArePatterns-lefts a is in
      let xs = pairs_found.found in
      let there : (p q : Pattern) → Contains a.rights p → Contains a.lefts q → Contains all_pairs (p, q) =
      λ p q c d. flat_map_has (λ (p : Pattern). map (λ (q : Pattern). (p, q)) a.lefts) a.rights p (p, q) c (Contains-map (λ (q : Pattern). (p, q)) a.lefts q d) in
      let closed : (p q : Pattern) → Contains a.rights p → Contains a.lefts q → follows a.atom.pairs xs p q ≡ true → Contains xs (p, q) =
      λ p q c d h. ⊎_elim (λ n. absurd (true≢false (sym h ∙ n))) (λ f. f) (pairs_found.saturated (p, q) (there p q c d)) in
      Decides-iff (is_found xs p q)
      (InPatternClosure-ReachesInstance a.atom.signature is.constant a.atom.pairs is.fit p q (r.fit p among_rights) (l.fit q among_lefts)) (
        (λ h. found_in a.atom.pairs xs pairs_found.kept p q h),
        (λ h. closure_found a.atom.pairs xs a.rights a.lefts closed r.closed l.closed (sides_there e) (lefts-has_side a is) p q h among_rights among_lefts),
      )
