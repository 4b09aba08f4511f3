-- The patterns within the sides of rules both ways are those within left and within right sides.
use Rattle.std.specs.Prelude.{◌≡◌, ◌⊎◌, ℕ, ◌<◌, List, [], ◌∷◌, ◌++◌, length, map, get_or, refl}
use Rattle.std.specs.List.Sorted.{IsStrictlySortedBy}
use Rattle.std.specs.Ordering.{on}
use Rattle.std.proofs.Common.{inl, inr, sym, subst, ap, ◌∙◌, arith}
use Rattle.std.proofs.lemmas.List.{length-map, get_or-map, map-append}
use Rattle.std.proofs.lemmas.List.Elements.{Contains-append_left, Contains-append_right, Contains-append_cases}
use Rattle.std.proofs.lemmas.Map.Keys.{Less-from_sorted}
use Rattle.fort_theory.specs.Patterns as theory
use Rattle.fort_theory.specs.PatternOrder.{PatternBefore, StandsWithin, AreSubpatternsInOrder}
use Rattle.fort_theory.proofs.Members.{Contains-none}
use Rattle.fort_terms.specs.declared.pattern.Pattern.{Pattern}
use Rattle.fort_terms.specs.declared.pattern.Pattern.TheVariants.{Any}
use Rattle.fort_terms.specs.PatternKeys.{pattern_order}
use Rattle.fort_terms.specs.PatternView.{as_pattern}
use Rattle.fort_terms.specs.Subpatterns.{HasMore}
use Rattle.fort_terms.proofs.PatternKeysLaws.{PatternBefore-less}
use Rattle.fort_alike.specs.Atoms.{both_ways}

-- a set of patterns is in order
ordered-keys : (keys : List Pattern) → IsStrictlySortedBy (on as_pattern pattern_order) keys
    → (i j : ℕ) → i < j → j < length (map as_pattern keys) → PatternBefore (get_or (map as_pattern keys) i theory.Any) (get_or (map as_pattern keys) j theory.Any)
ordered-keys keys ordered i j before short =
    let within : j < length keys = omega (arith, short, length-map keys as_pattern) in
    let less = Less-from_sorted (on as_pattern pattern_order) keys i j Any ordered before within in
    rw (get_or-map as_pattern keys i Any theory.Any (omega arith), get_or-map as_pattern keys j Any theory.Any within) ((PatternBefore-less _ _).0 less)

within-left : (xs ys : List theory.Pattern) (p : theory.Pattern) → StandsWithin xs p → StandsWithin (xs ++ ys) p
within-left xs ys p w = (w.0, Contains-append_left xs ys w.0 w.1, w.2)

within-right : (xs ys : List theory.Pattern) (p : theory.Pattern) → StandsWithin ys p → StandsWithin (xs ++ ys) p
within-right xs ys p w = (w.0, Contains-append_right xs ys w.0 w.1, w.2)

within-cases : (xs ys : List theory.Pattern) (p : theory.Pattern) → StandsWithin (xs ++ ys) p → StandsWithin xs p ⊎ StandsWithin ys p
within-cases xs ys p w = elim (Contains-append_cases xs ys w.0 w.1) [ inl l ↦ inl (w.0, l, w.2) | inr r ↦ inr (w.0, r, w.2) ]

-- of the tops of two lists together
AreSubpatternsInOrder-together : (xs ys ps qs : List theory.Pattern) (keys : List Pattern) → AreSubpatternsInOrder xs ps → AreSubpatternsInOrder ys qs
    → HasMore (ps ++ qs) [] (map as_pattern keys) → IsStrictlySortedBy (on as_pattern pattern_order) keys → AreSubpatternsInOrder (xs ++ ys) (map as_pattern keys)
AreSubpatternsInOrder-together xs ys ps qs keys left right found ordered = record {
  same = λ p. (
    λ c. elim ((found.same p).0 c) [
      | inl none ↦ absurd (Contains-none p none)
      | inr more ↦ elim (Contains-append_cases ps qs p more) [
        | inl l ↦ within-left xs ys p ((left.same p).0 l)
        | inr r ↦ within-right xs ys p ((right.same p).0 r)
      ]
    ],
    λ w. (found.same p).1 (inr (elim (within-cases xs ys p w) [
      | inl l ↦ Contains-append_left ps qs p ((left.same p).1 l)
      | inr r ↦ Contains-append_right ps qs p ((right.same p).1 r)
    ])),
  );
  ordered = ordered-keys keys ordered;
}

-- found in the other order
HasMore-turned : (ps qs keys : List theory.Pattern) → HasMore (ps ++ qs) [] keys → HasMore (qs ++ ps) [] keys
HasMore-turned ps qs keys h = record {
  same = λ p. (
    λ c. elim ((h.same p).0 c) [
      | inl none ↦ inl none
      | inr more ↦ inr (elim (Contains-append_cases ps qs p more) [ inl l ↦ Contains-append_right qs ps p l | inr r ↦ Contains-append_left qs ps p r ])
    ],
    λ s. elim s [
      | inl none ↦ (h.same p).1 (inl none)
      | inr more ↦ (h.same p).1 (inr (elim (Contains-append_cases qs ps p more) [ inl l ↦ Contains-append_right ps qs p l | inr r ↦ Contains-append_left ps qs p r ]))
    ],
  );
}

exchanged-lefts : (pairs : List theory.Pair) → map (λ (pair : theory.Pair). pair.0) (map (λ (pair : theory.Pair). (pair.1, pair.0)) pairs) ≡ map (λ (pair : theory.Pair). pair.1) pairs
exchanged-lefts [] = refl
exchanged-lefts (pair ∷ pairs) = ap (λ ps. pair.1 ∷ ps) (exchanged-lefts pairs)

exchanged-rights : (pairs : List theory.Pair) → map (λ (pair : theory.Pair). pair.1) (map (λ (pair : theory.Pair). (pair.1, pair.0)) pairs) ≡ map (λ (pair : theory.Pair). pair.0) pairs
exchanged-rights [] = refl
exchanged-rights (pair ∷ pairs) = ap (λ ps. pair.0 ∷ ps) (exchanged-rights pairs)

module _ (pairs : List theory.Pair) (ps qs : List theory.Pattern) (keys : List Pattern)
    (left : AreSubpatternsInOrder (map (λ (pair : theory.Pair). pair.0) pairs) ps) (right : AreSubpatternsInOrder (map (λ (pair : theory.Pair). pair.1) pairs) qs)
    (found : HasMore (ps ++ qs) [] (map as_pattern keys)) (ordered : IsStrictlySortedBy (on as_pattern pattern_order) keys) where
  pub AreSubpatternsInOrder-left_both : AreSubpatternsInOrder (map (λ (pair : theory.Pair). pair.0) (both_ways pairs)) (map as_pattern keys)
  AreSubpatternsInOrder-left_both =
      let tops : map (λ (pair : theory.Pair). pair.0) (both_ways pairs) ≡ map (λ (pair : theory.Pair). pair.0) pairs ++ map (λ (pair : theory.Pair). pair.1) pairs =
      map-append (λ (pair : theory.Pair). pair.0) pairs (map (λ (pair : theory.Pair). (pair.1, pair.0)) pairs)
      ∙ ap (λ xs. map (λ (pair : theory.Pair). pair.0) pairs ++ xs) (exchanged-lefts pairs) in
      subst (λ (xs : List theory.Pattern). AreSubpatternsInOrder xs (map as_pattern keys)) (sym tops)
      (AreSubpatternsInOrder-together (map (λ (pair : theory.Pair). pair.0) pairs) (map (λ (pair : theory.Pair). pair.1) pairs) ps qs keys left right found ordered)

  pub AreSubpatternsInOrder-right_both : AreSubpatternsInOrder (map (λ (pair : theory.Pair). pair.1) (both_ways pairs)) (map as_pattern keys)
  AreSubpatternsInOrder-right_both =
      let tops : map (λ (pair : theory.Pair). pair.1) (both_ways pairs) ≡ map (λ (pair : theory.Pair). pair.1) pairs ++ map (λ (pair : theory.Pair). pair.0) pairs =
      map-append (λ (pair : theory.Pair). pair.1) pairs (map (λ (pair : theory.Pair). (pair.1, pair.0)) pairs)
      ∙ ap (λ xs. map (λ (pair : theory.Pair). pair.1) pairs ++ xs) (exchanged-rights pairs) in
      subst (λ (xs : List theory.Pattern). AreSubpatternsInOrder xs (map as_pattern keys)) (sym tops)
      (AreSubpatternsInOrder-together (map (λ (pair : theory.Pair). pair.1) pairs) (map (λ (pair : theory.Pair). pair.0) pairs) qs ps keys right left
      (HasMore-turned ps qs (map as_pattern keys) found) ordered)
