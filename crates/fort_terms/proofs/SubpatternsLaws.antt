-- Lists with some more patterns: one inserted into a list in order, the patterns within one argument after another.
use Rattle.std.specs.Prelude.{◌≡◌, ℕ, ◌+◌, ◌<◌, List, [], ◌∷◌, ◌++◌, length, map, get_or, take, Contains, refl}
use Rattle.std.specs.BTreeSet.{insert_key}
use Rattle.std.specs.List.{flat_map}
use Rattle.std.specs.List.Sorted.{IsStrictlySortedBy}
use Rattle.std.specs.declared.cmp.Ordering.{Ordering}
use Rattle.std.specs.declared.cmp.Ordering.TheVariants.{Less, Equal, Greater}
use Rattle.std.specs.Ordering.{match_ordering, on}
use Rattle.std.proofs.Common.{inl, inr, sym, subst, ap, ◌∙◌, arith, append_assoc, append-nil}
use Rattle.std.proofs.lemmas.Grind.{flat_map-append}
use Rattle.std.proofs.lemmas.List.{take_more, length-map, get_or-map}
use Rattle.std.proofs.lemmas.List.Elements.{Contains-append_left, Contains-append_right, Contains-append_cases}
use Rattle.std.proofs.lemmas.List.Folds.{flat_map-map}
use Rattle.std.proofs.lemmas.Map.Keys.{Less-from_sorted}
use Rattle.fort_theory.specs.Patterns as theory
use Rattle.fort_theory.specs.PatternOrder.{subpatterns, all_subpatterns, AreSubpatternsInOrder}
use Rattle.fort_theory.proofs.Members.{Contains-head, Contains-behind, Contains-cons_cases, Contains-none}
use Rattle.fort_theory.proofs.PatternOrderLaws.{Contains-flat_map_subpatterns}
use Rattle.fort_terms.specs.declared.pattern.Pattern.{Pattern}
use Rattle.fort_terms.specs.declared.pattern.Pattern.TheVariants.{Any}
use Rattle.fort_terms.specs.PatternKeys.{pattern_order}
use Rattle.fort_terms.specs.PatternKeyLaws.{pattern_order-Equal}
use Rattle.fort_terms.specs.PatternView.{as_pattern, as_patterns, as_pair}
use Rattle.fort_terms.specs.Subpatterns.{HasMore}
use Rattle.fort_terms.proofs.PatternKeysLaws.{PatternBefore-less}

-- ---- a pattern inserted

map-match_ordering : {A B : Type 0} (f : A → B) (o : Ordering) (xs ys zs : List A)
    → map f (match_ordering o xs ys zs) ≡ match_ordering o (map f xs) (map f ys) (map f zs)
map-match_ordering f Less xs ys zs = refl
map-match_ordering f Equal xs ys zs = refl
map-match_ordering f Greater xs ys zs = refl

-- the values of a list with one more key
map-insert_key : {A B : Type 0} (f : A → B) (r : B → B → Ordering) (ks : List A) (k : A) → map f (insert_key (on f r) ks k) ≡ insert_key r (map f ks) (f k)
map-insert_key f r [] k = refl
map-insert_key f r (x ∷ ks) k =
    map-match_ordering f (r (f k) (f x)) (k ∷ x ∷ ks) (x ∷ ks) (x ∷ insert_key (on f r) ks k)
    ∙ ap (λ ys. match_ordering (r (f k) (f x)) (f k ∷ f x ∷ map f ks) (f x ∷ map f ks) (f x ∷ ys)) (map-insert_key f r ks k)

one_is : {A : Type 0} (x y : A) → Contains (x ∷ []) y → x ≡ y
one_is x y h = elim (Contains-cons_cases x [] y h) [ inl e ↦ e | inr none ↦ absurd (Contains-none y none) ]

is_one : {A : Type 0} (x y : A) → x ≡ y → Contains (x ∷ []) y
is_one x y e = subst (λ z. Contains (x ∷ []) z) e (Contains-head x [])

at_head : {A : Type 0} (x y : A) (xs : List A) → x ≡ y → Contains (x ∷ xs) y
at_head x y xs e = subst (λ z. Contains (x ∷ xs) z) e (Contains-head x xs)

HasMore-placed : (o : Ordering) (x k : theory.Pattern) (ks rest : List theory.Pattern) → pattern_order k x ≡ o → HasMore (k ∷ []) ks rest
    → HasMore (k ∷ []) (x ∷ ks) (match_ordering o (k ∷ x ∷ ks) (x ∷ ks) (x ∷ rest))
HasMore-placed Less x k ks rest e more = record {
  same = λ q. (
    λ h. elim (Contains-cons_cases k (x ∷ ks) q h) [ inl here ↦ inr (is_one k q here) | inr there ↦ inl there ],
    λ h. elim h [ inl old ↦ Contains-behind k (x ∷ ks) q old | inr new ↦ at_head k q (x ∷ ks) (one_is k q new) ],
  );
}
HasMore-placed Equal x k ks rest e more =
    let same_pattern = (pattern_order-Equal k x).0 e in record {
      same = λ q. (λ h. inl h, λ h. elim h [ inl old ↦ old | inr new ↦ at_head x q ks (sym same_pattern ∙ one_is k q new) ]);
    }
HasMore-placed Greater x k ks rest e more = record {
  same = λ q. (
    λ h. elim (Contains-cons_cases x rest q h) [
      | inl here ↦ inl (at_head x q ks here)
      | inr there ↦ elim ((more.same q).0 there) [ inl old ↦ inl (Contains-behind x ks q old) | inr new ↦ inr new ]
    ],
    λ h. elim h [
      | inl old ↦ elim (Contains-cons_cases x ks q old) [
        | inl here ↦ at_head x q rest here
        | inr there ↦ Contains-behind x rest q ((more.same q).1 (inl there))
      ]
      | inr new ↦ Contains-behind x rest q ((more.same q).1 (inr new))
    ],
  );
}

HasMore-insert_key : (ks : List theory.Pattern) (k : theory.Pattern) → HasMore (k ∷ []) ks (insert_key pattern_order ks k)
HasMore-insert_key [] k = record { same = λ q. (λ h. inr h, λ h. elim h [ inl none ↦ absurd (Contains-none q none) | inr here ↦ here ]) }
HasMore-insert_key (x ∷ ks) k = HasMore-placed (pattern_order k x) x k ks (insert_key pattern_order ks k) refl (HasMore-insert_key ks k)

pub HasMore-inserted : (old new : List Pattern) (p : Pattern) → new ≡ insert_key (on as_pattern pattern_order) old p
    → HasMore (as_pattern p ∷ []) (map as_pattern old) (map as_pattern new)
HasMore-inserted old new p e =
    rw (e, map-insert_key as_pattern pattern_order old p) (HasMore-insert_key (map as_pattern old) (as_pattern p))

-- ---- some more, and more

pub HasMore-append : (xs ys old mid new : List theory.Pattern) → HasMore xs old mid → HasMore ys mid new → HasMore (xs ++ ys) old new
HasMore-append xs ys old mid new first second = record {
  same = λ q. (
    λ h. elim ((second.same q).0 h) [
      | inl there ↦ elim ((first.same q).0 there) [ inl before ↦ inl before | inr more ↦ inr (Contains-append_left xs ys q more) ]
      | inr more ↦ inr (Contains-append_right xs ys q more)
    ],
    λ h. elim h [
      | inl before ↦ (second.same q).1 (inl ((first.same q).1 (inl before)))
      | inr more ↦ elim (Contains-append_cases xs ys q more) [
        | inl left ↦ (second.same q).1 (inl ((first.same q).1 (inr left)))
        | inr right ↦ (second.same q).1 (inr right)
      ]
    ],
  );
}

-- the patterns within some arguments and one more
pub all_subpatterns-push : (ps : List Pattern) (p : Pattern)
    → all_subpatterns (as_patterns (ps ++ p ∷ [])) ≡ all_subpatterns (as_patterns ps) ++ subpatterns (as_pattern p)
all_subpatterns-push [] p = append-nil (subpatterns (as_pattern p))
all_subpatterns-push (q ∷ ps) p =
    ap (λ xs. subpatterns (as_pattern q) ++ xs) (all_subpatterns-push ps p)
    ∙ sym (append_assoc (subpatterns (as_pattern q)) (all_subpatterns (as_patterns ps)) (subpatterns (as_pattern p)))

-- the patterns within one more element of a list
pub HasMore-take : {A : Type 0} (f : A → List theory.Pattern) (xs : List A) (i : ℕ) (x : A) (old mid new : List theory.Pattern) → i < length xs → x ≡ get_or xs i x
    → HasMore (flat_map f (take i xs)) old mid → HasMore (f x) mid new → HasMore (flat_map f (take (i + 1) xs)) old new
HasMore-take f xs i x old mid new h at before here =
    rw (take_more xs i x h, ← at, flat_map-append, append-nil) (HasMore-append (flat_map f (take i xs)) (f x) old mid new before here)

-- ---- all of them, in order

pub AreSubpatternsInOrder-found : (pick : theory.Pair → theory.Pattern) (rules : List (Pattern × Pattern)) (pairs : List theory.Pair) (keys : List Pattern) → map as_pair rules ≡ pairs
    → HasMore (flat_map (λ rule. subpatterns (pick (as_pair rule))) rules) [] (map as_pattern keys) → IsStrictlySortedBy (on as_pattern pattern_order) keys
    → AreSubpatternsInOrder (map pick pairs) (map as_pattern keys)
AreSubpatternsInOrder-found pick rules pairs keys are found ordered =
    let all : flat_map subpatterns (map pick pairs) ≡ flat_map (λ rule. subpatterns (pick (as_pair rule))) rules =
    flat_map-map subpatterns pick pairs ∙ (ap (flat_map (λ pair. subpatterns (pick pair))) (sym are) ∙ flat_map-map (λ pair. subpatterns (pick pair)) as_pair rules) in
    record {
      same = λ p.
          let within = Contains-flat_map_subpatterns (map pick pairs) p in (
            λ h. elim ((found.same p).0 h) [
              | inl none ↦ absurd (Contains-none p none)
              | inr inside ↦ within.0 (subst (λ (xs : List theory.Pattern). Contains xs p) (sym all) inside)
            ],
            λ h. (found.same p).1 (inr (subst (λ (xs : List theory.Pattern). Contains xs p) all (within.1 h))),
          );
      ordered = λ i j before short.
          let within : j < length keys = omega (arith, short, length-map keys as_pattern) in
          let less = Less-from_sorted (on as_pattern pattern_order) keys i j Any ordered before within in
          rw (get_or-map as_pattern keys i Any theory.Any (omega arith), get_or-map as_pattern keys j Any theory.Any within) ((PatternBefore-less _ _).0 less);
    }
