-- Ground terms as patterns: which patterns they are, and in which order.
use Rattle.std.proofs.Common.{◌≡◌, ℕ, suc, max, Option, Some, None, List, [], refl, ap, sym, ◌∙◌, subst, inl, inr}
use Rattle.std.specs.Prelude.{Contains}
use Rattle.fort_theory.specs.Trees.{Tree, Trees, Node, Nil, More, tree_count, height, heights}
use Rattle.fort_theory.specs.Signatures.{Signature, IsGround, AreGround, HasConstant}
use Rattle.fort_theory.specs.Patterns.{Pattern, Patterns, Any, At, NoPattern, MorePatterns, pattern_count, FitsPattern, FitPatterns}
use Rattle.fort_theory.specs.PatternOrder.{PatternBefore, PatternsBefore}
use Rattle.fort_theory.proofs.Lists.{none-some, some-injective}
use Rattle.fort_theory.proofs.Members.{Contains-head, Contains-cons_cases, Contains-none}
use Rattle.fort_answers.specs.FamilyRules.{pattern_height, pattern_heights, TreeBefore, TreesBefore}
use Rattle.fort_synth.specs.FamilyLists.{if_both, node_if, ground_term, ground_kids, list_of, ground_terms}
use Rattle.fort_synth.proofs.FamilyListLaws.{Contains-flat_map, Contains-flat_map_from, IsAscending, IsAscending-flat_map}

-- the term as a pattern
abbrev mutual
  pub ground_pattern : Tree → Pattern
  ground_pattern (Node f ts) = At f (ground_patterns ts)

  pub ground_patterns : Trees → Patterns
  ground_patterns Nil = NoPattern
  ground_patterns (More t ts) = MorePatterns (ground_pattern t) (ground_patterns ts)

-- ---- there and back

mutual
  pub term_again : (t : Tree) → ground_term (ground_pattern t) ≡ Some t
  term_again (Node f ts) = ap (node_if f) (kids_again ts)

  kids_again : (ts : Trees) → ground_kids (ground_patterns ts) ≡ Some ts
  kids_again Nil = refl
  kids_again (More t ts) = (λ i. if_both (term_again t i) (kids_again ts i))

kids_of : (f : ℕ) (o : Option Trees) (t : Tree) → node_if f o ≡ Some t → (ts : Trees) × (o ≡ Some ts) × (Node f ts ≡ t)
kids_of f None t h = absurd (none-some h)
kids_of f (Some ts) t h = (ts, refl, some-injective h)

parts_of : (o : Option Tree) (os : Option Trees) (us : Trees) → if_both o os ≡ Some us
    → (t : Tree) × (ts : Trees) × (o ≡ Some t) × (os ≡ Some ts) × (More t ts ≡ us)
parts_of None os us h = absurd (none-some h)
parts_of (Some t) None us h = absurd (none-some h)
parts_of (Some t) (Some ts) us h = (t, ts, refl, refl, some-injective h)

mutual
  pub pattern_again : (p : Pattern) (t : Tree) → ground_term p ≡ Some t → p ≡ ground_pattern t
  pattern_again Any t h = absurd (none-some h)
  pattern_again (At f ps) t h =
      let k = kids_of f (ground_kids ps) t h in
      ap (At f) (patterns_again ps k.0 k.1) ∙ ap ground_pattern k.2

  patterns_again : (ps : Patterns) (ts : Trees) → ground_kids ps ≡ Some ts → ps ≡ ground_patterns ts
  patterns_again NoPattern ts h = ap ground_patterns (some-injective h)
  patterns_again (MorePatterns p ps) ts h =
      let r = parts_of (ground_term p) (ground_kids ps) ts h in
      (λ i. MorePatterns (pattern_again p r.0 r.2 i) (patterns_again ps r.1 r.3 i)) ∙ ap ground_patterns r.4

same_term : (t u : Tree) → ground_pattern t ≡ ground_pattern u → t ≡ u
same_term t u e = some-injective (sym (term_again t) ∙ (ap ground_term e ∙ term_again u))

-- ---- over a signature, and of a height

count_again : (ts : Trees) → pattern_count (ground_patterns ts) ≡ tree_count ts
count_again Nil = refl
count_again (More t ts) = ap suc (count_again ts)

mutual
  pub height_again : (t : Tree) → pattern_height (ground_pattern t) ≡ height t
  height_again (Node f ts) = heights_again ts

  heights_again : (ts : Trees) → pattern_heights (ground_patterns ts) ≡ heights ts
  heights_again Nil = refl
  heights_again (More t ts) = (λ i. max (suc (height_again t i)) (heights_again ts i))

mutual
  pub fits_from_ground : (signature : Signature) (t : Tree) → IsGround signature t → FitsPattern signature (ground_pattern t)
  fits_from_ground signature (Node f ts) h = (h.0 ∙ ap Some (sym (count_again ts)), fit_from_ground signature ts h.1)

  fit_from_ground : (signature : Signature) (ts : Trees) → AreGround signature ts → FitPatterns signature (ground_patterns ts)
  fit_from_ground signature Nil h = tt
  fit_from_ground signature (More t ts) h = (fits_from_ground signature t h.0, fit_from_ground signature ts h.1)

mutual
  pub ground_from_fits : (signature : Signature) (t : Tree) → FitsPattern signature (ground_pattern t) → IsGround signature t
  ground_from_fits signature (Node f ts) h = (h.0 ∙ ap Some (count_again ts), ground_from_fit signature ts h.1)

  ground_from_fit : (signature : Signature) (ts : Trees) → FitPatterns signature (ground_patterns ts) → AreGround signature ts
  ground_from_fit signature Nil h = tt
  ground_from_fit signature (More t ts) h = (ground_from_fits signature t h.0, ground_from_fit signature ts h.1)

-- where there is a ground term there is a constant
mutual
  pub constant_within : (signature : Signature) (t : Tree) → IsGround signature t → HasConstant signature
  constant_within signature (Node f Nil) h = (f, h.0)
  constant_within signature (Node f (More t ts)) h = constant_within signature t h.1.0

-- ---- order

mutual
  term_before : (s t : Tree) → PatternBefore (ground_pattern s) (ground_pattern t) → TreeBefore s t
  term_before (Node f ts) (Node g us) h =
      elim h [ inl less ↦ inl less | inr same ↦ inr (same.0, terms_before ts us same.1) ]

  terms_before : (ts us : Trees) → PatternsBefore (ground_patterns ts) (ground_patterns us) → TreesBefore ts us
  terms_before Nil Nil h = h
  terms_before (More t ts) Nil h = h
  terms_before Nil (More u us) h = tt
  terms_before (More t ts) (More u us) h =
      elim h [ inl first ↦ inl (term_before t u first) | inr same ↦ inr (same_term t u same.0, terms_before ts us same.1) ]

-- ---- the ground terms among patterns

list_of-has : (o : Option Tree) (t : Tree) → Contains (list_of o) t → o ≡ Some t
list_of-has None t c = absurd (Contains-none t c)
list_of-has (Some s) t c =
    elim (Contains-cons_cases s [] t c) [ inl here ↦ ap (λ u. Some u) here | inr behind ↦ absurd (Contains-none t behind) ]

list_of-ascends : (o : Option Tree) → IsAscending TreeBefore (list_of o)
list_of-ascends None = tt
list_of-ascends (Some t) = ((λ u c. absurd (Contains-none u c)), tt)

pub Contains-ground_terms : (ps : List Pattern) (t : Tree) → Contains ps (ground_pattern t) → Contains (ground_terms ps) t
Contains-ground_terms ps t c =
    Contains-flat_map (λ p. list_of (ground_term p)) ps (ground_pattern t) t c
    (subst (λ o. Contains (list_of o) t) (sym (term_again t)) (Contains-head t []))

pub ground_terms-have : (ps : List Pattern) (t : Tree) → Contains (ground_terms ps) t → Contains ps (ground_pattern t)
ground_terms-have ps t c =
    let m = Contains-flat_map_from (λ p. list_of (ground_term p)) ps t c in
    subst (λ p. Contains ps p) (pattern_again m.0 t (list_of-has (ground_term m.0) t m.2)) m.1

pub ground_terms-ascend : (ps : List Pattern) → IsAscending PatternBefore ps → IsAscending TreeBefore (ground_terms ps)
ground_terms-ascend ps asc =
    IsAscending-flat_map PatternBefore TreeBefore (λ p. list_of (ground_term p)) ps asc (λ p. list_of-ascends (ground_term p))
    (λ p q before s t here there.
    let left = pattern_again p s (list_of-has (ground_term p) s here) in
    let right = pattern_again q t (list_of-has (ground_term q) t there) in
    term_before s t (subst (λ x. PatternBefore (ground_pattern s) x) right (subst (λ x. PatternBefore x q) left before)))
