-- A turn of each loop that makes a list of a family, and its end.
use Rattle.std.proofs.Common.{◌≡◌, true, nat_eq, eqb-true, ℕ, zero, suc, ◌+◌, ◌<◌, ◌≤◌, Option, Some, None, List, [], ◌∷◌, ◌++◌, map, length, get_or, refl, ap, sym, ◌∙◌, arith}
use Rattle.std.specs.Cmp.{first_so, second_so}
use Rattle.std.specs.Cmp.Lexicographic.{pointwise}
use Rattle.std.specs.Ordering.{on}
use Rattle.fort_theory.specs.Trees.{Tree, Node, trees}
use Rattle.fort_theory.specs.Signatures.{Signature, arity_of}
use Rattle.fort_theory.specs.Patterns as theory
use Rattle.fort_terms.specs.declared.pattern.Pattern.{Pattern}
use Rattle.fort_terms.specs.PatternKeys.{pattern_eq, patterns_eq}
use Rattle.fort_terms.specs.PatternView.{as_pattern, as_patterns, node_count, node_counts}
use Rattle.fort_synth.specs.FamilyLists.{argument_lists, applications_by, applications_before, if_both, node_if, ground_term, ground_kids}

node_count-at : (ps : List Pattern) (i : ℕ) (d : Pattern) → i < length ps → node_count (as_pattern (get_or ps i d)) ≤ node_counts (as_patterns ps)
node_count-at [] i d below = absurd (omega arith)
node_count-at (p ∷ ps) zero d below = omega arith
node_count-at (p ∷ ps) (suc i) d below = omega (arith, node_count-at ps i d (omega arith))

-- an argument has fewer nodes
pub argument_falls : (f : ℕ) (args : theory.Patterns) (ps : List Pattern) (i : ℕ) (p : Pattern) → as_patterns ps ≡ args → i < length ps → p ≡ get_or ps i p
    → node_count (as_pattern p) < node_count (theory.At f args)
argument_falls f args ps i p same below is =
    omega (arith, ap node_counts same, ap (λ q. node_count (as_pattern q)) is, node_count-at ps i p below)

none_behind : (o : Option Tree) → if_both o None ≡ None
none_behind None = refl
none_behind (Some t) = refl

none_at : (ps : List Pattern) (i : ℕ) (d : Pattern) → i < length ps → ground_term (as_pattern (get_or ps i d)) ≡ None → ground_kids (as_patterns ps) ≡ None
none_at [] i d below none = absurd (omega arith)
none_at (p ∷ ps) zero d below none = ap (λ o. if_both o (ground_kids (as_patterns ps))) none
none_at (p ∷ ps) (suc i) d below none =
    ap (if_both (ground_term (as_pattern p))) (none_at ps i d (omega arith) none) ∙ none_behind (ground_term (as_pattern p))

-- where an argument is no ground term, the whole is none
pub no_ground_term : (f : ℕ) (args : theory.Patterns) (ps : List Pattern) (i : ℕ) (p : Pattern) → as_patterns ps ≡ args → i < length ps → p ≡ get_or ps i p
    → None ≡ ground_term (as_pattern p) → None ≡ ground_term (theory.At f args)
no_ground_term f args ps i p same below is none =
    let here : ground_term (as_pattern (get_or ps i p)) ≡ None = ap (λ q. ground_term (as_pattern q)) (sym is) ∙ sym none in
    sym (ap (λ qs. node_if f (ground_kids qs)) (sym same) ∙ ap (node_if f) (none_at ps i p below here))

all_there : (ps : List Pattern) (ts : List Tree) → map (λ p. ground_term (as_pattern p)) ps ≡ map (λ t. Some t) ts → ground_kids (as_patterns ps) ≡ Some (trees ts)
all_there [] [] h = refl
all_there [] (t ∷ ts) h = cc
all_there (p ∷ ps) [] h = cc
all_there (p ∷ ps) (t ∷ ts) h =
    let first : ground_term (as_pattern p) ≡ Some t = cc in
    let rest : map (λ q. ground_term (as_pattern q)) ps ≡ map (λ u. Some u) ts = cc in
    (λ i. if_both (first i) (all_there ps ts rest i))

-- where each argument is a ground term, the whole is one
pub whole_ground_term : (f : ℕ) (args : theory.Patterns) (ps : List Pattern) (ts : List Tree) → as_patterns ps ≡ args
    → map (λ p. ground_term (as_pattern p)) ps ≡ map (λ t. Some t) ts → Some (Node f (trees ts)) ≡ ground_term (theory.At f args)
whole_ground_term f args ps ts same each = sym (ap (λ qs. node_if f (ground_kids qs)) (sym same) ∙ ap (node_if f) (all_there ps ts each))

-- the applications of one more symbol
pub applications_more : (signature : Signature) (items : List theory.Pattern) (n k : ℕ) → arity_of signature n ≡ Some k
    → applications_before signature items n ++ map (λ ps. theory.At n ps) (argument_lists k items) ≡ applications_before signature items (n + 1)
applications_more signature items n k arity =
    let next : suc n ≡ n + 1 = omega arith in
    ap (λ o. applications_before signature items n ++ applications_by items n o) (sym arity) ∙ ap (applications_before signature items) next

-- ---- the test for equal patterns

mutual
  same_from_pattern_eq : (p q : theory.Pattern) → pattern_eq p q ≡ true → p ≡ q
  same_from_pattern_eq theory.Any theory.Any e = refl
  same_from_pattern_eq theory.Any (theory.At g qs) e = cc
  same_from_pattern_eq (theory.At f ps) theory.Any e = cc
  same_from_pattern_eq (theory.At f ps) (theory.At g qs) e =
      let symbols = eqb-true f g (first_so (nat_eq f g) (patterns_eq ps qs) e) in
      let args = same_from_patterns_eq ps qs (second_so (nat_eq f g) (patterns_eq ps qs) e) in
      (λ i. theory.At (symbols i) (args i))

  same_from_patterns_eq : (ps qs : theory.Patterns) → patterns_eq ps qs ≡ true → ps ≡ qs
  same_from_patterns_eq theory.NoPattern theory.NoPattern e = refl
  same_from_patterns_eq theory.NoPattern (theory.MorePatterns q qs) e = cc
  same_from_patterns_eq (theory.MorePatterns p ps) theory.NoPattern e = cc
  same_from_patterns_eq (theory.MorePatterns p ps) (theory.MorePatterns q qs) e =
      let first = same_from_pattern_eq p q (first_so (pattern_eq p q) (patterns_eq ps qs) e) in
      let rest = same_from_patterns_eq ps qs (second_so (pattern_eq p q) (patterns_eq ps qs) e) in
      (λ i. theory.MorePatterns (first i) (rest i))

pub same_patterns : (ps qs : List Pattern) → pointwise (on as_pattern pattern_eq) ps qs ≡ true → map as_pattern ps ≡ map as_pattern qs
same_patterns [] [] e = refl
same_patterns [] (q ∷ qs) e = cc
same_patterns (p ∷ ps) [] e = cc
same_patterns (p ∷ ps) (q ∷ qs) e =
    let test = pattern_eq (as_pattern p) (as_pattern q) in
    let rest = pointwise (on as_pattern pattern_eq) ps qs in
    let first = same_from_pattern_eq (as_pattern p) (as_pattern q) (first_so test rest e) in
    (λ i. first i ∷ same_patterns ps qs (second_so test rest e) i)
