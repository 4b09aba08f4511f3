-- Law: the laws of the equality, the order and the hash of patterns.
use Rattle.std.specs.Prelude.{◌≡◌, ◌↔◌, ℕ, suc, Bool, true, nat_eq, ◌&&◌, List, [], ◌∷◌, ◌++◌, length, refl}
use Rattle.std.specs.Bool.{Decides, one_answer}
use Rattle.std.specs.Hash as fed
use Rattle.std.specs.List.{flat_map}
use Rattle.std.specs.declared.cmp.Ordering.TheVariants.{Less, Equal, Greater}
use Rattle.std.specs.Ordering.{nat_cmp, ordering_then, on, eq_by_cmp, as_partial_cmp, is_eq}
use Rattle.std.specs.Cmp.{IsPartialEquivalence, IsEquivalence, IsPartialOrder, IsTotalOrder, partial_equiv_from_equiv, partial_order_from_agreeing_total, Equal-is, decided, first_so, second_so}
use Rattle.std.specs.Cmp.Lexicographic.{slice_cmp, texts_ties}
use Rattle.std.proofs.Common.{ap, sym, ◌∙◌, subst, eq-eqb, eqb-true, arith}
use Rattle.std.proofs.lemmas.Bool.Decides.{nat_tests}
use Rattle.std.proofs.lemmas.Cmp.{on_total, nat_list_cmp_total}
use lib.Pointwise.{pointwise, bytes_decides}
use Rattle.fort_theory.specs.Patterns as theory
use Rattle.fort_theory.specs.Patterns.{At, NoPattern, MorePatterns, pattern_count}
use Rattle.fort_theory.specs.PatternCode.{spelled, all_spelled, first_one, first_many, read_back, pattern_again, patterns_again}
use Rattle.fort_terms.specs.declared.sym.Sym.{Sym}
use Rattle.fort_terms.specs.declared.pattern.Pattern.{Pattern}
use Rattle.fort_terms.specs.declared.pattern.Pattern.TheVariants.{Any, App}
use Rattle.fort_terms.specs.declared.pattern.Patterns.{Patterns}
use Rattle.fort_terms.specs.PatternView.{as_pattern, as_patterns}
use Rattle.fort_terms.specs.Spellings.{DecideFirst, DecideFirst-nil, DecideFirst-cons, DecideFirst-less, DecideFirst-greater, DecideFirst-append, nat_cmp-suc}
use Rattle.fort_terms.specs.PatternKeys.{pattern_eq, patterns_eq, pattern_order, patterns_order, pattern_hash, all_pattern_hashes, patterns_hash}

-- ---- the definitions' patterns

-- equal exactly where the patterns are equal
mutual
  same_from_pattern_eq : (p q : theory.Pattern) → pattern_eq p q ≡ true → p ≡ q
  same_from_pattern_eq theory.Any theory.Any e = refl
  same_from_pattern_eq theory.Any (At g qs) e = cc
  same_from_pattern_eq (At f ps) theory.Any e = cc
  same_from_pattern_eq (At f ps) (At g qs) e =
      let symbols = eqb-true f g (first_so (nat_eq f g) (patterns_eq ps qs) e) in
      let args = same_from_patterns_eq ps qs (second_so (nat_eq f g) (patterns_eq ps qs) e) in cc

  same_from_patterns_eq : (ps qs : theory.Patterns) → patterns_eq ps qs ≡ true → ps ≡ qs
  same_from_patterns_eq NoPattern NoPattern e = refl
  same_from_patterns_eq NoPattern (MorePatterns q qs) e = cc
  same_from_patterns_eq (MorePatterns p ps) NoPattern e = cc
  same_from_patterns_eq (MorePatterns p ps) (MorePatterns q qs) e =
      let first = same_from_pattern_eq p q (first_so (pattern_eq p q) (patterns_eq ps qs) e) in
      let rest = same_from_patterns_eq ps qs (second_so (pattern_eq p q) (patterns_eq ps qs) e) in cc

mutual
  pattern_eq-itself : (p : theory.Pattern) → pattern_eq p p ≡ true
  pattern_eq-itself theory.Any = refl
  pattern_eq-itself (At f ps) = rw (eq-eqb f f refl) (patterns_eq-itself ps)

  patterns_eq-itself : (ps : theory.Patterns) → patterns_eq ps ps ≡ true
  patterns_eq-itself NoPattern = refl
  patterns_eq-itself (MorePatterns p ps) = rw (pattern_eq-itself p) (patterns_eq-itself ps)

pattern_eq-Decides : (p q : theory.Pattern) → Decides (pattern_eq p q) (p ≡ q)
pattern_eq-Decides p q = (same_from_pattern_eq p q, λ e. subst (λ r. pattern_eq p r ≡ true) e (pattern_eq-itself p))

patterns_eq-Decides : (ps qs : theory.Patterns) → Decides (patterns_eq ps qs) (ps ≡ qs)
patterns_eq-Decides ps qs = (same_from_patterns_eq ps qs, λ e. subst (λ rs. patterns_eq ps rs ≡ true) e (patterns_eq-itself ps))

pub patterns_eq-equiv : IsEquivalence patterns_eq
patterns_eq-equiv = decided patterns_eq patterns_eq-Decides

pub patterns_eq-partial_equiv : IsPartialEquivalence patterns_eq
patterns_eq-partial_equiv = partial_equiv_from_equiv patterns_eq-equiv

Any-before : (f : ℕ) → nat_cmp 2 (suc (suc (suc f))) ≡ Less
Any-before f = grind (arith, nat_tests)

Any-behind : (f : ℕ) → nat_cmp (suc (suc (suc f))) 2 ≡ Greater
Any-behind f = grind (arith, nat_tests)

spelled-injective : (p q : theory.Pattern) → spelled p ≡ spelled q → p ≡ q
spelled-injective p q e = sym (pattern_again p) ∙ (ap (λ xs. first_one (read_back xs)) e ∙ pattern_again q)

all_spelled-injective : (ps qs : theory.Patterns) → all_spelled ps ≡ all_spelled qs → ps ≡ qs
all_spelled-injective ps qs e = sym (patterns_again ps) ∙ (ap (λ xs. first_many (read_back xs)) e ∙ patterns_again qs)

-- no spelling of a pattern begins another
mutual
  spelled-DecideFirst : (p q : theory.Pattern) → DecideFirst (spelled p) (spelled q)
  spelled-DecideFirst theory.Any theory.Any = DecideFirst-cons 2 2 [] [] DecideFirst-nil
  spelled-DecideFirst theory.Any (At g qs) = DecideFirst-less 2 (suc (suc (suc g))) [] (all_spelled qs) (Any-before g)
  spelled-DecideFirst (At f ps) theory.Any = DecideFirst-greater (suc (suc (suc f))) 2 (all_spelled ps) [] (Any-behind f)
  spelled-DecideFirst (At f ps) (At g qs) =
      DecideFirst-cons (suc (suc (suc f))) (suc (suc (suc g))) (all_spelled ps) (all_spelled qs) (all_spelled-DecideFirst ps qs)

  all_spelled-DecideFirst : (ps qs : theory.Patterns) → DecideFirst (all_spelled ps) (all_spelled qs)
  all_spelled-DecideFirst NoPattern NoPattern = DecideFirst-cons 0 0 [] [] DecideFirst-nil
  all_spelled-DecideFirst NoPattern (MorePatterns q qs) = DecideFirst-less 0 1 [] (spelled q ++ all_spelled qs) refl
  all_spelled-DecideFirst (MorePatterns p ps) NoPattern = DecideFirst-greater 1 0 (spelled p ++ all_spelled ps) [] refl
  all_spelled-DecideFirst (MorePatterns p ps) (MorePatterns q qs) =
      DecideFirst-cons 1 1 (spelled p ++ all_spelled ps) (spelled q ++ all_spelled qs)
      (DecideFirst-append (spelled p) (spelled q) (all_spelled ps) (all_spelled qs) (spelled-DecideFirst p q) (all_spelled-DecideFirst ps qs))

-- the order of patterns is that of their spellings
mutual
  pattern_order-spelled : (p q : theory.Pattern) → pattern_order p q ≡ slice_cmp nat_cmp (spelled p) (spelled q)
  pattern_order-spelled theory.Any theory.Any = refl
  pattern_order-spelled theory.Any (At g qs) = ap (λ o. ordering_then o (slice_cmp nat_cmp [] (all_spelled qs))) (sym (Any-before g))
  pattern_order-spelled (At f ps) theory.Any = ap (λ o. ordering_then o (slice_cmp nat_cmp (all_spelled ps) [])) (sym (Any-behind f))
  pattern_order-spelled (At f ps) (At g qs) =
      ap (ordering_then (nat_cmp f g)) (patterns_order-spelled ps qs)
      ∙ ap (λ o. ordering_then o (slice_cmp nat_cmp (all_spelled ps) (all_spelled qs))) (nat_cmp-suc f g ∙ (nat_cmp-suc (suc f) (suc g) ∙ nat_cmp-suc (suc (suc f)) (suc (suc g))))

  patterns_order-spelled : (ps qs : theory.Patterns) → patterns_order ps qs ≡ slice_cmp nat_cmp (all_spelled ps) (all_spelled qs)
  patterns_order-spelled NoPattern NoPattern = refl
  patterns_order-spelled NoPattern (MorePatterns q qs) = refl
  patterns_order-spelled (MorePatterns p ps) NoPattern = refl
  patterns_order-spelled (MorePatterns p ps) (MorePatterns q qs) =
      ap (λ o. ordering_then o (patterns_order ps qs)) (pattern_order-spelled p q)
      ∙ (ap (ordering_then (slice_cmp nat_cmp (spelled p) (spelled q))) (patterns_order-spelled ps qs)
      ∙ sym ((spelled-DecideFirst p q).decide (all_spelled ps) (all_spelled qs)))

pattern_order-total : IsTotalOrder pattern_order
pattern_order-total = subst IsTotalOrder (λ i p q. sym (pattern_order-spelled p q) i) (on_total spelled nat_list_cmp_total)

pub patterns_order-total : IsTotalOrder patterns_order
patterns_order-total = subst IsTotalOrder (λ i ps qs. sym (patterns_order-spelled ps qs) i) (on_total all_spelled nat_list_cmp_total)

-- the order calls equal exactly what is equal
pattern_order-Decides : (p q : theory.Pattern) → Decides (eq_by_cmp pattern_order p q) (p ≡ q)
pattern_order-Decides p q =
    let test : eq_by_cmp pattern_order p q ≡ pointwise nat_eq (spelled p) (spelled q) =
    ap is_eq (pattern_order-spelled p q) ∙ sym (texts_ties (spelled p) (spelled q)) in
    let same = bytes_decides (spelled p) (spelled q) in
    (λ e. spelled-injective p q (same.0 (sym test ∙ e)), λ e. test ∙ same.1 (ap spelled e))

patterns_order-Decides : (ps qs : theory.Patterns) → Decides (eq_by_cmp patterns_order ps qs) (ps ≡ qs)
patterns_order-Decides ps qs =
    let test : eq_by_cmp patterns_order ps qs ≡ pointwise nat_eq (all_spelled ps) (all_spelled qs) =
    ap is_eq (patterns_order-spelled ps qs) ∙ sym (texts_ties (all_spelled ps) (all_spelled qs)) in
    let same = bytes_decides (all_spelled ps) (all_spelled qs) in
    (λ e. all_spelled-injective ps qs (same.0 (sym test ∙ e)), λ e. test ∙ same.1 (ap all_spelled e))

pattern_eq-ties : (p q : theory.Pattern) → pattern_eq p q ≡ eq_by_cmp pattern_order p q
pattern_eq-ties p q = one_answer (pattern_eq p q) (eq_by_cmp pattern_order p q) (pattern_eq-Decides p q) (pattern_order-Decides p q)

pub patterns_eq-ties : (ps qs : theory.Patterns) → patterns_eq ps qs ≡ eq_by_cmp patterns_order ps qs
patterns_eq-ties ps qs = one_answer (patterns_eq ps qs) (eq_by_cmp patterns_order ps qs) (patterns_eq-Decides ps qs) (patterns_order-Decides ps qs)

pub patterns_order-partial : IsPartialOrder patterns_eq (as_partial_cmp patterns_order)
patterns_order-partial = partial_order_from_agreeing_total patterns_order patterns_order-total (λ ps qs. refl) patterns_eq-ties

pub pattern_order-Equal : (p q : theory.Pattern) → pattern_order p q ≡ Equal ↔ p ≡ q
pattern_order-Equal p q =
    let equal = Equal-is (pattern_order p q) in
    let same = pattern_order-Decides p q in (λ e. same.0 (equal.1 e), λ e. equal.0 (same.1 e))

-- equal lists of patterns feed a hasher alike
pub patterns_hash-respects_eq : (ps qs : theory.Patterns) → patterns_eq ps qs ≡ true → patterns_hash ps ≡ patterns_hash qs
patterns_hash-respects_eq ps qs e = ap patterns_hash ((patterns_eq-Decides ps qs).0 e)

-- ---- the program's patterns

as_pattern-injective : (p q : Pattern) → as_pattern p ≡ as_pattern q → p ≡ q
as_pattern-injective Any Any e = refl
as_pattern-injective Any (App g qs) e = cc
as_pattern-injective (App f ps) Any e = cc
as_pattern-injective (App f ps) (App g qs) e =
    let same_symbol : f.0 ≡ g.0 = cc in
    let same_args : ps ≡ qs = cc in
    ap (λ n. let h : Sym = record { 0 = n } in App h ps) same_symbol ∙ ap (λ (rs : Patterns). App g rs) same_args

-- equal exactly where the patterns are equal
Pattern_eq-Decides : (p q : Pattern) → Decides (on as_pattern pattern_eq p q) (p ≡ q)
Pattern_eq-Decides p q =
    let same = pattern_eq-Decides (as_pattern p) (as_pattern q) in (λ e. as_pattern-injective p q (same.0 e), λ e. same.1 (ap as_pattern e))

pub Pattern_eq-equiv : IsEquivalence (on as_pattern pattern_eq)
Pattern_eq-equiv = decided (on as_pattern pattern_eq) Pattern_eq-Decides

pub Pattern_eq-partial_equiv : IsPartialEquivalence (on as_pattern pattern_eq)
Pattern_eq-partial_equiv = partial_equiv_from_equiv Pattern_eq-equiv

pub Pattern_order-total : IsTotalOrder (on as_pattern pattern_order)
Pattern_order-total = on_total as_pattern pattern_order-total

pub Pattern_eq-ties : (p q : Pattern) → on as_pattern pattern_eq p q ≡ eq_by_cmp (on as_pattern pattern_order) p q
Pattern_eq-ties p q = pattern_eq-ties (as_pattern p) (as_pattern q)

pub Pattern_order-partial : IsPartialOrder (on as_pattern pattern_eq) (as_partial_cmp (on as_pattern pattern_order))
Pattern_order-partial = partial_order_from_agreeing_total (on as_pattern pattern_order) Pattern_order-total (λ p q. refl) Pattern_eq-ties

-- equal patterns feed a hasher alike
pub Pattern_hash-respects_eq : (p q : Pattern) → on as_pattern pattern_eq p q ≡ true → pattern_hash (as_pattern p) ≡ pattern_hash (as_pattern q)
Pattern_hash-respects_eq p q e = ap (λ r. pattern_hash (as_pattern r)) ((Pattern_eq-Decides p q).0 e)

-- ---- lists of the program's patterns, as the definitions' lists

pub args_eq : (ps qs : List Pattern) → pointwise (on as_pattern pattern_eq) ps qs ≡ patterns_eq (as_patterns ps) (as_patterns qs)
args_eq [] [] = refl
args_eq [] (q ∷ qs) = refl
args_eq (p ∷ ps) [] = refl
args_eq (p ∷ ps) (q ∷ qs) = ap (λ (b : Bool). pattern_eq (as_pattern p) (as_pattern q) && b) (args_eq ps qs)

pub args_order : (ps qs : List Pattern) → slice_cmp (on as_pattern pattern_order) ps qs ≡ patterns_order (as_patterns ps) (as_patterns qs)
args_order [] [] = refl
args_order [] (q ∷ qs) = refl
args_order (p ∷ ps) [] = refl
args_order (p ∷ ps) (q ∷ qs) = ap (ordering_then (pattern_order (as_pattern p) (as_pattern q))) (args_order ps qs)

length-as_patterns : (ps : List Pattern) → length ps ≡ pattern_count (as_patterns ps)
length-as_patterns [] = refl
length-as_patterns (p ∷ ps) = ap suc (length-as_patterns ps)

flat_map-as_patterns : (ps : List Pattern) → flat_map (λ p. pattern_hash (as_pattern p)) ps ≡ all_pattern_hashes (as_patterns ps)
flat_map-as_patterns [] = refl
flat_map-as_patterns (p ∷ ps) = ap (λ xs. pattern_hash (as_pattern p) ++ xs) (flat_map-as_patterns ps)

pub args_hash : (ps : List Pattern) → fed.slice (λ p. pattern_hash (as_pattern p)) ps ≡ patterns_hash (as_patterns ps)
args_hash ps =
    ap (λ n. fed.usize n ++ flat_map (λ p. pattern_hash (as_pattern p)) ps) (length-as_patterns ps)
    ∙ ap (λ xs. fed.usize (pattern_count (as_patterns ps)) ++ xs) (flat_map-as_patterns ps)
