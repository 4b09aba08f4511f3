-- Law: the order of core formulas is total and agrees with their equality, and decides two operands by the first of them that differs.
use Rattle.std.specs.Prelude.{◌≡◌, ℕ, List, [], ◌∷◌, ◌++◌, refl}
use Rattle.std.specs.declared.cmp.Ordering.{Ordering}
use Rattle.std.specs.declared.cmp.Ordering.TheVariants.{Less, Equal, Greater}
use Rattle.std.specs.Ordering.{nat_cmp, ordering_then, on, eq_by_cmp, as_partial_cmp}
use Rattle.std.specs.Cmp.{IsPartialOrder, IsTotalOrder, partial_order_from_agreeing_total, Equal-is}
use Rattle.std.specs.Cmp.Lexicographic.{slice_cmp, lists_total, lists_ties, texts_ties}
use Rattle.std.proofs.Common.{ap, sym, ◌∙◌, append-nil}
use Rattle.std.proofs.lemmas.Cmp.{on_total, nat_list_cmp_total}
use lib.Pointwise.{bytes_decides}
use Rattle.fort_theory.specs.Trees.{Tree}
use Rattle.fort_terms.specs.TermKeys.{tree_order}
use Rattle.fort_terms.specs.TermKeyLaws.{tree_order-spelled}
use Rattle.fort_theory.specs.Cores as theory
use Rattle.fort_formulas.specs.declared.core_formula.Core.{Core}
use Rattle.fort_formulas.specs.CoreCode.{Mark, spelled}
use Rattle.fort_formulas.specs.CoreKeys.{core_spelled, same_marks, marks_order}
use Rattle.fort_formulas.specs.CoreKeyLaws.{same_first}

marks_total : IsTotalOrder marks_order
marks_total = lists_total nat_list_cmp_total

marks_ties : (ms ns : List Mark) → same_marks ms ns ≡ eq_by_cmp marks_order ms ns
marks_ties = lists_ties (slice_cmp nat_cmp) texts_ties

pub arm_order-total : IsTotalOrder (on spelled marks_order)
arm_order-total = on_total spelled marks_total

pub Core_order-total : IsTotalOrder (on core_spelled marks_order)
Core_order-total = on_total core_spelled marks_total

-- equal exactly where the order says so
pub arm_eq-ties : (f g : theory.Core) → on spelled same_marks f g ≡ eq_by_cmp (on spelled marks_order) f g
arm_eq-ties f g = marks_ties (spelled f) (spelled g)

pub Core_eq-ties : (c d : Core) → on core_spelled same_marks c d ≡ eq_by_cmp (on core_spelled marks_order) c d
Core_eq-ties c d = marks_ties (core_spelled c) (core_spelled d)

pub arm_order-partial : IsPartialOrder (on spelled same_marks) (as_partial_cmp (on spelled marks_order))
arm_order-partial = partial_order_from_agreeing_total (on spelled marks_order) arm_order-total (λ f g. refl) arm_eq-ties

pub Core_order-partial : IsPartialOrder (on core_spelled same_marks) (as_partial_cmp (on core_spelled marks_order))
Core_order-partial = partial_order_from_agreeing_total (on core_spelled marks_order) Core_order-total (λ c d. refl) Core_eq-ties

-- ---- a variable and its term

then-Equal : (o : Ordering) → o ≡ ordering_then o Equal
then-Equal Less = refl
then-Equal Equal = refl
then-Equal Greater = refl

pub Is_order-terms : (x y : ℕ) (s t : Tree)
    → ordering_then (nat_cmp x y) (tree_order s t) ≡ marks_order (spelled (theory.Leaf (theory.IsTerm x s))) (spelled (theory.Leaf (theory.IsTerm y t)))
Is_order-terms x y s t = ap (ordering_then (nat_cmp x y)) (tree_order-spelled s t) ∙ then-Equal (ordering_then (nat_cmp x y) _)

-- ---- two operands

same_mark : (m n : Mark) → slice_cmp nat_cmp m n ≡ Equal → m ≡ n
same_mark m n e = (bytes_decides m n).0 (texts_ties m n ∙ (Equal-is (slice_cmp nat_cmp m n)).1 e)

-- whatever follows them, these two decide first, where neither begins the other with more behind it
decide_first : (ms ns us vs : List Mark)
    → ((ps qs : List Mark) → ms ++ ps ≡ ns ++ qs → ms ≡ ns)
    → marks_order (ms ++ us) (ns ++ vs) ≡ ordering_then (marks_order ms ns) (marks_order us vs)
decide_first [] [] us vs h = refl
decide_first [] (n ∷ ns) us vs h = let e : [] ≡ n ∷ ns = h (n ∷ ns) [] (sym (append-nil (n ∷ ns))) in cc
decide_first (m ∷ ms) [] us vs h = let e : m ∷ ms ≡ [] = h [] (m ∷ ms) (append-nil (m ∷ ms)) in cc
decide_first (m ∷ ms) (n ∷ ns) us vs h =
    by (slice_cmp nat_cmp m n) refl (λ same. decide_first ms ns us vs (λ ps qs k. let whole : m ∷ ms ≡ n ∷ ns = h ps qs cc in cc))
  where
    by : (o : Ordering) → o ≡ slice_cmp nat_cmp m n
        → (m ≡ n → marks_order (ms ++ us) (ns ++ vs) ≡ ordering_then (marks_order ms ns) (marks_order us vs))
        → ordering_then (slice_cmp nat_cmp m n) (marks_order (ms ++ us) (ns ++ vs))
        ≡ ordering_then (ordering_then (slice_cmp nat_cmp m n) (marks_order ms ns)) (marks_order us vs)
    by Less e rest = rw (← e) refl
    by Greater e rest = rw (← e) refl
    by Equal e rest = rw (← e) (rest (same_mark m n (sym e)))

two_order : (f h : theory.Core) (us vs : List Mark)
    → marks_order (spelled f ++ us) (spelled h ++ vs) ≡ ordering_then (marks_order (spelled f) (spelled h)) (marks_order us vs)
two_order f h us vs = decide_first (spelled f) (spelled h) us vs (λ ps qs e. ap spelled (same_first f h ps qs e))

-- where the first operands are equal, the second ones decide
pub two_order-Equal : (f g h k : theory.Core) → marks_order (spelled f) (spelled h) ≡ Equal
    → marks_order (spelled g) (spelled k) ≡ marks_order (spelled f ++ spelled g) (spelled h ++ spelled k)
two_order-Equal f g h k e =
    sym (two_order f h (spelled g) (spelled k) ∙ ap (λ o. ordering_then o (marks_order (spelled g) (spelled k))) e)

-- and else the first ones
pub two_order-unequal : (f g h k : theory.Core) → (marks_order (spelled f) (spelled h) ≡ Equal → ⊥)
    → marks_order (spelled f) (spelled h) ≡ marks_order (spelled f ++ spelled g) (spelled h ++ spelled k)
two_order-unequal f g h k n = by (marks_order (spelled f) (spelled h)) n ∙ sym (two_order f h (spelled g) (spelled k))
  where
    by : (o : Ordering) → (o ≡ Equal → ⊥) → o ≡ ordering_then o (marks_order (spelled g) (spelled k))
    by Less m = refl
    by Equal m = absurd (m refl)
    by Greater m = refl
