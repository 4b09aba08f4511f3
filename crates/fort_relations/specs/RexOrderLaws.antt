-- Law: the order of expressions is total and agrees with their equality, and decides two operands by the first of them that differs.
use Rattle.std.specs.Prelude.{◌≡◌, ℕ, List, [], ◌∷◌, ◌++◌, refl}
use Rattle.std.specs.declared.cmp.Ordering.{Ordering}
use Rattle.std.specs.declared.cmp.Ordering.TheVariants.{Less, Equal, Greater}
use Rattle.std.specs.Ordering.{nat_cmp, ordering_then, on, eq_by_cmp, as_partial_cmp}
use Rattle.std.specs.Cmp.{IsPartialOrder, IsTotalOrder, partial_order_from_agreeing_total}
use Rattle.std.specs.Cmp.Lexicographic.{texts_ties}
use Rattle.std.proofs.Common.{ap, sym, ◌∙◌, append-nil, arith}
use Rattle.std.proofs.lemmas.Bool.Decides.{nat_tests}
use Rattle.std.proofs.lemmas.Cmp.{on_total, nat_list_cmp_total}
use Rattle.fort_theory.specs.Expressions as theory
use Rattle.fort_relations.specs.declared.rex.Rex.{Rex}
use Rattle.fort_relations.specs.ExpressionCode.{spelled}
use Rattle.fort_relations.specs.RexKeys.{rex_spelled, same_numbers, numbers_order}
use Rattle.fort_relations.specs.RexKeyLaws.{same_first}

pub arm_order-total : IsTotalOrder (on spelled numbers_order)
arm_order-total = on_total spelled nat_list_cmp_total

pub Rex_order-total : IsTotalOrder (on rex_spelled numbers_order)
Rex_order-total = on_total rex_spelled nat_list_cmp_total

-- equal exactly where the order says so
pub arm_eq-ties : (e d : theory.Expression) → on spelled same_numbers e d ≡ eq_by_cmp (on spelled numbers_order) e d
arm_eq-ties e d = texts_ties (spelled e) (spelled d)

pub Rex_eq-ties : (r q : Rex) → on rex_spelled same_numbers r q ≡ eq_by_cmp (on rex_spelled numbers_order) r q
Rex_eq-ties r q = texts_ties (rex_spelled r) (rex_spelled q)

pub arm_order-partial : IsPartialOrder (on spelled same_numbers) (as_partial_cmp (on spelled numbers_order))
arm_order-partial = partial_order_from_agreeing_total (on spelled numbers_order) arm_order-total (λ e d. refl) arm_eq-ties

pub Rex_order-partial : IsPartialOrder (on rex_spelled same_numbers) (as_partial_cmp (on rex_spelled numbers_order))
Rex_order-partial = partial_order_from_agreeing_total (on rex_spelled numbers_order) Rex_order-total (λ r q. refl) Rex_eq-ties

-- ---- two operands

same_number : (m n : ℕ) → nat_cmp m n ≡ Equal → m ≡ n
same_number m n e = grind (arith, nat_tests, e)

-- whatever follows them, these two decide first, where neither begins the other with more behind it
decide_first : (ms ns us vs : List ℕ)
    → ((ps qs : List ℕ) → ms ++ ps ≡ ns ++ qs → ms ≡ ns)
    → numbers_order (ms ++ us) (ns ++ vs) ≡ ordering_then (numbers_order ms ns) (numbers_order us vs)
decide_first [] [] us vs h = refl
decide_first [] (n ∷ ns) us vs h = let e : [] ≡ n ∷ ns = h (n ∷ ns) [] (sym (append-nil (n ∷ ns))) in cc
decide_first (m ∷ ms) [] us vs h = let e : m ∷ ms ≡ [] = h [] (m ∷ ms) (append-nil (m ∷ ms)) in cc
decide_first (m ∷ ms) (n ∷ ns) us vs h =
    by (nat_cmp m n) refl (λ same. decide_first ms ns us vs (λ ps qs k. let whole : m ∷ ms ≡ n ∷ ns = h ps qs cc in cc))
  where
    by : (o : Ordering) → o ≡ nat_cmp m n
        → (m ≡ n → numbers_order (ms ++ us) (ns ++ vs) ≡ ordering_then (numbers_order ms ns) (numbers_order us vs))
        → ordering_then (nat_cmp m n) (numbers_order (ms ++ us) (ns ++ vs))
        ≡ ordering_then (ordering_then (nat_cmp m n) (numbers_order ms ns)) (numbers_order us vs)
    by Less e rest = rw (← e) refl
    by Greater e rest = rw (← e) refl
    by Equal e rest = rw (← e) (rest (same_number m n (sym e)))

two_order : (a c : theory.Expression) (us vs : List ℕ)
    → numbers_order (spelled a ++ us) (spelled c ++ vs) ≡ ordering_then (numbers_order (spelled a) (spelled c)) (numbers_order us vs)
two_order a c us vs = decide_first (spelled a) (spelled c) us vs (λ ps qs e. ap spelled (same_first a c ps qs e))

-- where the first operands are equal, the second ones decide
pub two_order-Equal : (a b c d : theory.Expression) → numbers_order (spelled a) (spelled c) ≡ Equal
    → numbers_order (spelled b) (spelled d) ≡ numbers_order (spelled a ++ spelled b) (spelled c ++ spelled d)
two_order-Equal a b c d e =
    sym (two_order a c (spelled b) (spelled d) ∙ ap (λ o. ordering_then o (numbers_order (spelled b) (spelled d))) e)

-- and else the first ones
pub two_order-unequal : (a b c d : theory.Expression) → (numbers_order (spelled a) (spelled c) ≡ Equal → ⊥)
    → numbers_order (spelled a) (spelled c) ≡ numbers_order (spelled a ++ spelled b) (spelled c ++ spelled d)
two_order-unequal a b c d n = by (numbers_order (spelled a) (spelled c)) n ∙ sym (two_order a c (spelled b) (spelled d))
  where
    by : (o : Ordering) → (o ≡ Equal → ⊥) → o ≡ ordering_then o (numbers_order (spelled b) (spelled d))
    by Less m = refl
    by Equal m = absurd (m refl)
    by Greater m = refl
