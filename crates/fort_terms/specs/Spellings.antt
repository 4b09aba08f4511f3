-- Law: lists of numbers of which none begins another are compared part by part.
use Rattle.std.specs.Prelude.{◌≡◌, ℕ, suc, List, [], ◌∷◌, ◌++◌, refl}
use Rattle.std.specs.declared.cmp.Ordering.{Ordering}
use Rattle.std.specs.declared.cmp.Ordering.TheVariants.{Less, Equal, Greater}
use Rattle.std.specs.Ordering.{nat_cmp, ordering_then}
use Rattle.std.specs.Cmp.Lexicographic.{slice_cmp}
use Rattle.std.proofs.Common.{ap, ◌∙◌, append_assoc, arith}
use Rattle.std.proofs.lemmas.Bool.Decides.{nat_tests}

pub ordering_then-assoc : (o p q : Ordering) → ordering_then o (ordering_then p q) ≡ ordering_then (ordering_then o p) q
ordering_then-assoc Less p q = refl
ordering_then-assoc Equal p q = refl
ordering_then-assoc Greater p q = refl

-- whatever follows them, these two decide first
pub record DecideFirst (xs ys : List ℕ) : Type 0 where
  pub decide : (us vs : List ℕ) → slice_cmp nat_cmp (xs ++ us) (ys ++ vs) ≡ ordering_then (slice_cmp nat_cmp xs ys) (slice_cmp nat_cmp us vs)

pub DecideFirst-nil : DecideFirst [] []
DecideFirst-nil = record { decide = λ us vs. refl }

pub DecideFirst-cons : (x y : ℕ) (xs ys : List ℕ) → DecideFirst xs ys → DecideFirst (x ∷ xs) (y ∷ ys)
DecideFirst-cons x y xs ys h = record {
  decide = λ us vs. ap (ordering_then (nat_cmp x y)) (h.decide us vs) ∙ ordering_then-assoc (nat_cmp x y) (slice_cmp nat_cmp xs ys) (slice_cmp nat_cmp us vs);
}

pub DecideFirst-less : (x y : ℕ) (xs ys : List ℕ) → nat_cmp x y ≡ Less → DecideFirst (x ∷ xs) (y ∷ ys)
DecideFirst-less x y xs ys e = record { decide = λ us vs. rw e refl }

pub DecideFirst-greater : (x y : ℕ) (xs ys : List ℕ) → nat_cmp x y ≡ Greater → DecideFirst (x ∷ xs) (y ∷ ys)
DecideFirst-greater x y xs ys e = record { decide = λ us vs. rw e refl }

pub DecideFirst-append : (xs ys us vs : List ℕ) → DecideFirst xs ys → DecideFirst us vs → DecideFirst (xs ++ us) (ys ++ vs)
DecideFirst-append xs ys us vs h k = record {
  decide = λ ps qs. rw (append_assoc xs us ps, append_assoc ys vs qs, h.decide (us ++ ps) (vs ++ qs), k.decide ps qs, h.decide us vs)
      (ordering_then-assoc (slice_cmp nat_cmp xs ys) (slice_cmp nat_cmp us vs) (slice_cmp nat_cmp ps qs));
}

pub nat_cmp-suc : (x y : ℕ) → nat_cmp x y ≡ nat_cmp (suc x) (suc y)
nat_cmp-suc x y = grind (arith, nat_tests)
