-- The columns of an atom's arguments: at the root and at a child, and how many children there are.
use Rattle.std.specs.Prelude.{◌≡◌, ℕ, zero, suc, max, [], ◌∷◌, length, Option, None, Some, get_or, refl}
use Rattle.std.proofs.Common.{sym, ◌∙◌, arith, inl, inr}
use Rattle.fort_theory.specs.Trees.{Tree, Node}
use Rattle.fort_theory.specs.Signatures.{Signature}
use Rattle.fort_tables.specs.Tuples.{Tuple, root, kid, kid_count, AreGroundColumns}
use Rattle.fort_tables.specs.OneColumn.{column_root, column_kid_count, column_kid}
use Rattle.fort_alike.specs.ListedAtoms.{AreArguments}
use Rattle.fort_alike.proofs.Kids.{GroundAt}

-- columns of a root, of a child
pub column_root-root : (t : Tuple) (i : ℕ) → get_or (root t) i None ≡ column_root (get_or t i None)
column_root-root [] i = refl
column_root-root (None ∷ t) zero = refl
column_root-root (None ∷ t) (suc i) = column_root-root t i
column_root-root (Some (Node f ts) ∷ t) zero = refl
column_root-root (Some (Node f ts) ∷ t) (suc i) = column_root-root t i

pub column_kid-kid : (t : Tuple) (i j : ℕ) → get_or (kid t j) i None ≡ column_kid (get_or t i None) j
column_kid-kid [] i j = refl
column_kid-kid (None ∷ t) zero j = refl
column_kid-kid (None ∷ t) (suc i) j = column_kid-kid t i j
column_kid-kid (Some (Node f ts) ∷ t) zero j = refl
column_kid-kid (Some (Node f ts) ∷ t) (suc i) j = column_kid-kid t i j

pub GroundAt-column : (sig : Signature) (t : Tuple) (i : ℕ) → AreGroundColumns sig t → GroundAt sig (get_or t i None)
GroundAt-column sig [] i g = tt
GroundAt-column sig (None ∷ t) zero g = tt
GroundAt-column sig (None ∷ t) (suc i) g = GroundAt-column sig t i g
GroundAt-column sig (Some (Node f ts) ∷ t) zero g = g.0
GroundAt-column sig (Some (Node f ts) ∷ t) (suc i) g = GroundAt-column sig t i g.1

-- as many children as the larger argument has
kid_count-cons : (x : Option Tree) (t : Tuple) → kid_count (x ∷ t) ≡ max (column_kid_count x) (kid_count t)
kid_count-cons None t = omega arith
kid_count-cons (Some (Node f ts)) t = refl

kid_count-one : (t : Tuple) → length t ≡ 1 → kid_count t ≡ max (column_kid_count (get_or t 0 None)) (column_kid_count (get_or t 0 None))
kid_count-one [] h = absurd (omega arith)
kid_count-one (x ∷ []) h = omega (arith, kid_count-cons x [])
kid_count-one (x ∷ y ∷ t) h = absurd (omega arith)

kid_count-two : (t : Tuple) → length t ≡ 2 → kid_count t ≡ max (column_kid_count (get_or t 0 None)) (column_kid_count (get_or t 1 None))
kid_count-two [] h = absurd (omega arith)
kid_count-two (x ∷ []) h = absurd (omega arith)
kid_count-two (x ∷ y ∷ []) h = omega (arith, kid_count-cons x (y ∷ []), kid_count-cons y [])
kid_count-two (x ∷ y ∷ z ∷ t) h = absurd (omega arith)

pub kid_count-arguments : (t : Tuple) (i j : ℕ) → AreArguments (length t) i j
    → kid_count t ≡ max (column_kid_count (get_or t i None)) (column_kid_count (get_or t j None))
kid_count-arguments t i j (inl w) = rw (w.1, w.2) (kid_count-one t w.0)
kid_count-arguments t i j (inr (inl w)) = rw (w.1, w.2) (kid_count-two t w.0)
kid_count-arguments t i j (inr (inr w)) = rw (w.1, w.2) (let e = kid_count-two t w.0 in omega arith)

pub AreArguments-one : (columns i j : ℕ) → AreArguments columns i j → columns ≡ 1 → i ≡ j
AreArguments-one columns i j (inl w) h = w.1 ∙ sym w.2
AreArguments-one columns i j (inr (inl w)) h = absurd (let e = w.0 in omega arith)
AreArguments-one columns i j (inr (inr w)) h = absurd (let e = w.0 in omega arith)
