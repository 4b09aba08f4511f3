-- A choice by whether two numbers are equal.
use Rattle.std.proofs.Common.{◌≡◌, ℕ, Bool, true, false, ◌==◌, if◌then◌else◌, refl, arith, eq-eqb}
use Rattle.std.proofs.lemmas.Bool.Decides.{nat_tests}

pub equal_from_test : (a b : ℕ) → (a == b) ≡ true → a ≡ b
equal_from_test a b h = grind (arith, nat_tests)

pub apart_from_test : (a b : ℕ) → (a == b) ≡ false → a ≡ b → ⊥
apart_from_test a b h e = grind (arith, nat_tests)

pub test_from_apart : (a b : ℕ) → (a ≡ b → ⊥) → (a == b) ≡ false
test_from_apart a b h = grind (arith, nat_tests)

pub if_equal : {X : Type 0} (a b : ℕ) (x y : X) → a ≡ b → (if a == b then x else y) ≡ x
if_equal a b x y h = rw (eq-eqb a b h) refl

pub if_apart : {X : Type 0} (a b : ℕ) (x y : X) → (a ≡ b → ⊥) → (if a == b then x else y) ≡ y
if_apart a b x y h = rw (test_from_apart a b h) refl

-- a choice between a truth and false is true only where the numbers are equal
pub equal_from_if : (a b : ℕ) (x : Bool) → (if a == b then x else false) ≡ true → a ≡ b
equal_from_if a b x h = both (a == b) refl
  where
    both : (t : Bool) → (a == b) ≡ t → a ≡ b
    both true e = equal_from_test a b e
    both false e = let none : false ≡ true = rw e at h in absurd cc
