-- A formula about two arguments is made by their numbers and then bound.
use Rattle.std.proofs.Common.{◌≡◌, ℕ, ◌+◌, List, refl, ap, ◌∙◌, arith}
use Rattle.fort_theory.specs.Trees.{Tree}
use Rattle.fort_logic.specs.Formulas.{Name, Argument, Var, Ground}
use Rattle.fort_theory.specs.Cores.{Core}
use Rattle.fort_logic.specs.Translation.{number_in, about, about_both}
use Rattle.fort_formulas.specs.ArgumentNumbers.{number_of, bound}
use Rattle.fort_formulas.specs.NumbersNeeded.{argument_numbers}

module _ (terms : List Tree) (scope : List Name) (n : ℕ) where
  about-bound : (m : ℕ) (a : Argument) (make : ℕ → ℕ → Core)
      → bound terms (number_of scope m a) a (make (m + argument_numbers a) (number_of scope m a)) ≡ about terms scope m a make
  about-bound m (Var x) make = let same : m + 0 ≡ m = omega arith in ap (λ k. make k (number_in scope x)) same
  about-bound m (Ground k) make = refl

  about_both-bound : (a b : Argument) (make : ℕ → ℕ → ℕ → Core)
      → let m = n + argument_numbers a in
      let x = number_of scope n a in
      let y = number_of scope m b in bound terms x a (bound terms y b (make (m + argument_numbers b) x y)) ≡ about_both terms scope n a b make
  about_both-bound a b make =
      ap (bound terms (number_of scope n a) a) (about-bound (n + argument_numbers a) b (λ k y. make k (number_of scope n a) y))
      ∙ about-bound n a (λ m x. about terms scope m b (λ k y. make k x y))

  -- the numbers, the formula by them, and the formula below each binder
  pub about_both-made : (a b : Argument) (make : ℕ → ℕ → ℕ → Core) (used x y k : ℕ) (made inner whole : Core)
      → used ≡ argument_numbers a → x ≡ number_of scope (n + 0) a → y ≡ number_of scope (n + used) b
      → k ≡ (n + argument_numbers a) + argument_numbers b → made ≡ make k x y → inner ≡ bound terms y b made → whole ≡ bound terms x a inner
      → whole ≡ about_both terms scope n a b make
  about_both-made a b make used x y k made inner whole few first second behind is below above =
      let none : n + 0 ≡ n = omega arith in
      rw (above, below, is, first, second, behind, few, none) (about_both-bound a b make)
