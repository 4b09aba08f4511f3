-- The indices of SN in a formula of two operands, a search for the first one over them, and an index that a system hasn't.
use Rattle.std.proofs.Common.{◌≡◌, ℕ, zero, suc, ◌<◌, List, ◌∷◌, [], ◌++◌, length, ◌⊎◌, inl, inr, refl, subst, sym, arith, Option, IfSome}
use Rattle.std.specs.Prelude.{All}
use Rattle.std.proofs.lemmas.List.Elements.{All-nil}
use Rattle.std.proofs.lemmas.Option.{IfSome_then}
use Rattle.fort_theory.specs.Sides.{at_index}
use Rattle.fort_theory.specs.Patterns.{PatternSystem}
use Rattle.fort_theory.specs.RightGround.{IsRightGroundPair, HasRightGroundPairsAt}
use Rattle.fort_logic.specs.Formulas as theory
use Rattle.fort_logic.specs.Terminations.{terminations, AreAll, IsFirstWithout}
use Rattle.fort_logic.proofs.TerminationMentions.{IsFirstWithout-left, IsFirstWithout-right}
use Rattle.fort_formulas.specs.declared.surface.Formula.{Formula}
use Rattle.fort_formulas.specs.declared.surface.Formula.TheVariants.{And, Or, Imp, Iff}
use Rattle.fort_formulas.specs.FormulaView.{as_formula}

pub terminations-two : (c : Formula) (f g : theory.Formula) → (c ≡ And f g) ⊎ ((c ≡ Or f g) ⊎ ((c ≡ Imp f g) ⊎ (c ≡ Iff f g)))
    → terminations (as_formula c) ≡ terminations f ++ terminations g
terminations-two c f g (inl e) = rw e refl
terminations-two c f g (inr (inl e)) = rw e refl
terminations-two c f g (inr (inr (inl e))) = rw e refl
terminations-two c f g (inr (inr (inr e))) = rw e refl

module _ (P : ℕ → Type 0) (xs ys : List ℕ) (found : Option ℕ) where
  pub first-left : IfSome found (IsFirstWithout P xs) → IfSome found (IsFirstWithout P (xs ++ ys))
  first-left h = IfSome_then found h (λ x first. IsFirstWithout-left P xs ys x first)

  pub first-right : AreAll P xs → IfSome found (IsFirstWithout P ys) → IfSome found (IsFirstWithout P (xs ++ ys))
  first-right none h = IfSome_then found h (λ x first. IsFirstWithout-right P xs ys x none first)

-- at an index that the lists haven't, there is nothing
at_index-past : {A : Type 0} (i : ℕ) (lists : List (List A)) → length lists < i → at_index i lists ≡ []
at_index-past zero lists h = refl
at_index-past (suc i) [] h = refl
at_index-past (suc zero) (xs ∷ lists) h = absurd (omega arith)
at_index-past (suc (suc i)) (xs ∷ lists) h = at_index-past (suc i) lists (omega arith)

pub right_ground-zero : (system : PatternSystem) (i : ℕ) → i ≡ 0 → HasRightGroundPairsAt system i
right_ground-zero system i e = subst (HasRightGroundPairsAt system) (sym e) (All-nil IsRightGroundPair)

pub right_ground-past : (system : PatternSystem) (i : ℕ) → length system.rules < i → HasRightGroundPairsAt system i
right_ground-past system i h = subst (λ pairs. All IsRightGroundPair pairs) (sym (at_index-past i system.rules h)) (All-nil IsRightGroundPair)
