-- To believe: when a formula speaks of nothing but what the system of the input has, and of termination over right-ground rules alone, and which line refuses any other.
use Rattle.std.specs.Prelude.{◌≡◌, ℕ, List, ◌∷◌, ◌++◌, length}
use Rattle.fort_theory.specs.Trees.{Tree}
use Rattle.fort_theory.specs.Signatures.{Signature}
use Rattle.fort_theory.specs.Sides.{System}
use Rattle.fort_logic.specs.Formulas.{Formula}
use Rattle.fort_logic.specs.Mentions.{indices, AreWithin, IsFirstAbove}
use Rattle.fort_logic.specs.Terminations.{IsRightGroundFor, IsFirstNotRightGround}
use Rattle.fort_grammar.specs.GroundForms.{IsGroundText}
use Rattle.fort_formula_grammar.specs.FormulaText.{Ground, AreGroundsOf}
use Rattle.fort_answers.specs.Said.{AreTermsOf}
use Rattle.fort_answers.specs.Lines.{formula_index, formula_term, formula_sn}

-- g is the first in whose braces no ground term of the signature stands
pub record IsFirstWithoutTerm (signature : Signature) (grounds : List Ground) (g : Ground) : Type 0 where
  pub front : List Ground
  pub back : List Ground
  pub terms : List Tree
  pub split : grounds ≡ front ++ g ∷ back
  pub read : AreTermsOf signature front terms
  pub no_term : (t : Tree) → IsGroundText signature g.text t → ⊥

-- each index of the formula is one of the system's, these are the ground terms that are written in its text, and the rules of
-- each index of an SN are right-ground
pub record FitsSystem (text : List ℕ) (f : Formula) (system : System) (terms : List Tree) : Type 0 where
  pub within : AreWithin (length system.rules) (indices f)
  pub grounds : List Ground
  pub are_grounds : AreGroundsOf text grounds
  pub are_terms : AreTermsOf system.signature grounds terms
  pub right_ground : IsRightGroundFor system f

-- the cases in their order, each with what the earlier one leaves
pub data IsUnfit (text : List ℕ) (f : Formula) (system : System) (line : List ℕ) : Type 0 where
  NoIndex : (i : ℕ) → IsFirstAbove (length system.rules) (indices f) i → line ≡ formula_index i → IsUnfit text f system line
  NoTerm : AreWithin (length system.rules) (indices f) → (grounds : List Ground) → AreGroundsOf text grounds → (g : Ground)
      → IsFirstWithoutTerm system.signature grounds g → line ≡ formula_term g.at → IsUnfit text f system line
  NotRightGround : AreWithin (length system.rules) (indices f) → (grounds : List Ground) → AreGroundsOf text grounds → (terms : List Tree)
      → AreTermsOf system.signature grounds terms → (i : ℕ) → IsFirstNotRightGround system f i → line ≡ formula_sn i
      → IsUnfit text f system line
