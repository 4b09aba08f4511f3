-- Over a signature with a constant no formula is both true and false of a system, where the terms written in it are ground.
use Rattle.std.specs.Prelude.{List, length, get_or, All}
use Rattle.std.proofs.Common.{subst, sym, inl, inr}
use Rattle.std.proofs.lemmas.Bool.{cases_lt}
use Rattle.std.proofs.lemmas.List.{get_or_past}
use Rattle.std.proofs.lemmas.List.Elements.{All-get_or}
use Rattle.std.proofs.lemmas.Option.{get_or_from_slice_get}
use Rattle.fort_theory.specs.Trees.{Tree, Node, Nil}
use Rattle.fort_theory.specs.Signatures.{Signature, IsGround, HasConstant}
use Rattle.fort_theory.specs.Sides.{System}
use Rattle.fort_logic.specs.Formulas.{Argument, Var, Ground, Formula}
use Rattle.fort_logic.specs.Truth.{Assignment, GivesTerms, IsTrueOf, IsFalseOf}

module _ (signature : Signature) (constant : HasConstant signature) (terms : List Tree) where
  abbrev leaf : Tree
  leaf = Node constant.0 Nil

  -- a constant for each variable, and the terms
  abbrev some_trees : Assignment
  some_trees (Var x) = leaf
  some_trees (Ground k) = get_or terms k leaf

  some_ground : All (IsGround signature) terms → (a : Argument) → IsGround signature (some_trees a)
  some_ground ground (Var x) = (constant.1, tt)
  some_ground ground (Ground k) =
      elim (cases_lt k (length terms)) [
        | inl within ↦ All-get_or (IsGround signature) terms k leaf within ground
        | inr past ↦ subst (IsGround signature) (sym (get_or_past terms k leaf past)) (constant.1, tt)
      ]

  some_given : GivesTerms terms some_trees
  some_given k t is = get_or_from_slice_get terms k t leaf is

pub IsTrueOf-not_false : (system : System) (terms : List Tree) (f : Formula) → HasConstant system.signature → All (IsGround system.signature) terms
    → IsTrueOf system terms f → IsFalseOf system terms f → ⊥
IsTrueOf-not_false system terms f constant ground holds fails =
    let m = some_trees system.signature constant terms in
    let at = some_ground system.signature constant terms ground in
    let given = some_given system.signature constant terms in
    fails m at given (holds m at given)
