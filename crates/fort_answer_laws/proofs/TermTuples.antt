-- Terms as tuples of a table; terms that satisfy a formula are ground, and one for each free name.
use Rattle.std.proofs.Common.{◌≡◌, ℕ, suc, ◌<◌, List, [], ◌∷◌, map, length, get_or, Some, None, refl, ap, sym, subst, ◌∙◌, arith}
use Rattle.std.specs.Prelude.{All}
use Rattle.std.proofs.lemmas.List.{length-map}
use Rattle.std.proofs.lemmas.List.Elements.{All-get_or, All-nil, All-cons}
use Rattle.fort_theory.specs.Trees.{Tree}
use Rattle.fort_theory.specs.Signatures.{Signature, IsGround}
use Rattle.fort_theory.specs.Sides.{System}
use Rattle.fort_logic.specs.Formulas.{Name, Formula, Var}
use Rattle.fort_logic.specs.FreeNames.{free_names}
use Rattle.fort_tables.specs.Tuples.{Tuple, IsTuple, IsFull, IsPresent, AreGroundColumns}
use Rattle.fort_answers.specs.Witnesses.{AreWitnesses}

pub full-terms : (ts : List Tree) → IsFull (map Some ts)
full-terms [] = tt
full-terms (t ∷ ts) = full-terms ts

present-terms : (ts : List Tree) → 0 < length ts → IsPresent (map Some ts)
present-terms [] some = absurd (omega arith)
present-terms (t ∷ ts) some = tt

ground-terms : (sig : Signature) (ts : List Tree) → ((k : ℕ) (d : Tree) → k < length ts → IsGround sig (get_or ts k d)) → AreGroundColumns sig (map Some ts)
ground-terms sig [] h = tt
ground-terms sig (t ∷ ts) h = (h 0 t (omega arith), ground-terms sig ts (λ k d l. h (suc k) d (omega arith)))

pub IsTuple-terms : (sig : Signature) (n : ℕ) (ts : List Tree) → 0 < n → length ts ≡ n → All (IsGround sig) ts → IsTuple sig n (map Some ts)
IsTuple-terms sig n ts some len all = record {
  width = length-map ts Some ∙ len;
  present = present-terms ts (omega arith);
  grounded = ground-terms sig ts (λ k d l. All-get_or (IsGround sig) ts k d l all);
}

-- the terms of a full tuple
pub terms_in : (sig : Signature) (t : Tuple) → IsFull t → AreGroundColumns sig t → (ts : List Tree) × All (IsGround sig) ts × (t ≡ map Some ts)
terms_in sig [] full g = ([], All-nil (IsGround sig), refl)
terms_in sig (None ∷ t) full g = absurd full
terms_in sig (Some x ∷ t) full g =
    let rest = terms_in sig t full g.1 in (x ∷ rest.0, All-cons (IsGround sig) x rest.0 g.0 rest.1, ap (λ u. Some x ∷ u) rest.2)

pub terms-one : (ts us : List Tree) → map Some ts ≡ map Some us → ts ≡ us
terms-one [] [] e = refl
terms-one [] (u ∷ us) e = cc
terms-one (t ∷ ts) [] e = cc
terms-one (t ∷ ts) (u ∷ us) e =
    let heads : t ≡ u = cc in let tails : map Some ts ≡ map Some us = cc in
    ap (λ x. x ∷ ts) heads ∙ ap (λ xs. u ∷ xs) (terms-one ts us tails)

-- ---- terms that satisfy a formula

module _ (system : System) (terms : List Tree) (f : Formula) (ts : List Tree) (are : AreWitnesses system terms f ts) where
  pub witnesses-count : length ts ≡ length (free_names f)
  witnesses-count = ap length are.are ∙ length-map (free_names f) (λ x. are.assignment (Var x))

  pub witnesses-ground : All (IsGround system.signature) ts
  witnesses-ground =
      subst (All (IsGround system.signature)) (sym are.are) (all_of (free_names f))
    where
      all_of : (names : List Name) → All (IsGround system.signature) (map (λ x. are.assignment (Var x)) names)
      all_of [] = All-nil (IsGround system.signature)
      all_of (x ∷ xs) = All-cons (IsGround system.signature) (are.assignment (Var x)) (map (λ y. are.assignment (Var y)) xs) (are.grounded (Var x)) (all_of xs)
