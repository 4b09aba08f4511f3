-- What a system of a family keeps: its rules are linear, variable-separated and right-ground, and a core formula that can be decided over a system of its signature with one index can be decided over it.
use Rattle.std.proofs.Common.{◌≡◌, ℕ, zero, suc, List, [], ◌∷◌, map, All, subst}
use Rattle.std.specs.List.{AllByRecursion}
use Rattle.std.proofs.lemmas.List.Elements.{All-nil, All-from_recursion}
use Rattle.fort_theory.specs.Signatures.{Signature, IsGround}
use Rattle.fort_theory.specs.Sides.{IsIndexOf, IsLinearSeparated, Rule, at_index}
use Rattle.fort_theory.specs.Patterns.{PatternSystem}
use Rattle.fort_theory.specs.RightGround.{IsRightGround, IsRightGroundAt}
use Rattle.fort_theory.specs.Cores.{Atom, Related, InContext, Normal, IsTerm, Core, True, Leaf, Not, Binary, Exists, Infinite}
use Rattle.fort_answers.specs.FamilyRules.{FamilyRule}
use Rattle.fort_answers.specs.FamilySystems.{rule_of, system_of}
use Rattle.fort_answers.proofs.FamilyVariables.{variables-ground_side, rule_of-separated}
use Rattle.fort_parts.specs.DecidedCores.{AreFewRules, IsAtomOver, IsOverSystem, IsDecided}

-- ---- its rules

each_rule : (P : Rule → Type 0) → ((r : FamilyRule) → P (rule_of r)) → (rules : List FamilyRule) → All P (map rule_of rules)
each_rule P one rules = All-from_recursion P (map rule_of rules) (by rules)
  where
    by : (rs : List FamilyRule) → AllByRecursion P (map rule_of rs)
    by [] = tt
    by (r ∷ rs) = (one r, by rs)

pub family_separated : (sig : Signature) (rules : List FamilyRule) → All (All IsLinearSeparated) (system_of sig rules).rules
unfolding system_of
family_separated sig rules =
    All-from_recursion (All IsLinearSeparated) (map rule_of rules ∷ []) (each_rule IsLinearSeparated rule_of-separated rules, tt)

rule_right_ground : (r : FamilyRule) → IsRightGround (rule_of r)
unfolding rule_of
rule_right_ground r = variables-ground_side r.1

pub family_right_ground : (sig : Signature) (rules : List FamilyRule) (index : ℕ) → IsRightGroundAt (system_of sig rules) index
unfolding system_of
family_right_ground sig rules zero = All-nil IsRightGround
family_right_ground sig rules (suc zero) = each_rule IsRightGround rule_right_ground rules
family_right_ground sig rules (suc (suc index)) = All-nil IsRightGround

-- ---- core formulas

-- where the signature is the same, each index of the one is an index of the other, and its rules there are few
module _ (s t : PatternSystem) (same : s.signature ≡ t.signature) (indices : (index : ℕ) → IsIndexOf s.rules index → IsIndexOf t.rules index)
    (few : (index : ℕ) → AreFewRules (at_index index t.rules)) where
  atom_moved : (a : Atom) → IsAtomOver s a → IsAtomOver t a
  atom_moved (Related rel index x y) is = indices index is
  atom_moved (InContext e number place x y) is = record { indices = λ i c. indices i (is.indices i c); few = λ i c. few i }
  atom_moved (Normal index x) is = indices index is
  atom_moved (IsTerm x term) is = subst (λ sig. IsGround sig term) same is

  over_moved : (f : Core) → IsOverSystem s f → IsOverSystem t f
  over_moved True is = tt
  over_moved (Leaf a) is = atom_moved a is
  over_moved (Not f) is = over_moved f is
  over_moved (Binary op f g) is = (over_moved f is.0, over_moved g is.1)
  over_moved (Exists n f) is = over_moved f is
  over_moved (Infinite n f) is = over_moved f is

  pub IsDecided-moved : (f : Core) → IsDecided s f → IsDecided t f
  IsDecided-moved f is = record { well_formed = is.well_formed; over = over_moved f is.over }
