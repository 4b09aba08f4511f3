-- To believe: which terms up to a height satisfy a formula over a system, their order, and how they are printed.
use Rattle.std.specs.Prelude.{ℕ, ◌≤◌, Bool, true, false, All, List, [], ◌∷◌, ◌++◌, map, Some, codes, decimal}
use Rattle.fort_theory.specs.Trees.{Tree}
use Rattle.fort_theory.specs.Trees as trees
use Rattle.fort_theory.specs.Signatures.{Signature}
use Rattle.fort_theory.specs.Sides.{System}
use Rattle.fort_logic.specs.Formulas.{Name, Formula}
use Rattle.fort_tables.specs.TupleOrder.{TupleBefore}
use Rattle.fort_answers.specs.Witnesses.{AreWitnesses, binding}

-- terms that satisfy the formula, none of them higher than this
pub record AreSolutionTerms (system : System) (terms : List Tree) (f : Formula) (height : ℕ) (ts : List Tree) : Type 0 where
  pub are : AreWitnesses system terms f ts
  pub low : All (λ t. trees.height t ≤ height) ts

-- terms are ordered as tuples are
abbrev pub TermsBefore : List Tree → List Tree → Type 0
TermsBefore ts us = TupleBefore (map Some ts) (map Some us)

-- how many are listed, and whether there are more
abbrev pub count_line : (count : ℕ) → (more : Bool) → List ℕ
count_line count false = (codes "SOLUTIONS " ++ decimal count) ++ 10 ∷ []
count_line count true = (codes "SOLUTIONS " ++ (decimal count ++ codes " AND MORE")) ++ 10 ∷ []

-- each name with its term, in one line
abbrev pub solution_text : Signature → List Name → List Tree → List ℕ
solution_text sig [] ts = []
solution_text sig (x ∷ xs) [] = []
solution_text sig (x ∷ []) (t ∷ ts) = binding sig x t
solution_text sig (x ∷ y ∷ xs) (t ∷ ts) = binding sig x t ++ (codes ", " ++ solution_text sig (y ∷ xs) ts)

abbrev pub solution_lines : Signature → List Name → List (List Tree) → List ℕ
solution_lines sig names [] = []
solution_lines sig names (ts ∷ tss) = (solution_text sig names ts ++ 10 ∷ []) ++ solution_lines sig names tss
