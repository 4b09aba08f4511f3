-- To believe: the text of a rule of a family: its two terms, where the variables have the names v0, v1 and so on from left to right, passing over the names that the signature declares.
use Rattle.std.specs.Prelude.{ℕ, suc, ◌+◌, Bool, not, List, [], ◌∷◌, ◌++◌, map, length, get_or, filter, codes, decimal, bytes_eq}
use Rattle.std.specs.List.{list_any, range_with_len}
use Rattle.fort_theory.specs.Signatures.{Signature, names_of}
use Rattle.fort_theory.specs.Sides.{Side, Sides, Var, App, NoSide, MoreSides, Rule}
use Rattle.fort_answers.specs.FamilyRules.{FamilyRule}
use Rattle.fort_answers.specs.FamilySystems.{rule_of}

-- v and a number
abbrev pub v_name : ℕ → List ℕ
v_name k = codes "v" ++ decimal k

abbrev pub is_undeclared : Signature → List ℕ → Bool
is_undeclared sig name = not (list_any (bytes_eq name) (names_of sig))

-- those of v0, v1 and so on that are not declared, in order; n + 1 of them at least, since no more are declared than the signature has symbols
abbrev pub variable_names : Signature → ℕ → List (List ℕ)
variable_names sig n = filter (is_undeclared sig) (map v_name (range_with_len 0 (suc n + length sig)))

-- the name of a variable, by its number
unfoldable pub variable_name : Signature → ℕ → List ℕ
variable_name sig n = get_or (variable_names sig n) n []

-- a variable's or a constant's name, or in parentheses a function's name and the arguments' texts, each behind one blank
abbrev mutual
  pub side_text : Signature → Side → List ℕ
  side_text sig (Var v) = variable_name sig v
  side_text sig (App f NoSide) = get_or (names_of sig) f []
  side_text sig (App f (MoreSides s ss)) = codes "(" ++ (get_or (names_of sig) f [] ++ (sides_text sig (MoreSides s ss) ++ codes ")"))

  pub sides_text : Signature → Sides → List ℕ
  sides_text sig NoSide = []
  sides_text sig (MoreSides s ss) = codes " " ++ (side_text sig s ++ sides_text sig ss)

abbrev pub rule_text : Signature → Rule → List ℕ
rule_text sig rule = codes "(rule " ++ (side_text sig rule.left ++ (codes " " ++ (side_text sig rule.right ++ codes ")")))

-- a line for each rule
abbrev pub rule_lines : Signature → List FamilyRule → List ℕ
rule_lines sig [] = []
rule_lines sig (r ∷ rs) = rule_text sig (rule_of r) ++ (10 ∷ rule_lines sig rs)
