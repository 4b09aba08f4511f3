-- Inside: the lines of rules that are pairs of patterns, each read with a variable in each of its places.
use Rattle.std.specs.Prelude.{◌≡◌, ℕ, ◌<◌, ◌^◌, List, [], ◌∷◌, ◌++◌, codes}
use Rattle.fort_theory.specs.Signatures.{Signature}
use Rattle.fort_theory.specs.Patterns.{Pair}
use Rattle.fort_answers.specs.FamilySystems.{any_count, side_from}
use Rattle.fort_answers.specs.RuleText.{side_text}

abbrev pub pair_line : Signature → Pair → List ℕ
pair_line sig pair = codes "(rule " ++ (side_text sig (side_from 0 pair.0) ++ (codes " " ++ (side_text sig (side_from 0 pair.1) ++ (codes ")" ++ 10 ∷ []))))

abbrev pub pair_lines : Signature → List Pair → List ℕ
pair_lines sig [] = []
pair_lines sig (pair ∷ pairs) = pair_line sig pair ++ pair_lines sig pairs

-- few enough places for variables on the left, and none on the right
pub record HasFewPlaces (pair : Pair) : Type 0 where
  pub left : any_count pair.0 < 2 ^ 32
  pub right : any_count pair.1 ≡ 0
