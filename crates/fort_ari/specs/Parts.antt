-- To believe: when a list of forms begins with a list that begins with a word, and when with the format.
use Rattle.std.specs.Prelude.{ℕ, List, [], ◌∷◌}
use Rattle.fort_grammar.specs.Forms.{Form}
use Rattle.fort_grammar.specs.Declarations.{IsFormat, IsHeaded}

-- there is a first form, and it is headed so
abbrev pub BeginsHeaded : List ℕ → List ℕ → List Form → Type 0
BeginsHeaded bytes word [] = ⊥
BeginsHeaded bytes word (f ∷ fs) = IsHeaded bytes word f

-- there is a first form, and it is the format of so many systems
abbrev pub BeginsWithFormat : List ℕ → List Form → ℕ → Type 0
BeginsWithFormat bytes [] number = ⊥
BeginsWithFormat bytes (f ∷ fs) number = IsFormat bytes f number

abbrev pub HasFormat : List ℕ → List Form → Type 0
HasFormat bytes forms = (number : ℕ) × BeginsWithFormat bytes forms number
