-- Inside: how the elements of a format begin, and which words are a number from 1 to 9.
use Rattle.std.specs.Prelude.{◌≡◌, ℕ, ◌≤◌, List, [], ◌∷◌, Some, codes, decimal}
use Rattle.fort_theory.specs.Signatures.{most_indices}
use Rattle.fort_grammar.specs.Forms.{Form}
use Rattle.fort_grammar.specs.Declarations.{word_of}

-- the elements of a list begin with the words `format` and `TRS`
abbrev pub BeginsAsFormat : List ℕ → List Form → Type 0
BeginsAsFormat bytes [] = ⊥
BeginsAsFormat bytes (f ∷ []) = ⊥
BeginsAsFormat bytes (f ∷ g ∷ fs) = (word_of bytes f ≡ Some (codes "format")) × (word_of bytes g ≡ Some (codes "TRS"))

-- a word that is a number from 1 to 9
abbrev pub IsNumber : List ℕ → ℕ → Type 0
IsNumber word n = (1 ≤ n) × (n ≤ most_indices) × (word ≡ decimal n)

-- a word of this name, and such a number behind it
pub record IsNumberNamed (bytes : List ℕ) (key value : Form) (name : List ℕ) (n : ℕ) : Type 0 where
  pub named : word_of bytes key ≡ Some name
  pub low : 1 ≤ n
  pub high : n ≤ most_indices
  pub is : word_of bytes value ≡ Some (decimal n)
