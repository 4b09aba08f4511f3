-- Nothing to believe: the texts of the tokens that are neither words nor ground terms, how far a word goes, and what stands between braces.
use Rattle.std.specs.Prelude.{◌≡◌, ℕ, ◌<◌, ◌≤◌, ◌==◌, Bool, true, false, List, [], ◌∷◌, ◌++◌, length, codes, slice_index, slice_index_or}
use Rattle.fort_formula_grammar.specs.Tokens.{is_name_byte, IsBetweenBraces}

-- the texts of the tokens that are neither words nor ground terms, none behind a shorter one
abbrev pub symbol_texts : List (List ℕ)
symbol_texts =
    codes "-||->" ∷ codes "<->*" ∷ codes "<=>" ∷ codes "<->" ∷ codes "->*" ∷ codes "->+" ∷ codes "->=" ∷ codes "->!" ∷ codes "->^" ∷ codes "->_"
    ∷ codes "[1]" ∷ codes "[2]" ∷ codes "[3]" ∷ codes "[4]" ∷ codes "[5]" ∷ codes "[6]" ∷ codes "[7]" ∷ codes "[8]" ∷ codes "[9]"
    ∷ codes "=>" ∷ codes "->" ∷ codes "<<" ∷ codes ">>" ∷ codes "=" ∷ codes "(" ∷ codes ")" ∷ codes "," ∷ codes "~" ∷ codes "&" ∷ codes "|" ∷ []

-- none of the first k texts of the list begins this text
abbrev pub NoneBegins : List ℕ → List (List ℕ) → ℕ → Type 0
NoneBegins text words k = (j : ℕ) (rest : List ℕ) → j < k → text ≡ slice_index_or words j [] ++ rest → ⊥

-- the longest run of such bytes at the front of the text has n bytes
pub record IsRunOf (belongs : ℕ → Bool) (text : List ℕ) (n : ℕ) : Type 0 where
  pub within : n ≤ length text
  pub run : (k : ℕ) → k < n → belongs (slice_index text k) ≡ true
  pub ended : n < length text → belongs (slice_index text n) ≡ false

-- a run of bytes of names
abbrev pub IsRun : List ℕ → ℕ → Type 0
IsRun = IsRunOf is_name_byte

-- a { stands at the front
abbrev pub begins_with_brace : List ℕ → Bool
begins_with_brace [] = false
begins_with_brace (b ∷ bs) = b == 123

-- a ground term at the front of the text, with these bytes between its braces
abbrev pub IsBraced : List ℕ → List ℕ → List ℕ → Type 0
IsBraced text inner rest = IsBetweenBraces inner × (text ≡ 123 ∷ inner ++ 125 ∷ rest)
