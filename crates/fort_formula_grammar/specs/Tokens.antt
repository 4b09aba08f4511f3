-- To believe: which names are variables, what the tokens of formulas are, and how each is written.
use Rattle.std.specs.Prelude.{ℕ, ◌+◌, ◌<◌, ◌≤◌, List, [], ◌∷◌, ◌++◌, Bool, false, ◌||◌, ◌&&◌, ◌==◌, not, nat_le, IsTrue, Contains, codes, length}
use Rattle.std.specs.Char.{is_ascii_alphabetic, is_ascii_alphanumeric}
use Rattle.std.specs.List.{AllByRecursion}
use Rattle.fort_theory.specs.Signatures.{most_indices}
use Rattle.fort_grammar.specs.Text.{is_blank}
use Rattle.fort_logic.specs.Formulas as theory
use Rattle.fort_logic.specs.Formulas.{Name, SurfaceRel, Property}

-- a letter, a digit or an underscore
abbrev pub is_name_byte : ℕ → Bool
is_name_byte b = is_ascii_alphanumeric b || b == 95

abbrev pub begins_with_letter : Name → Bool
begins_with_letter [] = false
begins_with_letter (b ∷ bs) = is_ascii_alphabetic b

-- the words that are no variables
abbrev pub reserved : List Name
reserved = codes "exists" ∷ codes "forall" ∷ codes "infinite" ∷ codes "true" ∷ codes "false" ∷ codes "NF" ∷ codes "JOIN"
    ∷ codes "CR" ∷ codes "WCR" ∷ codes "SCR" ∷ codes "WN" ∷ codes "UNR" ∷ codes "UNC" ∷ codes "NFP" ∷ codes "COM" ∷ codes "SN" ∷ []

-- a letter, then letters, digits and underscores, and no reserved word
pub record IsVariable (name : Name) : Type 0 where
  pub letter : IsTrue (begins_with_letter name)
  pub word : AllByRecursion (λ b. IsTrue (is_name_byte b)) name
  pub free : Contains reserved name → ⊥

-- a byte between the braces of a ground term: a blank or printable ASCII, but for } and ;
abbrev pub is_ground_byte : ℕ → Bool
is_ground_byte b = is_blank b || (nat_le 33 b && (nat_le b 126 && (not (b == 125) && not (b == 59))))

-- what stands between the braces of a ground term has fewer bytes
abbrev pub ground_limit : ℕ
ground_limit = 4294967296

-- bytes that may stand between the braces of a ground term
abbrev pub IsBetweenBraces : List ℕ → Type 0
IsBetweenBraces text = AllByRecursion (λ b. IsTrue (is_ground_byte b)) text × (length text < ground_limit)

-- Begin and End enclose an expression with its holes and their place. Index is the index of rules. A ground term has its place, counted from 0, among all
-- that are written in the text, and what stands between its braces.
pub data Token : Type 0 where
  Open : Token
  Close : Token
  Comma : Token
  Not : Token
  And : Token
  Or : Token
  Imp : Token
  Iff : Token
  Related : SurfaceRel → Token
  Begin : Token
  End : Token
  Index : ℕ → Token
  Exists : Token
  Forall : Token
  Infinite : Token
  True : Token
  False : Token
  Nf : Token
  Join : Token
  Has : Property → Token
  Com : Token
  Sn : Token
  Variable : Name → Token
  Ground : (place : ℕ) → (text : List ℕ) → Token

abbrev pub relation_text : SurfaceRel → List ℕ
relation_text theory.Eq = codes "="
relation_text theory.Step = codes "->"
relation_text theory.Star = codes "->*"
relation_text theory.Plus = codes "->+"
relation_text theory.Reflexive = codes "->="
relation_text theory.Normal = codes "->!"
relation_text theory.Root = codes "->^"
relation_text theory.Below = codes "->_"
relation_text theory.Par = codes "-||->"
relation_text theory.Either = codes "<->"
relation_text theory.Conv = codes "<->*"

abbrev pub property_text : Property → List ℕ
property_text theory.Cr = codes "CR"
property_text theory.Wcr = codes "WCR"
property_text theory.Scr = codes "SCR"
property_text theory.Wn = codes "WN"
property_text theory.Unr = codes "UNR"
property_text theory.Unc = codes "UNC"
property_text theory.Nfp = codes "NFP"

-- the digit that writes an index
abbrev pub digit : ℕ → ℕ
digit n = 48 + n

abbrev pub token_text : Token → List ℕ
token_text Open = codes "("
token_text Close = codes ")"
token_text Comma = codes ","
token_text Not = codes "~"
token_text And = codes "&"
token_text Or = codes "|"
token_text Imp = codes "=>"
token_text Iff = codes "<=>"
token_text (Related rel) = relation_text rel
token_text Begin = codes "<<"
token_text End = codes ">>"
token_text (Index n) = codes "[" ++ (digit n ∷ codes "]")
token_text Exists = codes "exists"
token_text Forall = codes "forall"
token_text Infinite = codes "infinite"
token_text True = codes "true"
token_text False = codes "false"
token_text Nf = codes "NF"
token_text Join = codes "JOIN"
token_text (Has property) = property_text property
token_text Com = codes "COM"
token_text Sn = codes "SN"
token_text (Variable name) = name
token_text (Ground place text) = codes "{" ++ (text ++ codes "}")

-- a name stands for a variable only where it is no reserved word; an index is 1 to 9
abbrev pub IsToken : Token → Type 0
IsToken (Index n) = (1 ≤ n) × (n ≤ most_indices)
IsToken (Variable name) = IsVariable name
IsToken (Ground place text) = IsBetweenBraces text
IsToken t = Unit {0}
