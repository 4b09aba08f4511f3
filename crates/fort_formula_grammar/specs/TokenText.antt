-- To believe: which tokens a text is made of: at each place the longest token, with blanks before, between and behind.
use Rattle.std.specs.Prelude.{◌≡◌, ℕ, ◌+◌, ◌≤◌, true, false, List, [], ◌∷◌, ◌++◌, length}
use Rattle.fort_grammar.specs.Text.{is_blank}
use Rattle.fort_formula_grammar.specs.Tokens.{Token, Ground, token_text, IsToken}

-- the text begins with the token, and with no longer one; what follows is the rest
pub record BeginsWithToken (text : List ℕ) (token : Token) (rest : List ℕ) : Type 0 where
  pub proper : IsToken token
  pub written : text ≡ token_text token ++ rest
  pub longest : (other : Token) (more : List ℕ) → IsToken other → text ≡ token_text other ++ more
      → length (token_text other) ≤ length (token_text token)

-- no token stands at the beginning of the text
abbrev pub BeginsWithNoToken : List ℕ → Type 0
BeginsWithNoToken text = (token : Token) (rest : List ℕ) → IsToken token → text ≡ token_text token ++ rest → ⊥

-- where so many ground terms stand before, the token is no ground term, or has this place
abbrev pub HasPlace : ℕ → Token → Type 0
HasPlace n (Ground place text) = place ≡ n
HasPlace n t = Unit {0}

-- n, and one more for a ground term
abbrev pub counting : ℕ → Token → ℕ
counting n (Ground place text) = n + 1
counting n t = n

-- the text, before which so many ground terms stand, begins with these tokens and blanks between them; what follows is the rest
pub data Reads : ℕ → List ℕ → List Token → List ℕ → Type 0 where
  Nothing : {n : ℕ} {text : List ℕ} → Reads n text [] text
  Blank : {n byte : ℕ} {text rest : List ℕ} {tokens : List Token} → is_blank byte ≡ true → Reads n text tokens rest
      → Reads n (byte ∷ text) tokens rest
  Next : {n : ℕ} {text after rest : List ℕ} {token : Token} {tokens : List Token} → BeginsWithToken text token after → HasPlace n token
      → Reads (counting n token) after tokens rest → Reads n text (token ∷ tokens) rest

-- these are the tokens of the text
abbrev pub AreTokensOf : List ℕ → List Token → Type 0
AreTokensOf text tokens = Reads 0 text tokens []

-- how many ground terms stand before what follows these tokens, where n stand before them
abbrev pub grounds_behind : ℕ → List Token → ℕ
grounds_behind n [] = n
grounds_behind n (t ∷ ts) = grounds_behind (counting n t) ts

-- behind these tokens of the text the next one is the token, which begins at the offset
pub record StandsAt (text : List ℕ) (before : List Token) (token : Token) (offset : ℕ) : Type 0 where
  pub here : List ℕ
  pub after : List ℕ
  pub read : Reads 0 text before here
  pub begins : BeginsWithToken here token after
  pub numbered : HasPlace (grounds_behind 0 before) token
  pub place : offset + length here ≡ length text

-- where a text is refused for a byte: at the offset stands the first one that is no blank and with which no token begins, where one should
pub record IsBadByte (text : List ℕ) (offset : ℕ) : Type 0 where
  pub tokens : List Token
  pub byte : ℕ
  pub behind : List ℕ
  pub read : Reads 0 text tokens (byte ∷ behind)
  pub no_blank : is_blank byte ≡ false
  pub no_token : BeginsWithNoToken (byte ∷ behind)
  pub place : offset + length (byte ∷ behind) ≡ length text
