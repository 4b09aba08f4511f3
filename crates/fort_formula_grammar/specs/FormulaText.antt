-- To believe: which text is which formula, which ground terms are written in it, and which fault of a text is its first.
use Rattle.std.specs.Prelude.{◌≡◌, ◌↔◌, ℕ, ◌+◌, ◌-◌, ◌<◌, ◌≤◌, List, [], ◌∷◌, ◌++◌, length, take, Some, slice_get}
use Rattle.fort_logic.specs.Formulas.{Formula}
use Rattle.fort_formula_grammar.specs.Tokens as token
use Rattle.fort_formula_grammar.specs.Tokens.{Token, Open, Close}
use Rattle.fort_formula_grammar.specs.TokenText.{Reads, AreTokensOf, StandsAt, IsBadByte}
use Rattle.fort_formula_grammar.specs.FormulaGrammar.{IsFormula}

-- the most tokens of a formula
abbrev pub most_tokens : ℕ
most_tokens = 1000

-- the most parentheses that are open at once
abbrev pub deepest_formula : ℕ
deepest_formula = 200

-- how many parentheses are open behind these tokens, where n are before; a ) with none open lowers nothing
abbrev pub open_behind : ℕ → List Token → ℕ
open_behind n [] = n
open_behind n (Open ∷ ts) = open_behind (n + 1) ts
open_behind n (Close ∷ ts) = open_behind (n - 1) ts
open_behind n (t ∷ ts) = open_behind n ts

-- never are too many open
abbrev pub AreShallow : List Token → Type 0
AreShallow tokens = (k : ℕ) → open_behind 0 (take k tokens) ≤ deepest_formula

-- where a text is refused as too deep: at the offset stands the first ( that opens one too many
pub record OpensTooMany (text : List ℕ) (offset : ℕ) : Type 0 where
  pub tokens : List Token
  pub behind : List ℕ
  pub read : Reads 0 text tokens (40 ∷ behind)
  pub shallow : AreShallow tokens
  pub full : open_behind 0 tokens ≡ deepest_formula
  pub place : offset + length (40 ∷ behind) ≡ length text

-- the text is the formula
pub record IsFormulaText (text : List ℕ) (f : Formula) : Type 0 where
  pub tokens : List Token
  pub read : AreTokensOf text tokens
  pub few : length tokens ≤ most_tokens
  pub shallow : AreShallow tokens
  pub formula : IsFormula tokens f []

-- a ground term that is written in the text of a formula: the offset of its brace, and what stands between its braces
pub record Ground : Type 0 where
  pub at : ℕ
  pub text : List ℕ

-- the ground term with this place
pub record IsGroundAt (text : List ℕ) (place : ℕ) (g : Ground) : Type 0 where
  pub before : List Token
  pub stands : StandsAt text before (token.Ground place g.text) g.at

-- these are the ground terms that are written in the text, in their order
abbrev pub AreGroundsOf : List ℕ → List Ground → Type 0
AreGroundsOf text grounds = (place : ℕ) (g : Ground) → slice_get grounds place ≡ Some g ↔ IsGroundAt text place g

-- what follows says what is told of a text that is no formula; which text is which formula doesn't rest on it

-- with some tokens behind them these are a formula, however many they are and however deep it is
abbrev pub BeginsFormula : List Token → Type 0
BeginsFormula tokens = (more : List Token) × ((f : Formula) × IsFormula (tokens ++ more) f [])

-- where a text goes wrong whose tokens are no formula: at the first token with which they can't begin one any more; at the end
-- of the text where all of them can
pub data GoesWrongAt (text : List ℕ) (tokens : List Token) : (offset : ℕ) → Type 0 where
  AtToken : (before after : List Token) (next : Token) (offset : ℕ) → tokens ≡ before ++ next ∷ after → BeginsFormula before
      → (BeginsFormula (before ++ next ∷ []) → ⊥) → StandsAt text before next offset → GoesWrongAt text tokens offset
  AtEnd : BeginsFormula tokens → ((f : Formula) → IsFormula tokens f [] → ⊥) → GoesWrongAt text tokens (length text)

-- why a text is no formula; offsets count bytes from 0
pub data FormulaFault : Type 0 where
  BadByte : ℕ → FormulaFault
  TooLong : FormulaFault
  TooDeep : ℕ → FormulaFault
  Syntax : ℕ → FormulaFault

-- the first fault: each over the whole text, where the ones before it aren't there
pub data IsFirstFormulaFault (text : List ℕ) : FormulaFault → Type 0 where
  Bad : (offset : ℕ) → IsBadByte text offset → IsFirstFormulaFault text (BadByte offset)
  Long : (tokens : List Token) → AreTokensOf text tokens → most_tokens < length tokens → IsFirstFormulaFault text TooLong
  Deep : (tokens : List Token) → AreTokensOf text tokens → length tokens ≤ most_tokens → (offset : ℕ) → OpensTooMany text offset
      → IsFirstFormulaFault text (TooDeep offset)
  NoFormula : (tokens : List Token) → AreTokensOf text tokens → length tokens ≤ most_tokens → AreShallow tokens
      → (offset : ℕ) → GoesWrongAt text tokens offset → IsFirstFormulaFault text (Syntax offset)
