-- Inside: when the tokens of a text stand where their offsets say.
use Rattle.std.specs.Prelude.{ℕ, ◌<◌, List, length, take, drop, slice_index_or}
use Rattle.fort_formula_grammar.specs.Tokens as grammar
use Rattle.fort_formula_grammar.specs.TokenText.{HasPlace, grounds_behind, BeginsWithToken, Reads}
use Rattle.fort_formula_parser.specs.declared.token.Lexeme.{Lexeme}
use Rattle.fort_formula_parser.specs.TokenView.{as_token, tokens_of}

-- the token begins at its offset, and before it the text has these tokens
pub record StandsBehind (text : List ℕ) (tokens : List grammar.Token) (lexeme : Lexeme) : Type 0 where
  pub within : lexeme.at < length text
  pub read : Reads 0 text tokens (drop lexeme.at text)
  pub numbered : HasPlace (grounds_behind 0 tokens) (as_token lexeme.token)
  pub rest : List ℕ
  pub begins : BeginsWithToken (drop lexeme.at text) (as_token lexeme.token) rest

abbrev pub HavePlaces : List ℕ → List Lexeme → Type 0
HavePlaces text lexemes = (k : ℕ) (d : Lexeme) → k < length lexemes → StandsBehind text (take k (tokens_of lexemes)) (slice_index_or lexemes k d)
