-- Inside: tables of texts with their tokens, and which of them begins a text.
use Rattle.std.specs.Prelude.{◌≡◌, ℕ, ◌<◌, ◌≤◌, List, [], ◌++◌, length, map, drop, slice_index_or}
use Rattle.fort_formula_grammar.specs.Tokens as grammar
use Rattle.fort_formula_grammar.specs.Tokens.{token_text, IsToken}
use Rattle.fort_formula_grammar.specs.TokenText.{HasPlace, BeginsWithToken}
use Rattle.fort_formula_grammar.specs.TokenForms.{NoneBegins}
use Rattle.fort_formula_parser.specs.declared.token.Spelling.{Spelling}
use Rattle.fort_formula_parser.specs.declared.token.Spotted.{Spotted}
use Rattle.fort_formula_parser.specs.TokenView.{as_token}

abbrev pub texts_of : List Spelling → List (List ℕ)
texts_of spellings = map (λ spelling. spelling.text.now) spellings

-- the text is the token's
pub record IsSpelled (spelling : Spelling) : Type 0 where
  pub proper : IsToken (as_token spelling.token)
  pub written : token_text (as_token spelling.token) ≡ spelling.text.now

-- the token is written as the first of these words that begins the text, and has n bytes
pub record IsFirst (text : List ℕ) (words : List (List ℕ)) (token : grammar.Token) (n : ℕ) : Type 0 where
  pub place : ℕ
  pub within : place < length words
  pub earlier : NoneBegins text words place
  pub proper : IsToken token
  pub word : token_text token ≡ slice_index_or words place []
  pub size : n ≡ length (token_text token)
  pub written : text ≡ token_text token ++ drop n text

-- the token begins the text, and has so many bytes
pub record IsSpotted (text : List ℕ) (found : Spotted) : Type 0 where
  pub some : 0 < found.len
  pub within : found.len ≤ length text
  pub begins : BeginsWithToken text (as_token found.token) (drop found.len text)

-- the same where so many ground terms stand before
pub record IsSpottedAt (place : ℕ) (text : List ℕ) (found : Spotted) : Type 0 where
  pub spotted : IsSpotted text found
  pub numbered : HasPlace place (as_token found.token)
