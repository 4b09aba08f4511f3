-- A table of texts with their tokens: what its first text that begins another says, and what the tables of the tokens are.
use Rattle.std.proofs.Common.{◌≡◌, ℕ, ◌+◌, ◌<◌, ◌≤◌, true, false, List, [], ◌++◌, All, length, get_or, take, drop, Option, Some, None, IfSome, IfNone, sym, ap, ◌∙◌, arith, inl, inr}
use Rattle.std.proofs.lemmas.Bool.{cases_lt, true≢false}
use Rattle.std.proofs.lemmas.List.{get_or-map, length-map, length-take-le}
use Rattle.std.proofs.lemmas.List.Prefix.{front_fits}
use Rattle.fort_formula_grammar.specs.Tokens as grammar
use Rattle.fort_formula_grammar.specs.Tokens.{begins_with_letter, token_text, IsToken}
use Rattle.fort_formula_grammar.specs.TokenText.{HasPlace, BeginsWithNoToken}
use Rattle.fort_formula_grammar.specs.TokenForms.{symbol_texts, begins_with_brace, NoneBegins, IsRun}
use Rattle.fort_formula_grammar.proofs.TokenFronts.{BeginsWithSign, BeginsWithToken-symbol, BeginsWithNoToken-symbol, BeginsWithToken-word, token-some}
use Rattle.fort_formula_parser.specs.declared.token.Spelling.{Spelling}
use Rattle.fort_formula_parser.specs.declared.token.Spotted.{Spotted}
use Rattle.fort_formula_parser.specs.TokenView.{as_token}
use Rattle.fort_formula_parser.specs.Spellings.{texts_of, IsSpelled, IsFirst, IsSpotted, IsSpottedAt}

pub texts_of-at : (spellings : List Spelling) (k : ℕ) (d : Spelling) (w : List ℕ) → k < length spellings → get_or (texts_of spellings) k w ≡ (get_or spellings k d).text.now
texts_of-at spellings k d w lt = get_or-map (λ spelling. spelling.text.now) spellings k d w lt

pub IsFirst-at : (text : List ℕ) (spellings : List Spelling) (k : ℕ) (d : Spelling) → All IsSpelled spellings → k < length spellings
    → NoneBegins text (texts_of spellings) k → text ≡ (get_or spellings k d).text.now ++ drop (length (get_or spellings k d).text.now) text
    → IsFirst text (texts_of spellings) (as_token (get_or spellings k d).token) (length (get_or spellings k d).text.now)
IsFirst-at text spellings k d all lt none h =
    let s = all k d lt in
    record {
      place = k;
      within = omega (arith, lt, length-map spellings (λ spelling. spelling.text.now));
      earlier = none;
      proper = s.proper;
      word = s.written ∙ sym (texts_of-at spellings k d [] lt);
      size = sym (ap length s.written);
      written = h ∙ ap (λ w. w ++ drop (length (get_or spellings k d).text.now) text) (sym s.written);
    }

pub NoneBegins-more : (text : List ℕ) (spellings : List Spelling) (k : ℕ) (d : Spelling) → NoneBegins text (texts_of spellings) k → k < length spellings
    → ((rest : List ℕ) → text ≡ (get_or spellings k d).text.now ++ rest → ⊥) → NoneBegins text (texts_of spellings) (k + 1)
NoneBegins-more text spellings k d none lt here j rest le h =
    elim (cases_lt j k) [
      | inl below ↦ none j rest below h
      | inr up ↦ let same : j ≡ k = omega arith in
          here rest (h ∙ ap (λ i. get_or (texts_of spellings) i [] ++ rest) same ∙ ap (λ w. w ++ rest) (texts_of-at spellings k d [] lt))
    ]

-- where neither a letter nor a brace stands
pub IsSpotted-symbol : (text : List ℕ) (found : Spotted) → BeginsWithSign text → IsFirst text symbol_texts (as_token found.token) found.len
    → IsSpotted text found
IsSpotted-symbol text found sign first =
    let token = as_token found.token in
    let size : found.len ≡ length (token_text token) = first.size in
    let some : 0 < length (token_text token) = token-some token first.proper in
    let fits = front_fits text (token_text token) (drop found.len text) first.written in
    record {
      some = omega arith;
      within = omega (arith, fits, size);
      begins = BeginsWithToken-symbol text first.place token (drop found.len text) sign first.within first.earlier first.proper first.word first.written;
    }

-- where a letter stands
pub IsSpotted-word : (text : List ℕ) (found : Spotted) → begins_with_letter text ≡ true → IsRun text found.len → IsToken (as_token found.token)
    → token_text (as_token found.token) ≡ take found.len text → IsSpotted text found
IsSpotted-word text found letter run proper is =
    let token = as_token found.token in
    let some : 0 < length (token_text token) = token-some token proper in
    let within : found.len ≤ length text = run.within in
    let size : length (token_text token) ≡ found.len = ap length is ∙ length-take-le found.len text run.within in
    record {
      some = omega arith;
      within = within;
      begins = BeginsWithToken-word text found.len token run letter proper is;
    }

-- the table of the symbols
pub IsSpotted-symbols : (text : List ℕ) (result : Option Spotted) → BeginsWithSign text
    → IfSome result (λ found. IsFirst text symbol_texts (as_token found.token) found.len) → IfSome result (IsSpotted text)
IsSpotted-symbols text None sign h = h
IsSpotted-symbols text (Some found) sign h = IsSpotted-symbol text found sign h

pub BeginsWithNoToken-symbols : (text : List ℕ) (result : Option Spotted) → BeginsWithSign text
    → IfNone result (NoneBegins text symbol_texts (length symbol_texts)) → IfNone result (BeginsWithNoToken text)
BeginsWithNoToken-symbols text None sign h = BeginsWithNoToken-symbol text sign h
BeginsWithNoToken-symbols text (Some found) sign h = h

-- what begins a text at which no brace stands is no ground term
pub IsSpottedAt-other : (place : ℕ) (text : List ℕ) (found : Spotted) → begins_with_brace text ≡ false → IsSpotted text found → IsSpottedAt place text found
IsSpottedAt-other place text found brace s = record {
  spotted = s;
  numbered = no_ground (as_token found.token) (sym (ap begins_with_brace s.begins.written) ∙ brace);
}
  where
    no_ground : (t : grammar.Token) → begins_with_brace (token_text t ++ drop found.len text) ≡ false → HasPlace place t
    no_ground (grammar.Ground k inner) h = absurd (true≢false h)
    no_ground t h = tt

pub IsSpottedAt-others : (place : ℕ) (text : List ℕ) (result : Option Spotted) → begins_with_brace text ≡ false → IfSome result (IsSpotted text)
    → IfSome result (IsSpottedAt place text)
IsSpottedAt-others place text None brace h = h
IsSpottedAt-others place text (Some found) brace h = IsSpottedAt-other place text found brace h
