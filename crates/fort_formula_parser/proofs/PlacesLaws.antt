-- Tokens read one after another stand at their offsets; and how many parentheses are open behind the first tokens.
use Rattle.std.proofs.Common.{◌≡◌, ℕ, ◌+◌, ◌-◌, ◌^◌, ◌<◌, ◌≤◌, true, false, List, [], ◌∷◌, ◌++◌, length, get_or, take, drop, refl, sym, ap, ◌∙◌, subst, arith, inl, inr}
use Rattle.std.proofs.lemmas.Bool.{cases_lt}
use Rattle.std.proofs.lemmas.List.{get_or-map, length-map, map-append, append-nil, take-append-le, get_or_append_left, take-take, take_all, take_more, drop-drop, drop_more, length-drop, length-take-le, length_push}
use Rattle.std.proofs.Math.Seq.{get_or-append_seam, take-append_seam}
use Rattle.fort_grammar.specs.Text.{is_blank}
use Rattle.fort_formula_grammar.specs.Tokens.{Token, Open, Ground, token_text}
use Rattle.fort_formula_grammar.specs.TokenText.{HasPlace, counting, grounds_behind, BeginsWithNoToken, Reads, Nothing, Blank, Next, IsBadByte}
use Rattle.fort_formula_grammar.specs.FormulaText.{most_tokens, open_behind, deepest_formula, AreShallow, OpensTooMany}
use Rattle.fort_formula_grammar.proofs.TokenReadings.{Reads-append, grounds_behind-append, grounds_behind-few}
use Rattle.fort_formula_grammar.proofs.OpenUnique.{open_behind-append}
use Rattle.fort_formula_parser.specs.declared.token.Token as code
use Rattle.fort_formula_parser.specs.declared.token.Token.TheVariants as variants
use Rattle.fort_formula_parser.specs.declared.token.Lexeme.{Lexeme}
use Rattle.fort_formula_parser.specs.declared.token.Spotted.{Spotted}
use Rattle.fort_formula_parser.specs.TokenView.{as_token, tokens_of}
use Rattle.fort_formula_parser.specs.Spellings.{IsSpottedAt}
use Rattle.fort_formula_parser.specs.Parsing.{HasSmallPlace, AreFewGrounds}
use Rattle.fort_formula_parser.specs.Places.{StandsBehind, HavePlaces}

pub tokens_of-push : (lexemes : List Lexeme) (lexeme : Lexeme) → tokens_of (lexemes ++ lexeme ∷ []) ≡ tokens_of lexemes ++ as_token lexeme.token ∷ []
tokens_of-push lexemes lexeme = map-append (λ l. as_token l.token) lexemes (lexeme ∷ [])

pub Reads-push : (text : List ℕ) (at : ℕ) (tokens : List Token) (found : Spotted) → Reads 0 text tokens (drop at text)
    → IsSpottedAt (grounds_behind 0 tokens) (drop at text) found → Reads 0 text (tokens ++ as_token found.token ∷ []) (drop (at + found.len) text)
Reads-push text at tokens found r s =
    let n = grounds_behind 0 tokens in
    let next : Reads n (drop at text) (as_token found.token ∷ []) (drop found.len (drop at text)) = Next s.spotted.begins s.numbered Nothing in
    Reads-append r (subst (λ rest. Reads n (drop at text) (as_token found.token ∷ []) rest) (drop-drop found.len at text) next)

pub Reads-blank : (text : List ℕ) (at : ℕ) (tokens : List Token) (d : ℕ) → at < length text → is_blank (get_or text at d) ≡ true
    → Reads 0 text tokens (drop at text) → Reads 0 text tokens (drop (at + 1) text)
Reads-blank text at tokens d lt blank r =
    let byte = get_or text at d in
    let n = grounds_behind 0 tokens in
    let one : Reads n (byte ∷ drop (at + 1) text) [] (drop (at + 1) text) = Blank blank Nothing in
    let here : Reads n (drop at text) [] (drop (at + 1) text) = subst (λ t. Reads n t [] (drop (at + 1) text)) (sym (drop_more text at d lt)) one in
    subst (λ ts. Reads 0 text ts (drop (at + 1) text)) (append-nil tokens) (Reads-append r here)

pub Bad-at : (text : List ℕ) (at : ℕ) (tokens : List Token) (d : ℕ) → at < length text → is_blank (get_or text at d) ≡ false
    → Reads 0 text tokens (drop at text) → BeginsWithNoToken (drop at text) → IsBadByte text at
Bad-at text at tokens d lt blank r none =
    let e = drop_more text at d lt in
    let size = length-drop at text in
    let whole : length (drop at text) ≡ length (get_or text at d ∷ drop (at + 1) text) = ap length e in
    record {
      tokens = tokens;
      byte = get_or text at d;
      behind = drop (at + 1) text;
      read = subst (λ rest. Reads 0 text tokens rest) e r;
      no_blank = blank;
      no_token = subst (λ t. BeginsWithNoToken t) e none;
      place = omega (arith, size, whole, lt);
    }

pub HavePlaces-push : (text : List ℕ) (lexemes : List Lexeme) (lexeme : Lexeme) → HavePlaces text lexemes → StandsBehind text (tokens_of lexemes) lexeme
    → HavePlaces text (lexemes ++ lexeme ∷ [])
HavePlaces-push text lexemes lexeme places new k d lt =
    let ts = tokens_of lexemes in
    let t = as_token lexeme.token in
    let size : length ts ≡ length lexemes = length-map lexemes (λ l. as_token l.token) in
    let all = tokens_of-push lexemes lexeme in
    elim (cases_lt k (length lexemes)) [
      | inl below ↦
          let here : get_or (lexemes ++ lexeme ∷ []) k d ≡ get_or lexemes k d = get_or_append_left lexemes (lexeme ∷ []) d k below in
          let front : take k (tokens_of (lexemes ++ lexeme ∷ [])) ≡ take k ts = ap (take k) all ∙ take-append-le k ts (t ∷ []) (omega arith) in
          subst (λ l. StandsBehind text (take k (tokens_of (lexemes ++ lexeme ∷ []))) l) (sym here) (subst (λ us. StandsBehind text us (get_or lexemes k d)) (sym front) (places k d below))
      | inr up ↦
          let same : k ≡ length lexemes = omega (arith, lt, length_push lexemes lexeme) in
          let here : get_or (lexemes ++ lexeme ∷ []) k d ≡ lexeme = ap (λ i. get_or (lexemes ++ lexeme ∷ []) i d) same ∙ get_or-append_seam lexemes lexeme [] d in
          let front : take k (tokens_of (lexemes ++ lexeme ∷ [])) ≡ ts = ap (take k) all ∙ ap (λ i. take i (ts ++ t ∷ [])) (same ∙ sym size) ∙ take-append_seam ts (t ∷ []) in
          subst (λ l. StandsBehind text (take k (tokens_of (lexemes ++ lexeme ∷ []))) l) (sym here) (subst (λ us. StandsBehind text us lexeme) (sym front) new)
    ]

pub StandsBehind-spotted : (text : List ℕ) (at : ℕ) (tokens : List Token) (found : Spotted) → at < length text → Reads 0 text tokens (drop at text)
    → IsSpottedAt (grounds_behind 0 tokens) (drop at text) found → StandsBehind text tokens record { at = at; token = found.token }
StandsBehind-spotted text at tokens found lt r s =
    record { within = lt; read = r; numbered = s.numbered; rest = drop found.len (drop at text); begins = s.spotted.begins }

-- parentheses
pub open_behind-more : (ts : List Token) (i : ℕ) (d : Token) → i < length ts → open_behind 0 (take (i + 1) ts) ≡ open_behind (open_behind 0 (take i ts)) (get_or ts i d ∷ [])
open_behind-more ts i d lt = ap (open_behind 0) (take_more ts i d lt) ∙ open_behind-append 0 (take i ts) (get_or ts i d ∷ [])

pub AreShallow-front : (ts : List Token) (n : ℕ) → n ≤ length ts → ((k : ℕ) → k ≤ n → open_behind 0 (take k ts) ≤ deepest_formula) → AreShallow (take n ts)
AreShallow-front ts n le h k =
    elim (cases_lt k n) [
      | inl below ↦ let same : open_behind 0 (take k (take n ts)) ≡ open_behind 0 (take k ts) = ap (open_behind 0) (take-take k n ts (omega arith)) in
          let here = h k (omega arith) in omega (arith, same, here)
      | inr up ↦ let size = length-take-le n ts le in
          let same : open_behind 0 (take k (take n ts)) ≡ open_behind 0 (take n ts) = ap (open_behind 0) (take_all k (take n ts) (omega (arith, size, up))) in
          let here = h n (omega arith) in omega (arith, same, here)
    ]

pub tokens_of-at : (lexemes : List Lexeme) (k : ℕ) (d : Lexeme) (t : Token) → k < length lexemes → get_or (tokens_of lexemes) k t ≡ as_token (get_or lexemes k d).token
tokens_of-at lexemes k d t lt = get_or-map (λ l. as_token l.token) lexemes k d t lt

pub OpensTooMany-at : (lexemes : List Lexeme) (k : ℕ) (d : Lexeme) → k < length lexemes → as_token (get_or lexemes k d).token ≡ Open
    → open_behind 0 (take k (tokens_of lexemes)) ≡ deepest_formula → ((j : ℕ) → j ≤ k → open_behind 0 (take j (tokens_of lexemes)) ≤ deepest_formula)
    → (text : List ℕ) → HavePlaces text lexemes → OpensTooMany text (get_or lexemes k d).at
OpensTooMany-at lexemes k d lt opens full shallow text places =
    let here = places k d lt in
    let at = (get_or lexemes k d).at in
    let size : length (tokens_of lexemes) ≡ length lexemes = length-map lexemes (λ l. as_token l.token) in
    let behind : drop at text ≡ 40 ∷ here.rest = here.begins.written ∙ ap (λ t. token_text t ++ here.rest) opens in
    let whole : length (drop at text) ≡ length (40 ∷ here.rest) = ap length behind in
    let within : at < length text = here.within in
    record {
      tokens = take k (tokens_of lexemes);
      behind = here.rest;
      read = subst (λ rest. Reads 0 text (take k (tokens_of lexemes)) rest) behind here.read;
      shallow = AreShallow-front (tokens_of lexemes) k (omega (arith, size, lt)) shallow;
      full = full;
      place = omega (arith, length-drop at text, whole, within);
    }

pub open_behind-count : (ts : List Token) (i : ℕ) (d : Token) (n m : ℕ) → i < length ts → n ≡ open_behind 0 (take i ts) → m ≡ open_behind n (get_or ts i d ∷ [])
    → m ≡ open_behind 0 (take (i + 1) ts)
open_behind-count ts i d n m lt count step = step ∙ ap (λ k. open_behind k (get_or ts i d ∷ [])) count ∙ sym (open_behind-more ts i d lt)

pub open_behind-bound : (ts : List Token) (i m : ℕ) → m ≡ open_behind 0 (take (i + 1) ts) → m ≤ deepest_formula
    → ((k : ℕ) → k ≤ i → open_behind 0 (take k ts) ≤ deepest_formula) → (k : ℕ) → k ≤ i + 1 → open_behind 0 (take k ts) ≤ deepest_formula
open_behind-bound ts i m count le h k below =
    elim (cases_lt i k) [
      | inl above ↦ let same : k ≡ i + 1 = omega arith in
          let e : open_behind 0 (take k ts) ≡ open_behind 0 (take (i + 1) ts) = ap (λ j. open_behind 0 (take j ts)) same in omega (arith, e, count, le)
      | inr up ↦ h k up
    ]

pub open_behind-other : (t : code.Token) (n : ℕ) → (t ≡ variants.Open → ⊥) → (t ≡ variants.Close → ⊥) → n ≡ open_behind n (as_token t ∷ [])
open_behind-other variants.Open n opens closes = absurd (opens refl)
open_behind-other variants.Close n opens closes = absurd (closes refl)
open_behind-other t n opens closes = refl

-- one more token is counted
pub open_behind-step : (lexemes : List Lexeme) (i : ℕ) (d : Lexeme) (n m : ℕ) → i < length lexemes → n ≡ open_behind 0 (take i (tokens_of lexemes))
    → ((k : ℕ) → k ≤ i → open_behind 0 (take k (tokens_of lexemes)) ≤ deepest_formula) → m ≡ open_behind n (as_token (get_or lexemes i d).token ∷ [])
    → m ≤ deepest_formula
    → (m ≡ open_behind 0 (take (i + 1) (tokens_of lexemes))) × ((k : ℕ) → k ≤ i + 1 → open_behind 0 (take k (tokens_of lexemes)) ≤ deepest_formula)
open_behind-step lexemes i d n m lt count shallow step le =
    let ts = tokens_of lexemes in
    let size : length ts ≡ length lexemes = length-map lexemes (λ l. as_token l.token) in
    let here = tokens_of-at lexemes i d Open lt in
    let count' = open_behind-count ts i Open n m (omega (arith, size, lt)) count (step ∙ ap (λ t. open_behind n (t ∷ [])) (sym here)) in
    (count', open_behind-bound ts i m count' le shallow)

-- a slice to the end
pub drop-slice : (text : List ℕ) (at : ℕ) → take (length text - at) (drop at text) ≡ drop at text
drop-slice text at = let size = length-drop at text in take_all (length text - at) (drop at text) (omega arith)

pub HavePlaces-none : (text : List ℕ) (lexemes : List Lexeme) → lexemes ≡ [] → HavePlaces text lexemes
HavePlaces-none text lexemes e k d lt = absurd (omega (arith, lt, ap length e))

pub Reads-none : (text : List ℕ) (lexemes : List Lexeme) → lexemes ≡ [] → Reads 0 text (tokens_of lexemes) text
Reads-none text lexemes e = subst (λ xs. Reads 0 text (tokens_of xs) text) (sym e) Nothing

-- one more token of the text
pub record GoesOn (text : List ℕ) (at : ℕ) (lexemes : List Lexeme) (found : Spotted) : Type 0 where
  pub within : at + found.len ≤ length text
  pub read : Reads 0 text (tokens_of (lexemes ++ record { at = at; token = found.token } ∷ [])) (drop (at + found.len) text)
  pub places : HavePlaces text (lexemes ++ record { at = at; token = found.token } ∷ [])
  pub count : counting (grounds_behind 0 (tokens_of lexemes)) (as_token found.token)
      ≡ grounds_behind 0 (tokens_of (lexemes ++ record { at = at; token = found.token } ∷ []))

pub more_tokens : (text : List ℕ) (at : ℕ) (lexemes : List Lexeme) (found : Spotted) → at < length text → Reads 0 text (tokens_of lexemes) (drop at text)
    → HavePlaces text lexemes → IsSpottedAt (grounds_behind 0 (tokens_of lexemes)) (take (length text - at) (drop at text)) found
    → GoesOn text at lexemes found
more_tokens text at lexemes found lt r places spotted =
    let ts = tokens_of lexemes in
    let s = subst (λ t. IsSpottedAt (grounds_behind 0 ts) t found) (drop-slice text at) spotted in
    let lexeme : Lexeme = record { at = at; token = found.token } in
    let size = length-drop at text in
    let within : found.len ≤ length (drop at text) = s.spotted.within in
    let all = tokens_of-push lexemes lexeme in
    record {
      within = omega arith;
      read = subst (λ us. Reads 0 text us (drop (at + found.len) text)) (sym all) (Reads-push text at ts found r s);
      places = HavePlaces-push text lexemes lexeme places (StandsBehind-spotted text at ts found lt r s);
      count = sym (ap (grounds_behind 0) all ∙ grounds_behind-append 0 ts (as_token found.token ∷ []));
    }

-- a token counts for one ground term at most
pub counting-few : (n at len m : ℕ) (t : Token) → n ≤ at → 0 < len → m ≡ counting n t → m ≤ at + len
counting-few n at len m (Ground place text) le some is = omega (arith, is)
counting-few n at len m t le some is = omega (arith, is)

small_place : (n : ℕ) (t : Token) → HasPlace n t → n < 2 ^ 32 → HasSmallPlace t
small_place n (Ground place text) h lt = omega (arith, h)
small_place n t h lt = tt

-- few tokens have few ground terms among them
pub few_grounds : (text : List ℕ) (lexemes : List Lexeme) → HavePlaces text lexemes → length lexemes ≤ most_tokens → AreFewGrounds lexemes
few_grounds text lexemes places le k d lt =
    let here = places k d lt in
    let size = length-map lexemes (λ l. as_token l.token) in
    let front = length-take-le k (tokens_of lexemes) (omega (arith, size, lt)) in
    let bound = grounds_behind-few (take k (tokens_of lexemes)) in
    let most : most_tokens ≡ 1000 = refl in
    small_place (grounds_behind 0 (take k (tokens_of lexemes))) (as_token (get_or lexemes k d).token) here.numbered (omega (arith, front, bound, most, le))
