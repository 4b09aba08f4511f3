-- The ground terms among the tokens of a text are those that are written in it, in their order.
use Rattle.std.proofs.Common.{◌≡◌, ℕ, zero, suc, ◌+◌, ◌<◌, ◌≤◌, List, [], ◌∷◌, ◌++◌, Option, Some, length, map, get_or, take, drop, slice_get, inl, inr, refl, sym, ap, ◌∙◌, subst, arith}
use Rattle.std.proofs.lemmas.List.{get_or-map, length-map, length-append, length-drop, append-nil, append_assoc, map-append, take_more, take_all}
use Rattle.std.proofs.lemmas.Option.{slice_get_within, slice_get-get_or}
use Rattle.std.proofs.Math.Seq.{take-append_seam, get_or-append_seam, split_at}
use Rattle.fort_logic.specs.Formulas.{Formula}
use Rattle.fort_logic.specs.Mentions.{HasPlacesBelow}
use Rattle.fort_formula_grammar.specs.Tokens as grammar
use Rattle.fort_formula_grammar.specs.Tokens.{Token}
use Rattle.fort_formula_grammar.specs.TokenText.{HasPlace, counting, grounds_behind, BeginsWithToken, Reads, AreTokensOf, StandsAt}
use Rattle.fort_formula_grammar.specs.FormulaGrammar.{IsFormula}
use Rattle.fort_formula_grammar.specs.FormulaText.{Ground, IsGroundAt, AreGroundsOf}
use Rattle.fort_formula_grammar.proofs.TokenReadings.{grounds_behind-from, Reads-push}
use Rattle.fort_formula_grammar.proofs.TokenUnique.{one_goes_on, Reads-end}
use Rattle.fort_formula_grammar.proofs.OneFormula.{StandsAt-unique, AreGroundsOf-unique}
use Rattle.fort_formula_grammar.proofs.FormulaPlaces.{formula_places}
use Rattle.fort_formula_parser.specs.declared.token.Token as code
use Rattle.fort_formula_parser.specs.declared.token.Token.TheVariants as variants
use Rattle.fort_formula_parser.specs.declared.token.Lexeme.{Lexeme}
use Rattle.fort_formula_parser.specs.declared.parsed.Ground as made
use Rattle.fort_formula_parser.specs.ParsedView.{as_ground, AreShort}
use Rattle.fort_formula_parser.specs.TokenView.{as_token, tokens_of}
use Rattle.fort_formula_parser.specs.Places.{HavePlaces}
use Rattle.fort_formula_parser.proofs.PlacesLaws.{tokens_of-at}

abbrev pub made_ground : ℕ → List ℕ → Ground
made_ground at text = record { at = at; text = text }

-- in front of the list the ground term that the token is, if it is one
abbrev pub with_ground : ℕ → Token → List Ground → List Ground
with_ground at (grammar.Ground place text) gs = record { at = at; text = text } ∷ gs
with_ground at t gs = gs

abbrev pub grounds_of : List Lexeme → List Ground
grounds_of [] = []
grounds_of (l ∷ ls) = with_ground l.at (as_token l.token) (grounds_of ls)

with_ground-append : (at : ℕ) (t : Token) (gs hs : List Ground) → with_ground at t (gs ++ hs) ≡ with_ground at t gs ++ hs
with_ground-append at (grammar.Ground place text) gs hs = refl
with_ground-append at t gs hs = refl

grounds_of-append : (ls ms : List Lexeme) → grounds_of (ls ++ ms) ≡ grounds_of ls ++ grounds_of ms
grounds_of-append [] ms = refl
grounds_of-append (l ∷ ls) ms = ap (with_ground l.at (as_token l.token)) (grounds_of-append ls ms) ∙ with_ground-append l.at (as_token l.token) (grounds_of ls) (grounds_of ms)

-- a ground term of the list is a token; the tokens before it have as many ground terms as its place says
pub record IsAmong (lexemes : List Lexeme) (place : ℕ) (g : Ground) : Type 0 where
  pub before : List Token
  pub after : List Token
  pub number : ℕ
  pub is : tokens_of lexemes ≡ before ++ grammar.Ground number g.text ∷ after
  pub count : grounds_behind 0 before ≡ place
  pub at : (d : Lexeme) → (get_or lexemes (length before) d).at ≡ g.at

behind_other : (l : Lexeme) (ls : List Lexeme) (place : ℕ) (g : Ground) → counting 0 (as_token l.token) ≡ 0 → IsAmong ls place g → IsAmong (l ∷ ls) place g
behind_other l ls place g none h = record {
  before = as_token l.token ∷ h.before;
  after = h.after;
  number = h.number;
  is = ap (λ ts. as_token l.token ∷ ts) h.is;
  count = omega (arith, grounds_behind-from (counting 0 (as_token l.token)) h.before, none, h.count);
  at = h.at;
}

behind_ground : (l : Lexeme) (ls : List Lexeme) (place : ℕ) (g : Ground) → counting 0 (as_token l.token) ≡ 1 → IsAmong ls place g → IsAmong (l ∷ ls) (suc place) g
behind_ground l ls place g one h = record {
  before = as_token l.token ∷ h.before;
  after = h.after;
  number = h.number;
  is = ap (λ ts. as_token l.token ∷ ts) h.is;
  count = omega (arith, grounds_behind-from (counting 0 (as_token l.token)) h.before, one, h.count);
  at = h.at;
}

found : (l : Lexeme) (ls : List Lexeme) (t : Token) (place : ℕ) (g : Ground) → as_token l.token ≡ t
    → ((k : ℕ) → slice_get (grounds_of ls) k ≡ Some g → IsAmong ls k g) → slice_get (with_ground l.at t (grounds_of ls)) place ≡ Some g → IsAmong (l ∷ ls) place g
found l ls (grammar.Ground number text) zero g is more h =
    let same : record { at = l.at; text = text } ≡ g = cc in
    record {
      before = [];
      after = tokens_of ls;
      number = number;
      is = ap (λ t. t ∷ tokens_of ls) (is ∙ ap (λ (x : Ground). grammar.Ground number x.text) same);
      count = refl;
      at = λ d. ap (λ (x : Ground). x.at) same;
    }
found l ls (grammar.Ground number text) (suc place) g is more h = behind_ground l ls place g (ap (counting 0) is) (more place h)
found l ls t place g is more h = behind_other l ls place g (ap (counting 0) is) (more place h)

IsAmong-from : (lexemes : List Lexeme) (place : ℕ) (g : Ground) → slice_get (grounds_of lexemes) place ≡ Some g → IsAmong lexemes place g
IsAmong-from [] place g h = cc
IsAmong-from (l ∷ ls) place g h = found l ls (as_token l.token) place g refl (λ k e. IsAmong-from ls k g e) h

-- past a token
past : (at m n : ℕ) (t : Token) (gs : List Ground) (x : Option Ground) → m ≡ counting 0 t + n → slice_get gs n ≡ x → slice_get (with_ground at t gs) m ≡ x
past at zero n (grammar.Ground number text) gs x e h = absurd (omega arith)
past at (suc m) n (grammar.Ground number text) gs x e h = let same : m ≡ n = omega arith in ap (slice_get gs) same ∙ h
past at m n t gs x e h = let same : m ≡ n = omega arith in ap (slice_get gs) same ∙ h

-- a ground term among the tokens is one of the list
slice_get-among : (lexemes : List Lexeme) (before after : List Token) (number : ℕ) (text : List ℕ) (d : Lexeme)
    → tokens_of lexemes ≡ before ++ grammar.Ground number text ∷ after
    → slice_get (grounds_of lexemes) (grounds_behind 0 before) ≡ Some record { at = (get_or lexemes (length before) d).at; text = text }
slice_get-among [] [] after number text d e = cc
slice_get-among [] (t ∷ before) after number text d e = cc
slice_get-among (l ∷ ls) [] after number text d e =
    let first : as_token l.token ≡ grammar.Ground number text = cc in
    ap (λ t. slice_get (with_ground l.at t (grounds_of ls)) 0) first
slice_get-among (l ∷ ls) (t ∷ before) after number text d e =
    let rest : tokens_of ls ≡ before ++ grammar.Ground number text ∷ after = cc in
    let first : as_token l.token ≡ t = cc in
    past l.at (grounds_behind 0 (t ∷ before)) (grounds_behind 0 before) (as_token l.token) (grounds_of ls) _
    (omega (arith, grounds_behind-from (counting 0 t) before, ap (counting 0) first))
    (slice_get-among ls before after number text d rest)

-- the token behind the first ones stands at its offset
stands_there : (text : List ℕ) (lexemes : List Lexeme) (before after : List Token) (t : Token) (d : Lexeme) → HavePlaces text lexemes
    → tokens_of lexemes ≡ before ++ t ∷ after → StandsAt text before t (get_or lexemes (length before) d).at
stands_there text lexemes before after t d places e =
    let k = length before in
    let size = length-map lexemes (λ l. as_token l.token) in
    let lt : k < length lexemes = omega (arith, size, ap length e, length-append before (t ∷ after)) in
    let here = places k d lt in
    let lexeme = get_or lexemes k d in
    let front : take k (tokens_of lexemes) ≡ before = ap (take k) e ∙ take-append_seam before (t ∷ after) in
    let same : as_token lexeme.token ≡ t =
    sym (tokens_of-at lexemes k d t lt) ∙ (ap (λ ts. get_or ts k t) e ∙ get_or-append_seam before t after t) in
    let at : lexeme.at < length text = here.within in
    record {
      here = drop lexeme.at text;
      after = here.rest;
      read = subst (λ ts. Reads 0 text ts (drop lexeme.at text)) front here.read;
      begins = subst (λ u. BeginsWithToken (drop lexeme.at text) u here.rest) same here.begins;
      numbered = subst (λ ts. HasPlace (grounds_behind 0 ts) t) front (subst (λ u. HasPlace (grounds_behind 0 (take k (tokens_of lexemes))) u) same here.numbered);
      place = omega (arith, length-drop lexeme.at text, at);
    }

-- where a token of the text stands behind some, these and the token begin the tokens of the text
begins_all : (text : List ℕ) (tokens before : List Token) (t : Token) (offset : ℕ) → AreTokensOf text tokens → StandsAt text before t offset
    → (more : List Token) × (tokens ≡ before ++ t ∷ more)
begins_all text tokens before t offset all s =
    elim (one_goes_on (Reads-push s.read s.begins s.numbered) all) [
      | inl g ↦ (g.more, g.is ∙ append_assoc before (t ∷ []) g.more)
      | inr g ↦
          let none = (Reads-end refl g.read).0 in
          ([], sym (g.is ∙ (ap (λ ts. tokens ++ ts) none ∙ append-nil tokens)))
    ]

AreGroundsOf-list : (text : List ℕ) (lexemes : List Lexeme) → AreTokensOf text (tokens_of lexemes) → HavePlaces text lexemes
    → AreGroundsOf text (grounds_of lexemes)
AreGroundsOf-list text lexemes all places place g = (there, back)
  where
    there : slice_get (grounds_of lexemes) place ≡ Some g → IsGroundAt text place g
    there h =
        let a = IsAmong-from lexemes place g h in
        let d : Lexeme = record { at = 0; token = variants.Open } in
        let s = stands_there text lexemes a.before a.after (grammar.Ground a.number g.text) d places a.is in
        let number : a.number ≡ place = s.numbered ∙ a.count in
        record {
          before = a.before;
          stands = subst (λ i. StandsAt text a.before (grammar.Ground place g.text) i) (a.at d)
              (subst (λ n. StandsAt text a.before (grammar.Ground n g.text) (get_or lexemes (length a.before) d).at) number s);
        }

    back : IsGroundAt text place g → slice_get (grounds_of lexemes) place ≡ Some g
    back s =
        let d : Lexeme = record { at = 0; token = variants.Open } in
        let split = begins_all text (tokens_of lexemes) s.before (grammar.Ground place g.text) g.at all s.stands in
        let at = StandsAt-unique (stands_there text lexemes s.before split.0 (grammar.Ground place g.text) d places split.1) s.stands in
        ap (slice_get (grounds_of lexemes)) s.stands.numbered
        ∙ (slice_get-among lexemes s.before split.0 place g.text d split.1 ∙ ap (λ i. Some record { at = i; text = g.text }) at)

-- the formula names none but these
HasPlacesBelow-list : (text : List ℕ) (lexemes : List Lexeme) (f : Formula) → HavePlaces text lexemes → IsFormula (tokens_of lexemes) f []
    → HasPlacesBelow (length (grounds_of lexemes)) f
HasPlacesBelow-list text lexemes f places whole k among =
    let d : Lexeme = record { at = 0; token = variants.Open } in
    let found = formula_places whole k among in
    let i = found.among.0 in
    let t = grammar.Ground k found.text in
    let split : tokens_of lexemes ≡ take i (tokens_of lexemes) ++ t ∷ drop (suc i) (tokens_of lexemes) =
    split_at (tokens_of lexemes) i t found.among.1 ∙ ap (λ u. take i (tokens_of lexemes) ++ u ∷ drop (suc i) (tokens_of lexemes)) found.among.2 in
    let s = stands_there text lexemes _ _ t d places split in
    slice_get_within (grounds_of lexemes) k _
    (ap (slice_get (grounds_of lexemes)) s.numbered ∙ slice_get-among lexemes (take i (tokens_of lexemes)) (drop (suc i) (tokens_of lexemes)) k found.text d split)

-- one more token
grounds_of-more : (lexemes : List Lexeme) (i : ℕ) (d : Lexeme) → i < length lexemes
    → grounds_of (take (i + 1) lexemes) ≡ grounds_of (take i lexemes) ++ with_ground (get_or lexemes i d).at (as_token (get_or lexemes i d).token) []
grounds_of-more lexemes i d lt = ap grounds_of (take_more lexemes i d lt) ∙ grounds_of-append (take i lexemes) (get_or lexemes i d ∷ [])

other_ground : (at : ℕ) (t : code.Token) → ((k : _) (x : _) → t ≡ variants.Ground k x → ⊥) → with_ground at (as_token t) [] ≡ []
other_ground at (variants.Ground k x) h = absurd (h k x refl)
other_ground at t h = refl

pub grounds_of-other : (lexemes : List Lexeme) (i : ℕ) (d : Lexeme) (gs : List Ground) → i < length lexemes → gs ≡ grounds_of (take i lexemes)
    → ((k : _) (x : _) → (get_or lexemes i d).token ≡ variants.Ground k x → ⊥) → gs ≡ grounds_of (take (i + 1) lexemes)
grounds_of-other lexemes i d gs lt same other =
    let at = (get_or lexemes i d).at in
    same ∙ sym (grounds_of-more lexemes i d lt ∙ (ap (λ hs. grounds_of (take i lexemes) ++ hs) (other_ground at (get_or lexemes i d).token other)
    ∙ append-nil (grounds_of (take i lexemes))))

pub grounds_of-pushed : (lexemes : List Lexeme) (i : ℕ) (d : Lexeme) (old new : List made.Ground) (x : made.Ground) (token : code.Token) → i < length lexemes
    → map as_ground old ≡ grounds_of (take i lexemes) → new ≡ old ++ x ∷ [] → (get_or lexemes i d).token ≡ token
    → with_ground (get_or lexemes i d).at (as_token token) [] ≡ as_ground x ∷ [] → map as_ground new ≡ grounds_of (take (i + 1) lexemes)
grounds_of-pushed lexemes i d old new x token lt same is here ground_is =
    let at = (get_or lexemes i d).at in
    ap (map as_ground) is ∙ (map-append as_ground old (x ∷ []) ∙ (ap (λ gs. gs ++ as_ground x ∷ []) same
    ∙ sym (grounds_of-more lexemes i d lt ∙ ap (λ gs. grounds_of (take i lexemes) ++ gs) (ap (λ t. with_ground at (as_token t) []) here ∙ ground_is))))

pub AreGroundsOf-all : (text : List ℕ) (lexemes : List Lexeme) (i : ℕ) (gs : List Ground) → AreTokensOf text (tokens_of lexemes) → HavePlaces text lexemes
    → length lexemes ≤ i → gs ≡ grounds_of (take i lexemes) → AreGroundsOf text gs
AreGroundsOf-all text lexemes i gs all places le same =
    subst (λ hs. AreGroundsOf text hs) (sym (same ∙ ap grounds_of (take_all i lexemes le))) (AreGroundsOf-list text lexemes all places)

-- the formula names no other than those that are written in the text
pub HasPlacesBelow-grounds : (text : List ℕ) (lexemes : List Lexeme) (f : Formula) (gs : List Ground) → AreTokensOf text (tokens_of lexemes)
    → HavePlaces text lexemes → IsFormula (tokens_of lexemes) f [] → AreGroundsOf text gs → HasPlacesBelow (length gs) f
HasPlacesBelow-grounds text lexemes f gs all places whole are =
    let same = AreGroundsOf-unique text gs (grounds_of lexemes) are (AreGroundsOf-list text lexemes all places) in
    subst (λ hs. HasPlacesBelow (length hs) f) (sym same) (HasPlacesBelow-list text lexemes f places whole)

-- what stands in the braces of a text's ground terms is short
pub AreShort-grounds : (text : List ℕ) (gs : List made.Ground) → AreGroundsOf text (map as_ground gs) → AreShort gs
AreShort-grounds text gs are k d lt =
    let here : slice_get (map as_ground gs) k ≡ Some (as_ground (get_or gs k d)) =
    slice_get-get_or (map as_ground gs) k (as_ground d) (omega (arith, length-map gs as_ground, lt)) ∙ ap Some (get_or-map as_ground gs k d (as_ground d) lt) in
    let g = ((are k (as_ground (get_or gs k d))).0 here) in
    g.stands.begins.proper.1
