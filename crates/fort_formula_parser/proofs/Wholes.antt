-- From the tokens of a text to its formula or its first fault.
use Rattle.std.proofs.Common.{◌≡◌, ℕ, ◌+◌, ◌^◌, ◌<◌, ◌≤◌, List, [], ◌∷◌, ◌++◌, length, get_or, take, drop, Result, Ok, sym, ap, ◌∙◌, subst, arith}
use Rattle.std.proofs.lemmas.List.{length-map, length-drop, drop_more, drop_all, take-append-drop, append_cancel_right}
use Rattle.fort_logic.specs.Formulas as theory
use Rattle.fort_formula_grammar.specs.Tokens.{Open}
use Rattle.fort_formula_grammar.specs.TokenText.{HasPlace, grounds_behind, Reads, AreTokensOf}
use Rattle.fort_formula_grammar.specs.FormulaGrammar.{IsFormula}
use Rattle.fort_formula_grammar.specs.Continuations.{continues_formula}
use Rattle.fort_formula_grammar.specs.Stuck.{StuckWhole, BehindFormula}
use Rattle.fort_formula_grammar.specs.FormulaText as fault
use Rattle.fort_formula_grammar.specs.FormulaText.{most_tokens, AreShallow, GoesWrongAt, AtToken, AtEnd, IsFormulaText, IsFirstFormulaFault, Long, Deep, NoFormula, OpensTooMany}
use Rattle.fort_formula_grammar.proofs.StuckPlaces.{goes_wrong_at_token, goes_wrong_at_end}
use Rattle.std.specs.declared.alloc.AllocError.{AllocError}
use Rattle.fort_formulas.specs.declared.surface.Formula as code
use Rattle.fort_formulas.specs.FormulaView.{as_formula}
use Rattle.fort_formulas.specs.NumbersNeeded.{numbers_needed}
use Rattle.fort_formula_parser.specs.declared.token.Lexeme.{Lexeme}
use Rattle.fort_formula_parser.specs.declared.reading.Reading.{Reading}
use Rattle.fort_formula_parser.specs.TokenView.{as_token, tokens_of}
use Rattle.fort_formula_parser.specs.Places.{HavePlaces}
use Rattle.fort_formula_parser.specs.Parsing.{rest_of, IsMade, IsParsed, IsWholeFormula, IsWhole}
use Rattle.fort_formula_parser.proofs.FewNumbers.{IsFormula-few}
use Rattle.fort_formula_parser.proofs.PlacesLaws.{tokens_of-at}

tokens_of-length : (lexemes : List Lexeme) → length (tokens_of lexemes) ≡ length lexemes
tokens_of-length lexemes = length-map lexemes (λ l. as_token l.token)

-- tokens behind a formula
pub stuck_behind_formula : (lexemes : List Lexeme) (p : Reading) → IsParsed IsWholeFormula lexemes 0 p → p.next < length lexemes
    → (p.next ≤ length lexemes) × StuckWhole (tokens_of lexemes) (rest_of lexemes p.next)
stuck_behind_formula lexemes p h lt =
    let size = tokens_of-length lexemes in
    let here = drop_more (tokens_of lexemes) p.next Open (omega (arith, size, lt)) in (
      h.within,
      subst (λ us. StuckWhole (tokens_of lexemes) us) (sym here)
          (BehindFormula (subst (λ us. IsFormula (tokens_of lexemes) h.formula us) here h.reads.0) (ap continues_formula (sym here) ∙ h.reads.1)),
    )

-- a formula up to the end
pub IsWhole-parsed : (lexemes : List Lexeme) (p : Reading) → IsParsed IsWholeFormula lexemes 0 p → length lexemes ≤ p.next → IsWhole lexemes p.made
IsWhole-parsed lexemes p h le =
    let end : rest_of lexemes p.next ≡ [] = drop_all p.next (tokens_of lexemes) (omega (arith, tokens_of-length lexemes, le)) in record {
      formula = h.formula;
      reads = subst (λ us. IsFormula (tokens_of lexemes) h.formula us) end h.reads.0;
      is_made = h.is_made;
    }

-- the formula that was made of all tokens
pub IsFormula-made : (lexemes : List Lexeme) (made : Result code.Formula AllocError) (g : code.Formula) → IsWhole lexemes made → made ≡ Ok g
    → IsFormula (tokens_of lexemes) (as_formula g) []
IsFormula-made lexemes made g w e =
    let same : as_formula g ≡ w.formula = subst (λ m. IsMade m w.formula) e w.is_made in subst (λ f. IsFormula (tokens_of lexemes) f []) (sym same) w.reads

pub IsFormulaText-tokens : (text : List ℕ) (lexemes : List Lexeme) (f : theory.Formula) → AreTokensOf text (tokens_of lexemes) → length lexemes ≤ most_tokens
    → AreShallow (tokens_of lexemes) → IsFormula (tokens_of lexemes) f [] → IsFormulaText text f
IsFormulaText-tokens text lexemes f read le shallow whole =
    let size = tokens_of-length lexemes in record {
      tokens = tokens_of lexemes;
      read = read;
      few = omega (arith, size, le);
      shallow = shallow;
      formula = whole;
    }

pub too_long : (text : List ℕ) (lexemes : List Lexeme) → AreTokensOf text (tokens_of lexemes) → most_tokens < length lexemes → IsFirstFormulaFault text fault.TooLong
too_long text lexemes read lt = let size = tokens_of-length lexemes in Long (tokens_of lexemes) read (omega (arith, size, lt))

pub too_deep : (text : List ℕ) (lexemes : List Lexeme) (offset : ℕ) → AreTokensOf text (tokens_of lexemes) → length lexemes ≤ most_tokens → OpensTooMany text offset
    → IsFirstFormulaFault text (fault.TooDeep offset)
too_deep text lexemes offset read le opens = let size = tokens_of-length lexemes in Deep (tokens_of lexemes) read (omega (arith, size, le)) offset opens

-- the offset where the tokens are stuck
pub goes_wrong_there : (text : List ℕ) (lexemes : List Lexeme) (place : ℕ) (d : Lexeme) → HavePlaces text lexemes → place < length lexemes
    → StuckWhole (tokens_of lexemes) (rest_of lexemes place) → GoesWrongAt text (tokens_of lexemes) (get_or lexemes place d).at
goes_wrong_there text lexemes place d places lt stuck =
    let here = places place d lt in
    let lexeme = get_or lexemes place d in
    let t = as_token lexeme.token in
    let size = tokens_of-length lexemes in
    let next : rest_of lexemes place ≡ t ∷ rest_of lexemes (place + 1) =
    drop_more (tokens_of lexemes) place Open (omega (arith, size, lt)) ∙ ap (λ u. u ∷ rest_of lexemes (place + 1)) (tokens_of-at lexemes place d Open lt) in
    let wrong = goes_wrong_at_token (subst (λ us. StuckWhole (tokens_of lexemes) us) next stuck) in
    let whole : tokens_of lexemes ≡ take place (tokens_of lexemes) ++ t ∷ rest_of lexemes (place + 1) =
    sym (take-append-drop place (tokens_of lexemes)) ∙ ap (λ us. take place (tokens_of lexemes) ++ us) next in
    let front : wrong.0 ≡ take place (tokens_of lexemes) =
    append_cancel_right wrong.0 (take place (tokens_of lexemes)) (t ∷ rest_of lexemes (place + 1)) (sym wrong.1.0 ∙ whole) in
    let at : lexeme.at < length text = here.within in
    AtToken wrong.0 (rest_of lexemes (place + 1)) t lexeme.at wrong.1.0 wrong.1.1 wrong.1.2
    record {
      here = drop lexeme.at text;
      after = here.rest;
      read = subst (λ ts. Reads 0 text ts (drop lexeme.at text)) (sym front) here.read;
      begins = here.begins;
      numbered = subst (λ ts. HasPlace (grounds_behind 0 ts) t) (sym front) here.numbered;
      place = omega (arith, length-drop lexeme.at text, at);
    }

pub goes_wrong_behind : (text : List ℕ) (lexemes : List Lexeme) (place : ℕ) → length lexemes ≤ place → StuckWhole (tokens_of lexemes) (rest_of lexemes place)
    → GoesWrongAt text (tokens_of lexemes) (length text)
goes_wrong_behind text lexemes place le stuck =
    let size = tokens_of-length lexemes in
    let none : rest_of lexemes place ≡ [] = drop_all place (tokens_of lexemes) (omega (arith, size, le)) in
    let wrong = goes_wrong_at_end (subst (λ us. StuckWhole (tokens_of lexemes) us) none stuck) in
    AtEnd wrong.0 wrong.1

pub no_formula : (text : List ℕ) (lexemes : List Lexeme) (offset : ℕ) → AreTokensOf text (tokens_of lexemes) → length lexemes ≤ most_tokens
    → AreShallow (tokens_of lexemes) → GoesWrongAt text (tokens_of lexemes) offset → IsFirstFormulaFault text (fault.Syntax offset)
no_formula text lexemes offset read le shallow wrong =
    let size = tokens_of-length lexemes in NoFormula (tokens_of lexemes) read (omega (arith, size, le)) shallow offset wrong

-- the formula that these tokens are needs few numbers
pub few_numbers : (lexemes : List Lexeme) (f : theory.Formula) → IsFormula (tokens_of lexemes) f [] → length lexemes ≤ most_tokens
    → numbers_needed f < 2 ^ 32
few_numbers lexemes f whole le = let size = tokens_of-length lexemes in IsFormula-few (tokens_of lexemes) f whole (omega (arith, size, le))
