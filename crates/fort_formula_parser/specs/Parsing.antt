-- Inside: what reading a part of the tokens gives, seen by the relations of the grammar.
use Rattle.std.specs.Prelude.{◌≡◌, ℕ, ◌+◌, ◌^◌, ◌<◌, ◌≤◌, false, List, [], ◌∷◌, length, drop, slice_index_or, Result, IfOk}
use Rattle.std.specs.declared.alloc.AllocError.{AllocError}
use Rattle.fort_logic.specs.Formulas as theory
use Rattle.fort_logic.specs.Formulas.{SurfaceRel, Formula}
use Rattle.fort_formula_grammar.specs.Tokens.{Token, Open, Close, Related, Ground}
use Rattle.fort_formula_grammar.specs.ExpressionGrammar.{IsIndex}
use Rattle.fort_formula_grammar.specs.FormulaGrammar as grammar
use Rattle.fort_formula_grammar.specs.FormulaGrammar.{ByRules, IsArgument, IsRelation, IsFormula, IsImplication, IsDisjunction, IsConjunction}
use Rattle.fort_formula_grammar.specs.Continuations.{continues_formula, continues_implication, continues_disjunction, continues_conjunction}
use Rattle.fort_formulas.specs.declared.surface.Formula as code
use Rattle.fort_formulas.specs.FormulaView.{as_surface_rel, as_formula}
use Rattle.fort_formula_parser.specs.declared.stuck.Stuck.{Stuck}
use Rattle.fort_formula_parser.specs.declared.cursor.Argument.{Argument}
use Rattle.fort_formula_parser.specs.declared.cursor.Argument.TheVariants as argument
use Rattle.fort_formula_parser.specs.declared.cursor.Indexed.{Indexed}
use Rattle.fort_formula_parser.specs.declared.cursor.Relation.{Relation}
use Rattle.fort_formula_parser.specs.declared.token.Lexeme.{Lexeme}
use Rattle.fort_formula_parser.specs.declared.reading.Reading.{Reading}
use Rattle.fort_formula_parser.specs.declared.reading.Connective.{Connective}
use Rattle.fort_formula_parser.specs.declared.reading.Connective.TheVariants.{And, Or, Imp, Iff}
use Rattle.fort_formula_parser.specs.declared.reading.Quantifier.{Quantifier}
use Rattle.fort_formula_parser.specs.declared.reading.Quantifier.TheVariants.{Exists, Forall}
use Rattle.fort_formula_parser.specs.TokenView.{as_token, tokens_of}

-- the tokens from a place on
abbrev pub rest_of : List Lexeme → ℕ → List Token
rest_of lexemes at = drop at (tokens_of lexemes)

-- the token stands at the place
pub record IsTokenAt (lexemes : List Lexeme) (at : ℕ) (token : Token) : Type 0 where
  pub within : at < length lexemes
  pub next : rest_of lexemes at ≡ token ∷ rest_of lexemes (at + 1)

-- this formula was made, or memory was wanted for it
abbrev pub IsMade : Result code.Formula AllocError → Formula → Type 0
IsMade made f = IfOk made (λ g. as_formula g ≡ f)

-- from the place on the tokens are this kind of formula, up to where the reading goes on, and it was made, or memory was wanted
pub record IsParsed (kind : List Token → Formula → List Token → Type 0) (lexemes : List Lexeme) (at : ℕ) (reading : Reading) : Type 0 where
  pub further : at < reading.next
  pub within : reading.next ≤ length lexemes
  pub formula : Formula
  pub reads : kind (rest_of lexemes at) formula (rest_of lexemes reading.next)
  pub is_made : IsMade reading.made formula

-- the formula that was made, and where its tokens end
pub record IsReadAs (f : Formula) (next : ℕ) (reading : Reading) : Type 0 where
  pub is_made : IsMade reading.made f
  pub place : reading.next ≡ next

-- a reading that is made of another one, and ends there
abbrev pub IsBuilt : (Formula → Formula) → Reading → Reading → Type 0
IsBuilt build inner reading = (f : Formula) → IsMade inner.made f → IsReadAs (build f) inner.next reading

-- a reading that is made of two others, and ends where the second one does
abbrev pub IsJoined : (Formula → Formula → Formula) → Reading → Reading → Reading → Type 0
IsJoined join left right reading = (f g : Formula) → IsMade left.made f → IsMade right.made g → IsReadAs (join f g) right.next reading

-- all tokens are a formula, and it was made, or memory was wanted
pub record IsWhole (lexemes : List Lexeme) (made : Result code.Formula AllocError) : Type 0 where
  pub formula : Formula
  pub reads : IsFormula (tokens_of lexemes) formula []
  pub is_made : IsMade made formula

-- a reading of this kind comes up to the place
abbrev pub IsStuckAt : (List Token → List Token → Type 0) → List Lexeme → ℕ → Stuck → Type 0
IsStuckAt kind lexemes at stuck = (stuck.0 ≤ length lexemes) × kind (rest_of lexemes at) (rest_of lexemes stuck.0)

abbrev pub argument_of : Argument → theory.Argument
argument_of (argument.Variable x) = theory.Var x.now
argument_of (argument.Ground place) = theory.Ground place

-- the token at the place is the argument
pub record IsArgumentAt (lexemes : List Lexeme) (at : ℕ) (a : theory.Argument) : Type 0 where
  pub within : at < length lexemes
  pub reads : IsArgument (rest_of lexemes at) a (rest_of lexemes (at + 1))

-- the index at the place, or 1
pub record IsIndexAt (lexemes : List Lexeme) (at : ℕ) (found : Indexed) : Type 0 where
  pub further : at ≤ found.next
  pub within : found.next ≤ length lexemes
  pub reads : IsIndex (rest_of lexemes at) found.index (rest_of lexemes found.next)

pub record IsRelationAt (lexemes : List Lexeme) (at : ℕ) (found : Relation) : Type 0 where
  pub further : at < found.next
  pub within : found.next ≤ length lexemes
  pub reads : IsRelation (rest_of lexemes at) (ByRules (as_surface_rel found.rel) found.index) (rest_of lexemes found.next)

-- the next token is no relation by rules
abbrev pub HasNoRelated : List Token → Type 0
HasNoRelated ts = (rel : SurfaceRel) (rest : List Token) → ts ≡ Related rel ∷ rest → ⊥

-- the place of a ground term is a number of 32 bits
abbrev pub HasSmallPlace : Token → Type 0
HasSmallPlace (Ground place text) = place < 2 ^ 32
HasSmallPlace t = Unit {0}

abbrev pub AreFewGrounds : List Lexeme → Type 0
AreFewGrounds lexemes = (k : ℕ) (d : Lexeme) → k < length lexemes → HasSmallPlace (as_token (slice_index_or lexemes k d).token)

-- readings that can't go on
abbrev pub IsWholeFormula : List Token → Formula → List Token → Type 0
IsWholeFormula ts f us = IsFormula ts f us × (continues_formula us ≡ false)

abbrev pub IsWholeImplication : List Token → Formula → List Token → Type 0
IsWholeImplication ts f us = IsImplication ts f us × (continues_implication us ≡ false)

abbrev pub IsWholeDisjunction : List Token → Formula → List Token → Type 0
IsWholeDisjunction ts f us = IsDisjunction ts f us × (continues_disjunction us ≡ false)

abbrev pub IsWholeConjunction : List Token → Formula → List Token → Type 0
IsWholeConjunction ts f us = IsConjunction ts f us × (continues_conjunction us ≡ false)

-- a formula in parentheses
pub data IsBody : List Token → Formula → List Token → Type 0 where
  Body : {ts us : List Token} {f : Formula} → IsFormula ts f (Close ∷ us) → IsBody (Open ∷ ts) f us

abbrev pub connected : Connective → Formula → Formula → Formula
connected And f g = theory.And f g
connected Or f g = theory.Or f g
connected Imp f g = theory.Imp f g
connected Iff f g = theory.Iff f g

abbrev pub as_quantifier : Quantifier → grammar.Quantifier
as_quantifier Exists = grammar.Some
as_quantifier Forall = grammar.Every

-- a disjunction whose last conjunction can't go on
abbrev pub IsStartedDisjunction : List Token → Formula → List Token → Type 0
IsStartedDisjunction ts f us = IsDisjunction ts f us × (continues_conjunction us ≡ false)
