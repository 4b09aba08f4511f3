-- What reading a level of formulas gives, from what reading the level below it gives.
use Rattle.std.proofs.Common.{◌≡◌, ℕ, ◌+◌, ◌<◌, ◌≤◌, List, ◌∷◌, length, Result, Err, IfErr, sym, subst, arith}
use Rattle.fort_logic.specs.Formulas as theory
use Rattle.fort_logic.specs.Formulas.{Formula}
use Rattle.fort_formula_grammar.specs.Tokens.{Token, And, Or, Imp, Iff}
use Rattle.fort_formula_grammar.specs.FormulaGrammar.{IsConjunction, IsUnary, OneSide, BothSides, Conclusion, Premise, FirstOr, MoreOr, FirstAnd, MoreAnd}
use Rattle.fort_formula_grammar.specs.Continuations.{HasNoNext}
use Rattle.fort_formula_grammar.specs.Stuck.{StuckFormula, OnTheRight, SecondIff, StuckImplication, InConclusion, StuckDisjunction, InMoreOr, StuckConjunction, InMoreAnd, StuckUnary}
use Rattle.fort_formula_grammar.proofs.NextTokens.{implication_ended, formula_ended}
use Rattle.fort_formula_parser.specs.declared.stuck.Stuck.{Stuck}
use Rattle.fort_formula_parser.specs.declared.token.Lexeme.{Lexeme}
use Rattle.fort_formula_parser.specs.declared.reading.Reading.{Reading}
use Rattle.fort_formula_parser.specs.Parsing.{rest_of, IsTokenAt, IsParsed, IsReadAs, IsJoined, IsStuckAt, IsWholeFormula, IsWholeImplication, IsWholeDisjunction, IsStartedDisjunction, IsWholeConjunction}

-- a stuck reading of one kind is one of another kind
pub IsStuckAt-as : (K L : List Token → List Token → Type 0) (lexemes : List Lexeme) (n m : ℕ) (e : Stuck)
    → ((us : List Token) → K (rest_of lexemes n) us → L (rest_of lexemes m) us) → IsStuckAt K lexemes n e → IsStuckAt L lexemes m e
IsStuckAt-as K L lexemes n m e f h = (h.0, f (rest_of lexemes e.0) h.1)

-- a fault that is handed on
pub handed_on : {T : Type 0} (K L : List Token → List Token → Type 0) (lexemes : List Lexeme) (n m : ℕ) (r : Result T Stuck) (y e : Stuck)
    → ((us : List Token) → K (rest_of lexemes n) us → L (rest_of lexemes m) us) → r ≡ Err y → y ≡ e → IsStuckAt K lexemes n e → IfErr r (IsStuckAt L lexemes m)
handed_on K L lexemes n m r y e f is same h =
    subst (λ s. IfErr s (IsStuckAt L lexemes m)) (sym is) (subst (λ z. IsStuckAt L lexemes m z) (sym same) (IsStuckAt-as K L lexemes n m e f h))

pub IsParsed-as : (K L : List Token → Formula → List Token → Type 0) (lexemes : List Lexeme) (at : ℕ) (p : Reading)
    → ((f : Formula) → K (rest_of lexemes at) f (rest_of lexemes p.next) → L (rest_of lexemes at) f (rest_of lexemes p.next))
    → IsParsed K lexemes at p → IsParsed L lexemes at p
IsParsed-as K L lexemes at p f h = record { further = h.further; within = h.within; formula = h.formula; reads = f h.formula h.reads; is_made = h.is_made }

-- a formula that was made, and what its tokens are
pub IsParsed-built : (L : List Token → Formula → List Token → Type 0) (lexemes : List Lexeme) (at next : ℕ) (g : Formula) (p : Reading) → at < next
    → next ≤ length lexemes → L (rest_of lexemes at) g (rest_of lexemes next) → IsReadAs g next p → IsParsed L lexemes at p
IsParsed-built L lexemes at next g p further within reads built =
    let place : p.next ≡ next = built.place in
    record {
      further = omega arith;
      within = omega arith;
      formula = g;
      reads = subst (λ n. L (rest_of lexemes at) g (rest_of lexemes n)) (sym place) reads;
      is_made = built.is_made;
    }

-- a reading before a token
pub before_next : (K : List Token → Formula → List Token → Type 0) (lexemes : List Lexeme) (at : ℕ) (p : Reading) (t : Token) → (h : IsParsed K lexemes at p)
    → IsTokenAt lexemes p.next t → K (rest_of lexemes at) h.formula (t ∷ rest_of lexemes (p.next + 1))
before_next K lexemes at p t h n = subst (λ us. K (rest_of lexemes at) h.formula us) n.next h.reads

-- two readings with a connective between
pub IsParsed-joined : (K1 K2 L : List Token → Formula → List Token → Type 0) (lexemes : List Lexeme) (at : ℕ) (left right p : Reading) (t : Token) (join : Formula → Formula → Formula)
    → IsParsed K1 lexemes at left → IsTokenAt lexemes left.next t → IsParsed K2 lexemes (left.next + 1) right
    → ((f g : Formula) → K1 (rest_of lexemes at) f (t ∷ rest_of lexemes (left.next + 1))
    → K2 (rest_of lexemes (left.next + 1)) g (rest_of lexemes right.next)
    → L (rest_of lexemes at) (join f g) (rest_of lexemes right.next))
    → IsJoined join left right p → IsParsed L lexemes at p
IsParsed-joined K1 K2 L lexemes at left right p t join l n r rule built =
    let a : at < left.next = l.further in
    let b : left.next + 1 < right.next = r.further in
    IsParsed-built L lexemes at right.next (join l.formula r.formula) p (omega arith) r.within
    (rule l.formula r.formula (before_next K1 lexemes at left t l n) r.reads) (built l.formula r.formula l.is_made r.is_made)

-- the levels
pub conjunction-first : (lexemes : List Lexeme) (at : ℕ) (p : Reading) → IsParsed IsUnary lexemes at p → IsParsed IsConjunction lexemes at p
conjunction-first lexemes at p h = IsParsed-as IsUnary IsConjunction lexemes at p (λ f u. FirstAnd u) h

pub conjunction-more : (lexemes : List Lexeme) (at : ℕ) (left right p : Reading) → IsParsed IsConjunction lexemes at left → IsTokenAt lexemes left.next And
    → IsParsed IsUnary lexemes (left.next + 1) right → IsJoined theory.And left right p
    → IsParsed IsConjunction lexemes at p
conjunction-more lexemes at left right p l n r built =
    IsParsed-joined IsConjunction IsUnary IsConjunction lexemes at left right p And theory.And l n r (λ f g c u. MoreAnd c u) built

pub conjunction-over : (lexemes : List Lexeme) (at : ℕ) (left : Reading) → IsParsed IsConjunction lexemes at left → IsTokenAt lexemes left.next And
    → (us : List Token) → StuckUnary (rest_of lexemes (left.next + 1)) us → StuckConjunction (rest_of lexemes at) us
conjunction-over lexemes at left l n us stuck = InMoreAnd (before_next IsConjunction lexemes at left And l n) stuck

pub disjunction-first : (lexemes : List Lexeme) (at : ℕ) (p : Reading) → IsParsed IsWholeConjunction lexemes at p → IsParsed IsStartedDisjunction lexemes at p
disjunction-first lexemes at p h = IsParsed-as IsWholeConjunction IsStartedDisjunction lexemes at p (λ f c. (FirstOr c.0, c.1)) h

pub disjunction-more : (lexemes : List Lexeme) (at : ℕ) (left right p : Reading) → IsParsed IsStartedDisjunction lexemes at left → IsTokenAt lexemes left.next Or
    → IsParsed IsWholeConjunction lexemes (left.next + 1) right → IsJoined theory.Or left right p
    → IsParsed IsStartedDisjunction lexemes at p
disjunction-more lexemes at left right p l n r built =
    IsParsed-joined IsStartedDisjunction IsWholeConjunction IsStartedDisjunction lexemes at left right p Or theory.Or l n r (λ f g d c. (MoreOr d.0 c.0, c.1)) built

pub disjunction-over : (lexemes : List Lexeme) (at : ℕ) (left : Reading) → IsParsed IsStartedDisjunction lexemes at left → IsTokenAt lexemes left.next Or
    → (us : List Token) → StuckConjunction (rest_of lexemes (left.next + 1)) us → StuckDisjunction (rest_of lexemes at) us
disjunction-over lexemes at left l n us stuck = InMoreOr (before_next IsStartedDisjunction lexemes at left Or l n).0 stuck

pub implication-alone : (lexemes : List Lexeme) (at : ℕ) (p : Reading) → IsParsed IsWholeDisjunction lexemes at p → HasNoNext Imp (rest_of lexemes p.next)
    → IsParsed IsWholeImplication lexemes at p
implication-alone lexemes at p h none =
    IsParsed-as IsWholeDisjunction IsWholeImplication lexemes at p (λ f d. (Conclusion d.0, implication_ended (rest_of lexemes p.next) d.1 none)) h

pub implication-joined : (lexemes : List Lexeme) (at : ℕ) (left right p : Reading) → IsParsed IsWholeDisjunction lexemes at left → IsTokenAt lexemes left.next Imp
    → IsParsed IsWholeImplication lexemes (left.next + 1) right → IsJoined theory.Imp left right p
    → IsParsed IsWholeImplication lexemes at p
implication-joined lexemes at left right p l n r built =
    IsParsed-joined IsWholeDisjunction IsWholeImplication IsWholeImplication lexemes at left right p Imp theory.Imp l n r (λ f g d i. (Premise d.0 i.0, i.1)) built

pub implication-over : (lexemes : List Lexeme) (at : ℕ) (left : Reading) → IsParsed IsWholeDisjunction lexemes at left → IsTokenAt lexemes left.next Imp
    → (us : List Token) → StuckImplication (rest_of lexemes (left.next + 1)) us → StuckImplication (rest_of lexemes at) us
implication-over lexemes at left l n us stuck = InConclusion (before_next IsWholeDisjunction lexemes at left Imp l n).0 stuck

pub formula-alone : (lexemes : List Lexeme) (at : ℕ) (p : Reading) → IsParsed IsWholeImplication lexemes at p → HasNoNext Iff (rest_of lexemes p.next)
    → IsParsed IsWholeFormula lexemes at p
formula-alone lexemes at p h none =
    IsParsed-as IsWholeImplication IsWholeFormula lexemes at p (λ f i. (OneSide i.0, formula_ended (rest_of lexemes p.next) i.1 none)) h

pub formula-joined : (lexemes : List Lexeme) (at : ℕ) (left right p : Reading) → IsParsed IsWholeImplication lexemes at left → IsTokenAt lexemes left.next Iff
    → IsParsed IsWholeImplication lexemes (left.next + 1) right → HasNoNext Iff (rest_of lexemes right.next)
    → IsJoined theory.Iff left right p → IsParsed IsWholeFormula lexemes at p
formula-joined lexemes at left right p l n r none built =
    IsParsed-joined IsWholeImplication IsWholeImplication IsWholeFormula lexemes at left right p Iff theory.Iff l n r
    (λ f g i j. (BothSides i.0 j.0, formula_ended (rest_of lexemes right.next) j.1 none)) built

pub formula-no_right : (lexemes : List Lexeme) (at : ℕ) (left : Reading) → IsParsed IsWholeImplication lexemes at left → IsTokenAt lexemes left.next Iff
    → (us : List Token) → StuckImplication (rest_of lexemes (left.next + 1)) us → StuckFormula (rest_of lexemes at) us
formula-no_right lexemes at left l n us stuck = OnTheRight (before_next IsWholeImplication lexemes at left Iff l n).0 stuck

pub formula-twice : (lexemes : List Lexeme) (at : ℕ) (left right : Reading) → IsParsed IsWholeImplication lexemes at left → IsTokenAt lexemes left.next Iff
    → IsParsed IsWholeImplication lexemes (left.next + 1) right → IsTokenAt lexemes right.next Iff
    → (right.next ≤ length lexemes) × StuckFormula (rest_of lexemes at) (rest_of lexemes right.next)
formula-twice lexemes at left right l n r again = (
  r.within,
  subst (λ us. StuckFormula (rest_of lexemes at) us) (sym again.next)
      (SecondIff (before_next IsWholeImplication lexemes at left Iff l n).0 (before_next IsWholeImplication lexemes (left.next + 1) right Iff r again).0),
)
