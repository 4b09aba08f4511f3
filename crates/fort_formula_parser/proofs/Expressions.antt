-- The tokens of an expression, one after another, are that expression; and where reading them is stuck.
use Rattle.std.proofs.Common.{◌≡◌, ℕ, ◌+◌, ◌<◌, ◌≤◌, List, ◌∷◌, length, Contains, refl, sym, ap, ◌∙◌, subst, arith}
use Rattle.fort_theory.specs.Expressions.{Expression, RootSteps}
use Rattle.fort_theory.specs.Contexts.{HoleNumber, HolePlace}
use Rattle.fort_logic.specs.Formulas.{Name}
use Rattle.fort_formula_grammar.specs.Tokens.{Token, Open, Close, Comma, Begin, End, Variable}
use Rattle.fort_formula_grammar.specs.ExpressionGrammar.{OneOperand, TwoOperands, of_one, of_two, root_word, one_word, two_word, number_word, place_word, expression_words, number_words, place_words, IsExpression, OfRoot, OfOne, OfTwo, IsEnclosed, Between}
use Rattle.fort_formula_grammar.specs.Continuations.{HasNoNext, HasNoVariable, HasNoWord}
use Rattle.fort_formula_grammar.specs.StuckExpressions.{StuckExpression, NoExpression, OneUnopened, InOne, OneUnclosed, TwoUnopened, InFirst, FirstAlone, InSecond, TwoUnclosed, StuckEnclosed, InExpression, ExpressionAlone, NoNumber, NumberAlone, NoPlace, Unended}
use Rattle.fort_formula_grammar.proofs.ExpressionWords.{number_word-among, place_word-among}
use Rattle.fort_relations.specs.HolesView.{as_hole_number, as_hole_place}
use Rattle.fort_formula_parser.specs.declared.token.Lexeme.{Lexeme}
use Rattle.fort_formula_parser.specs.declared.cursor.Indexed.{Indexed}
use Rattle.fort_formula_parser.specs.declared.expression.RexReading.{RexReading}
use Rattle.fort_formula_parser.specs.declared.expression.EnclosedReading.{EnclosedReading}
use Rattle.fort_formula_parser.specs.Parsing.{rest_of, IsTokenAt, IsIndexAt}
use Rattle.fort_formula_parser.specs.ExpressionParsing.{IsRexMade, IsExpressionAt, IsEnclosedAt}
use Rattle.fort_formula_parser.proofs.Atoms.{rest_of-next, stuck_behind}

-- words
pub no_word_unnamed : (words : List Name) (ts : List Token) → HasNoVariable ts → HasNoWord words ts
no_word_unnamed words ts none x rest among e = none x rest e

pub no_word_other : (words : List Name) (lexemes : List Lexeme) (at : ℕ) (w : Name) → IsTokenAt lexemes at (Variable w) → (Contains words w → ⊥)
    → HasNoWord words (rest_of lexemes at)
no_word_other words lexemes at w named other x rest among e =
    let tokens : Variable w ∷ rest_of lexemes (at + 1) ≡ Variable x ∷ rest = sym named.next ∙ e in
    let same : x ≡ w = cc in
    other (subst (Contains words) same among)

pub stuck_no_word : (lexemes : List Lexeme) (at : ℕ) → at ≤ length lexemes → HasNoWord expression_words (rest_of lexemes at)
    → (at ≤ length lexemes) × StuckExpression (rest_of lexemes at) (rest_of lexemes at)
stuck_no_word lexemes at le none = (le, NoExpression none)

-- a reading from a place, under which the expression was made
IsExpressionAt-as : (lexemes : List Lexeme) (at next : ℕ) (ts : List Token) (e : Expression) (p : RexReading) → at < next → next ≤ length lexemes
    → rest_of lexemes at ≡ ts → p.next ≡ next → IsRexMade p.made e → IsExpression ts e (rest_of lexemes next) → IsExpressionAt lexemes at p
IsExpressionAt-as lexemes at next ts e p further within is place made reads = record {
  further = omega arith;
  within = omega arith;
  expression = e;
  reads = subst (λ us. IsExpression us e (rest_of lexemes p.next)) (sym is) (subst (λ n. IsExpression ts e (rest_of lexemes n)) (sym place) reads);
  is_made = made;
}

-- an expression, and the token behind it
expression_then : (lexemes : List Lexeme) (at : ℕ) (p : RexReading) (t : Token) → (h : IsExpressionAt lexemes at p) → IsTokenAt lexemes p.next t
    → IsExpression (rest_of lexemes at) h.expression (t ∷ rest_of lexemes (p.next + 1))
expression_then lexemes at p t h n = subst (λ us. IsExpression (rest_of lexemes at) h.expression us) n.next h.reads

pub IsExpressionAt-root : (lexemes : List Lexeme) (at : ℕ) (found : Indexed) (p : RexReading) → IsTokenAt lexemes at (Variable root_word)
    → IsIndexAt lexemes (at + 1) found → p.next ≡ found.next → IsRexMade p.made (RootSteps found.index) → IsExpressionAt lexemes at p
IsExpressionAt-root lexemes at found p named i place made =
    let further : at + 1 ≤ found.next = i.further in
    IsExpressionAt-as lexemes at found.next _ (RootSteps found.index) p (omega arith) i.within named.next place made (OfRoot refl i.reads)

-- behind a word and a (
opened : (lexemes : List Lexeme) (at : ℕ) (w : Name) → IsTokenAt lexemes at (Variable w) → IsTokenAt lexemes (at + 1) Open
    → rest_of lexemes at ≡ Variable w ∷ Open ∷ rest_of lexemes (at + 2)
opened lexemes at w named opens =
    named.next ∙ ap (λ ts. Variable w ∷ ts) (rest_of-next lexemes (at + 1) (at + 2) Open opens (omega arith))

stuck_opened : (lexemes : List Lexeme) (at : ℕ) (w : Name) (us : List Token) → IsTokenAt lexemes at (Variable w) → IsTokenAt lexemes (at + 1) Open
    → StuckExpression (Variable w ∷ Open ∷ rest_of lexemes (at + 2)) us → StuckExpression (rest_of lexemes at) us
stuck_opened lexemes at w us named opens s = subst (λ ts. StuckExpression ts us) (sym (opened lexemes at w named opens)) s

module _ (lexemes : List Lexeme) (at : ℕ) (op : OneOperand) (named : IsTokenAt lexemes at (Variable (one_word op))) where
  pub stuck_one_unopened : HasNoNext Open (rest_of lexemes (at + 1))
      → (at + 1 ≤ length lexemes) × StuckExpression (rest_of lexemes at) (rest_of lexemes (at + 1))
  stuck_one_unopened none =
      let last : at < length lexemes = named.within in
      stuck_behind StuckExpression lexemes at (at + 1) (Variable (one_word op)) named (omega arith) (OneUnopened op refl none)

  pub stuck_in_one : IsTokenAt lexemes (at + 1) Open → (us : List Token) → StuckExpression (rest_of lexemes (at + 2)) us
      → StuckExpression (rest_of lexemes at) us
  stuck_in_one opens us s = stuck_opened lexemes at (one_word op) us named opens (InOne op refl s)

  pub stuck_one_unclosed : (inner : RexReading) → IsTokenAt lexemes (at + 1) Open → IsExpressionAt lexemes (at + 2) inner
      → HasNoNext Close (rest_of lexemes inner.next) → (inner.next ≤ length lexemes) × StuckExpression (rest_of lexemes at) (rest_of lexemes inner.next)
  stuck_one_unclosed inner opens h none =
      (h.within, stuck_opened lexemes at (one_word op) (rest_of lexemes inner.next) named opens (OneUnclosed op refl h.reads none))

  pub IsExpressionAt-one : (inner p : RexReading) → IsTokenAt lexemes (at + 1) Open → IsExpressionAt lexemes (at + 2) inner
      → IsTokenAt lexemes inner.next Close → p.next ≡ inner.next + 1 → ((e : Expression) → IsRexMade inner.made e → IsRexMade p.made (of_one op e))
      → IsExpressionAt lexemes at p
  IsExpressionAt-one inner p opens h closes place made =
      let further : at + 2 < inner.next = h.further in
      let last : inner.next < length lexemes = closes.within in
      IsExpressionAt-as lexemes at (inner.next + 1) _ (of_one op h.expression) p (omega arith) (omega arith) (opened lexemes at (one_word op) named opens) place
      (made h.expression h.is_made) (OfOne op refl (expression_then lexemes (at + 2) inner Close h closes))

module _ (lexemes : List Lexeme) (at : ℕ) (op : TwoOperands) (named : IsTokenAt lexemes at (Variable (two_word op))) where
  pub stuck_two_unopened : HasNoNext Open (rest_of lexemes (at + 1))
      → (at + 1 ≤ length lexemes) × StuckExpression (rest_of lexemes at) (rest_of lexemes (at + 1))
  stuck_two_unopened none =
      let last : at < length lexemes = named.within in
      stuck_behind StuckExpression lexemes at (at + 1) (Variable (two_word op)) named (omega arith) (TwoUnopened op refl none)

  pub stuck_in_first : IsTokenAt lexemes (at + 1) Open → (us : List Token) → StuckExpression (rest_of lexemes (at + 2)) us
      → StuckExpression (rest_of lexemes at) us
  stuck_in_first opens us s = stuck_opened lexemes at (two_word op) us named opens (InFirst op refl s)

  pub stuck_first_alone : (first : RexReading) → IsTokenAt lexemes (at + 1) Open → IsExpressionAt lexemes (at + 2) first
      → HasNoNext Comma (rest_of lexemes first.next) → (first.next ≤ length lexemes) × StuckExpression (rest_of lexemes at) (rest_of lexemes first.next)
  stuck_first_alone first opens h none =
      (h.within, stuck_opened lexemes at (two_word op) (rest_of lexemes first.next) named opens (FirstAlone op refl h.reads none))

  pub stuck_in_second : (first : RexReading) → IsTokenAt lexemes (at + 1) Open → IsExpressionAt lexemes (at + 2) first → IsTokenAt lexemes first.next Comma
      → (us : List Token) → StuckExpression (rest_of lexemes (first.next + 1)) us → StuckExpression (rest_of lexemes at) us
  stuck_in_second first opens h comma us s =
      stuck_opened lexemes at (two_word op) us named opens (InSecond op refl (expression_then lexemes (at + 2) first Comma h comma) s)

  pub stuck_two_unclosed : (first second : RexReading) → IsTokenAt lexemes (at + 1) Open → IsExpressionAt lexemes (at + 2) first
      → IsTokenAt lexemes first.next Comma → IsExpressionAt lexemes (first.next + 1) second → HasNoNext Close (rest_of lexemes second.next)
      → (second.next ≤ length lexemes) × StuckExpression (rest_of lexemes at) (rest_of lexemes second.next)
  stuck_two_unclosed first second opens h comma k none = (
    k.within,
    stuck_opened lexemes at (two_word op) (rest_of lexemes second.next) named opens
        (TwoUnclosed op refl (expression_then lexemes (at + 2) first Comma h comma) k.reads none),
  )

  pub IsExpressionAt-two : (first second p : RexReading) → IsTokenAt lexemes (at + 1) Open → IsExpressionAt lexemes (at + 2) first
      → IsTokenAt lexemes first.next Comma → IsExpressionAt lexemes (first.next + 1) second → IsTokenAt lexemes second.next Close
      → p.next ≡ second.next + 1 → ((a b : Expression) → IsRexMade first.made a → IsRexMade second.made b → IsRexMade p.made (of_two op a b))
      → IsExpressionAt lexemes at p
  IsExpressionAt-two first second p opens h comma k closes place made =
      let further : at + 2 < first.next = h.further in
      let behind : first.next + 1 < second.next = k.further in
      let last : second.next < length lexemes = closes.within in
      IsExpressionAt-as lexemes at (second.next + 1) _ (of_two op h.expression k.expression) p (omega arith) (omega arith)
      (opened lexemes at (two_word op) named opens) place (made h.expression k.expression h.is_made k.is_made)
      (OfTwo op refl (expression_then lexemes (at + 2) first Comma h comma) (expression_then lexemes (first.next + 1) second Close k closes))

-- in brackets
module _ (lexemes : List Lexeme) (at : ℕ) (begins : IsTokenAt lexemes at Begin) where
  stuck_begun : (us : List Token) → StuckEnclosed (Begin ∷ rest_of lexemes (at + 1)) us → StuckEnclosed (rest_of lexemes at) us
  stuck_begun us s = subst (λ ts. StuckEnclosed ts us) (sym begins.next) s

  pub stuck_in_expression : (us : List Token) → StuckExpression (rest_of lexemes (at + 1)) us → StuckEnclosed (rest_of lexemes at) us
  stuck_in_expression us s = stuck_begun us (InExpression s)

  module _ (inner : RexReading) (h : IsExpressionAt lexemes (at + 1) inner) where
    pub stuck_expression_alone : HasNoNext Comma (rest_of lexemes inner.next)
        → (inner.next ≤ length lexemes) × StuckEnclosed (rest_of lexemes at) (rest_of lexemes inner.next)
    stuck_expression_alone none = (h.within, stuck_begun (rest_of lexemes inner.next) (ExpressionAlone h.reads none))

    -- the tokens behind the expression
    abbrev Reads : List Token → Type 0
    Reads us = IsExpression (rest_of lexemes (at + 1)) h.expression us

    to_comma : IsTokenAt lexemes inner.next Comma → Reads (Comma ∷ rest_of lexemes (inner.next + 1))
    to_comma comma = expression_then lexemes (at + 1) inner Comma h comma

    to_number : (x : Name) → IsTokenAt lexemes inner.next Comma → IsTokenAt lexemes (inner.next + 1) (Variable x)
        → Reads (Comma ∷ Variable x ∷ rest_of lexemes (inner.next + 2))
    to_number x comma number =
        subst (λ us. Reads (Comma ∷ us)) (rest_of-next lexemes (inner.next + 1) (inner.next + 2) (Variable x) number (omega arith)) (to_comma comma)

    to_second_comma : (x : Name) → IsTokenAt lexemes inner.next Comma → IsTokenAt lexemes (inner.next + 1) (Variable x)
        → IsTokenAt lexemes (inner.next + 2) Comma → Reads (Comma ∷ Variable x ∷ Comma ∷ rest_of lexemes (inner.next + 3))
    to_second_comma x comma number second =
        subst (λ us. Reads (Comma ∷ Variable x ∷ us)) (rest_of-next lexemes (inner.next + 2) (inner.next + 3) Comma second (omega arith))
        (to_number x comma number)

    to_place : (x y : Name) → IsTokenAt lexemes inner.next Comma → IsTokenAt lexemes (inner.next + 1) (Variable x)
        → IsTokenAt lexemes (inner.next + 2) Comma → IsTokenAt lexemes (inner.next + 3) (Variable y)
        → Reads (Comma ∷ Variable x ∷ Comma ∷ Variable y ∷ rest_of lexemes (inner.next + 4))
    to_place x y comma number second place =
        subst (λ us. Reads (Comma ∷ Variable x ∷ Comma ∷ us)) (rest_of-next lexemes (inner.next + 3) (inner.next + 4) (Variable y) place (omega arith))
        (to_second_comma x comma number second)

    pub stuck_no_number : IsTokenAt lexemes inner.next Comma → HasNoWord number_words (rest_of lexemes (inner.next + 1))
        → (inner.next + 1 ≤ length lexemes) × StuckEnclosed (rest_of lexemes at) (rest_of lexemes (inner.next + 1))
    stuck_no_number comma none =
        let last : inner.next < length lexemes = comma.within in
        (omega arith, stuck_begun (rest_of lexemes (inner.next + 1)) (NoNumber (to_comma comma) none))

    pub stuck_number_alone : (number : HoleNumber) → IsTokenAt lexemes inner.next Comma → IsTokenAt lexemes (inner.next + 1) (Variable (number_word number))
        → HasNoNext Comma (rest_of lexemes (inner.next + 2))
        → (inner.next + 2 ≤ length lexemes) × StuckEnclosed (rest_of lexemes at) (rest_of lexemes (inner.next + 2))
    stuck_number_alone number comma said none =
        let last : inner.next + 1 < length lexemes = said.within in
        (omega arith, stuck_begun (rest_of lexemes (inner.next + 2)) (NumberAlone (number_word-among number) (to_number (number_word number) comma said) none))

    pub stuck_no_place : (number : HoleNumber) → IsTokenAt lexemes inner.next Comma → IsTokenAt lexemes (inner.next + 1) (Variable (number_word number))
        → IsTokenAt lexemes (inner.next + 2) Comma → HasNoWord place_words (rest_of lexemes (inner.next + 3))
        → (inner.next + 3 ≤ length lexemes) × StuckEnclosed (rest_of lexemes at) (rest_of lexemes (inner.next + 3))
    stuck_no_place number comma said second none =
        let last : inner.next + 2 < length lexemes = second.within in
        (omega arith, stuck_begun (rest_of lexemes (inner.next + 3)) (NoPlace (number_word-among number) (to_second_comma (number_word number) comma said second) none))

    pub stuck_unended : (number : HoleNumber) (place : HolePlace) → IsTokenAt lexemes inner.next Comma → IsTokenAt lexemes (inner.next + 1) (Variable (number_word number))
        → IsTokenAt lexemes (inner.next + 2) Comma → IsTokenAt lexemes (inner.next + 3) (Variable (place_word place)) → HasNoNext End (rest_of lexemes (inner.next + 4))
        → (inner.next + 4 ≤ length lexemes) × StuckEnclosed (rest_of lexemes at) (rest_of lexemes (inner.next + 4))
    stuck_unended number place comma said second there none =
        let last : inner.next + 3 < length lexemes = there.within in (
          omega arith,
          stuck_begun (rest_of lexemes (inner.next + 4)) (Unended (number_word-among number) (place_word-among place)
              (to_place (number_word number) (place_word place) comma said second there) none),
        )

    pub IsEnclosedAt-ended : (p : EnclosedReading) → IsTokenAt lexemes inner.next Comma → IsTokenAt lexemes (inner.next + 1) (Variable (number_word (as_hole_number p.holes)))
        → IsTokenAt lexemes (inner.next + 2) Comma → IsTokenAt lexemes (inner.next + 3) (Variable (place_word (as_hole_place p.place)))
        → IsTokenAt lexemes (inner.next + 4) End → p.next ≡ inner.next + 5 → p.made ≡ inner.made → IsEnclosedAt lexemes at p
    IsEnclosedAt-ended p comma said second there ends e same =
        let further : at + 1 < inner.next = h.further in
        let last : inner.next + 4 < length lexemes = ends.within in
        let number = as_hole_number p.holes in
        let place = as_hole_place p.place in
        let x = number_word number in
        let y = place_word place in
        let behind : rest_of lexemes (inner.next + 4) ≡ End ∷ rest_of lexemes p.next = rest_of-next lexemes (inner.next + 4) p.next End ends (omega arith) in
        let whole = Between refl refl (subst (λ us. Reads (Comma ∷ Variable x ∷ Comma ∷ Variable y ∷ us)) behind (to_place x y comma said second there)) in
        record {
          further = omega arith;
          within = omega arith;
          expression = h.expression;
          reads = subst (λ ts. IsEnclosed ts h.expression number place (rest_of lexemes p.next)) (sym begins.next) whole;
          is_made = subst (λ made. IsRexMade made h.expression) (sym same) h.is_made;
        }
