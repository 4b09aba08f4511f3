-- The tokens of an atom, one after another, are that atom; and where reading them is stuck.
use Rattle.std.proofs.Common.{◌≡◌, ℕ, ◌+◌, ◌<◌, ◌≤◌, false, List, [], ◌∷◌, Some, None, length, refl, sym, ap, ◌∙◌, subst, arith}
use Rattle.fort_theory.specs.Expressions.{Expression}
use Rattle.fort_logic.specs.Formulas as theory
use Rattle.fort_logic.specs.Formulas.{Argument, Property}
use Rattle.fort_formula_grammar.specs.Tokens.{Token, Open, Close, Comma, Related, Begin, Nf, Join, Sn, Has}
use Rattle.fort_formula_grammar.specs.ExpressionGrammar.{IsIndex}
use Rattle.fort_formula_grammar.specs.FormulaGrammar.{begins_with_open, IsArgument, IsUnary, OfExpression, Named, AllTerminating, Terminating, NormalForm, Joinable, Compared}
use Rattle.fort_formula_grammar.specs.Continuations.{begins_relation, HasNoNext, HasNoArgument}
use Rattle.fort_formula_grammar.specs.StuckExpressions.{StuckEnclosed}
use Rattle.fort_formula_grammar.specs.Stuck.{StuckUnary, NfUnopened, NfWithoutArgument, NfUnclosed, SnWithoutArgument, SnUnclosed, JoinUnopened, JoinWithoutArgument, JoinOfOne, JoinHalf, JoinUnclosed, Unrelated, InRelation, RelatedToNothing}
use Rattle.fort_relations.specs.HolesView.{as_hole_number, as_hole_place}
use Rattle.fort_formulas.specs.FormulaView.{as_surface_rel}
use Rattle.fort_formula_parser.specs.declared.token.Lexeme.{Lexeme}
use Rattle.fort_formula_parser.specs.declared.cursor.Indexed.{Indexed}
use Rattle.fort_formula_parser.specs.declared.cursor.Relation.{Relation}
use Rattle.fort_formula_parser.specs.declared.expression.EnclosedReading.{EnclosedReading}
use Rattle.fort_formula_parser.specs.declared.reading.Reading.{Reading}
use Rattle.fort_formula_parser.specs.Parsing.{rest_of, IsTokenAt, IsArgumentAt, IsIndexAt, HasNoRelated, IsRelationAt, IsMade, IsParsed}
use Rattle.fort_formula_parser.specs.ExpressionParsing.{IsRexMade, IsEnclosedAt}

-- the token at a place, before what stands at the next
pub rest_of-next : (lexemes : List Lexeme) (n m : ℕ) (t : Token) → IsTokenAt lexemes n t → n + 1 ≡ m → rest_of lexemes n ≡ t ∷ rest_of lexemes m
rest_of-next lexemes n m t h e = h.next ∙ ap (λ k. t ∷ rest_of lexemes k) e

-- a reading of the tokens from a place, under which the formula was made
pub IsParsed-unary : (lexemes : List Lexeme) (at : ℕ) (ts : List Token) (f : theory.Formula) (parsed : Reading) → at < parsed.next → parsed.next ≤ length lexemes
    → rest_of lexemes at ≡ ts → IsMade parsed.made f → IsUnary ts f (rest_of lexemes parsed.next) → IsParsed IsUnary lexemes at parsed
IsParsed-unary lexemes at ts f parsed further within e is u = record {
  further = further;
  within = within;
  formula = f;
  reads = subst (λ us. IsUnary us f (rest_of lexemes parsed.next)) (sym e) u;
  is_made = is;
}

-- an index, or an argument, and the token behind it
index_then : (lexemes : List Lexeme) (n k : ℕ) (found : Indexed) (t : Token) → IsIndexAt lexemes n found → IsTokenAt lexemes found.next t
    → found.next + 1 ≡ k → IsIndex (rest_of lexemes n) found.index (t ∷ rest_of lexemes k)
index_then lexemes n k found t i h e = subst (λ us. IsIndex (rest_of lexemes n) found.index us) (rest_of-next lexemes found.next k t h e) i.reads

argument_to : (lexemes : List Lexeme) (n m : ℕ) (a : Argument) → IsArgumentAt lexemes n a → n + 1 ≡ m → IsArgument (rest_of lexemes n) a (rest_of lexemes m)
argument_to lexemes n m a h e = subst (λ k. IsArgument (rest_of lexemes n) a (rest_of lexemes k)) e h.reads

argument_then : (lexemes : List Lexeme) (n m k : ℕ) (a : Argument) (t : Token) → IsArgumentAt lexemes n a → n + 1 ≡ m → IsTokenAt lexemes m t → m + 1 ≡ k
    → IsArgument (rest_of lexemes n) a (t ∷ rest_of lexemes k)
argument_then lexemes n m k a t h e s f =
    subst (λ us. IsArgument (rest_of lexemes n) a us) (rest_of-next lexemes m k t s f) (argument_to lexemes n m a h e)

-- a stuck reading behind a token
pub stuck_behind : (X : List Token → List Token → Type 0) (lexemes : List Lexeme) (at place : ℕ) (t : Token) → IsTokenAt lexemes at t → place ≤ length lexemes
    → X (t ∷ rest_of lexemes (at + 1)) (rest_of lexemes place) → (place ≤ length lexemes) × X (rest_of lexemes at) (rest_of lexemes place)
stuck_behind X lexemes at place t h le s = (le, subst (λ ts. X ts (rest_of lexemes place)) (sym h.next) s)

pub IsParsed-property : (lexemes : List Lexeme) (at : ℕ) (p : Property) (found : Indexed) (parsed : Reading) → IsTokenAt lexemes at (Has p)
    → IsIndexAt lexemes (at + 1) found → parsed.next ≡ found.next → IsMade parsed.made (theory.Has p found.index) → IsParsed IsUnary lexemes at parsed
IsParsed-property lexemes at p found parsed h i e is =
    let further : at + 1 ≤ found.next = i.further in
    let within : found.next ≤ length lexemes = i.within in
    IsParsed-unary lexemes at _ (theory.Has p found.index) parsed (omega arith) (omega arith) h.next is
    (subst (λ n. IsUnary (Has p ∷ rest_of lexemes (at + 1)) (theory.Has p found.index) (rest_of lexemes n)) (sym e) (Named i.reads))

unopened : (us : List Token) → HasNoNext Open us → begins_with_open us ≡ false
unopened [] none = refl
unopened (Open ∷ us) none = absurd (none us refl)
unopened (t ∷ us) none = refl

module _ (lexemes : List Lexeme) (at : ℕ) (found : Indexed) (i : IsIndexAt lexemes (at + 1) found) where
  further : at + 1 ≤ found.next
  further = i.further

  pub IsParsed-normal_form : (a : Argument) (parsed : Reading) → IsTokenAt lexemes at Nf → IsTokenAt lexemes found.next Open
      → IsArgumentAt lexemes (found.next + 1) a → IsTokenAt lexemes (found.next + 2) Close → parsed.next ≡ found.next + 3
      → IsMade parsed.made (theory.Nf a found.index) → IsParsed IsUnary lexemes at parsed
  IsParsed-normal_form a parsed n opens x closes e is =
      let last : found.next + 2 < length lexemes = closes.within in
      IsParsed-unary lexemes at _ (theory.Nf a found.index) parsed (omega (arith, further)) (omega arith) n.next is
      (NormalForm (index_then lexemes (at + 1) (found.next + 1) found Open i opens (omega arith))
      (argument_then lexemes (found.next + 1) (found.next + 2) parsed.next a Close x (omega arith) closes (omega arith)))

  pub IsParsed-all_terminating : (parsed : Reading) → IsTokenAt lexemes at Sn → HasNoNext Open (rest_of lexemes found.next) → parsed.next ≡ found.next
      → IsMade parsed.made (theory.Sn None found.index) → IsParsed IsUnary lexemes at parsed
  IsParsed-all_terminating parsed n none e is =
      let last : found.next ≤ length lexemes = i.within in
      IsParsed-unary lexemes at _ (theory.Sn None found.index) parsed (omega (arith, further)) (omega arith) n.next is
      (subst (λ k. IsUnary (Sn ∷ rest_of lexemes (at + 1)) (theory.Sn None found.index) (rest_of lexemes k)) (sym e)
      (AllTerminating i.reads (unopened (rest_of lexemes found.next) none)))

  pub IsParsed-terminating : (a : Argument) (parsed : Reading) → IsTokenAt lexemes at Sn → IsTokenAt lexemes found.next Open
      → IsArgumentAt lexemes (found.next + 1) a → IsTokenAt lexemes (found.next + 2) Close → parsed.next ≡ found.next + 3
      → IsMade parsed.made (theory.Sn (Some a) found.index) → IsParsed IsUnary lexemes at parsed
  IsParsed-terminating a parsed n opens x closes e is =
      let last : found.next + 2 < length lexemes = closes.within in
      IsParsed-unary lexemes at _ (theory.Sn (Some a) found.index) parsed (omega (arith, further)) (omega arith) n.next is
      (Terminating (index_then lexemes (at + 1) (found.next + 1) found Open i opens (omega arith))
      (argument_then lexemes (found.next + 1) (found.next + 2) parsed.next a Close x (omega arith) closes (omega arith)))

  pub IsParsed-joinable : (a b : Argument) (parsed : Reading) → IsTokenAt lexemes at Join → IsTokenAt lexemes found.next Open
      → IsArgumentAt lexemes (found.next + 1) a → IsTokenAt lexemes (found.next + 2) Comma → IsArgumentAt lexemes (found.next + 3) b
      → IsTokenAt lexemes (found.next + 4) Close → parsed.next ≡ found.next + 5 → IsMade parsed.made (theory.Join a b found.index) → IsParsed IsUnary lexemes at parsed
  IsParsed-joinable a b parsed n opens x comma y closes e is =
      let last : found.next + 4 < length lexemes = closes.within in
      IsParsed-unary lexemes at _ (theory.Join a b found.index) parsed (omega (arith, further)) (omega arith) n.next is
      (Joinable (index_then lexemes (at + 1) (found.next + 1) found Open i opens (omega arith))
      (argument_then lexemes (found.next + 1) (found.next + 2) (found.next + 3) a Comma x (omega arith) comma (omega arith))
      (argument_then lexemes (found.next + 3) (found.next + 4) parsed.next b Close y (omega arith) closes (omega arith)))

  pub stuck_nf_unopened : IsTokenAt lexemes at Nf → HasNoNext Open (rest_of lexemes found.next)
      → (found.next ≤ length lexemes) × StuckUnary (rest_of lexemes at) (rest_of lexemes found.next)
  stuck_nf_unopened n none = stuck_behind StuckUnary lexemes at found.next Nf n i.within (NfUnopened i.reads none)

  pub stuck_join_unopened : IsTokenAt lexemes at Join → HasNoNext Open (rest_of lexemes found.next)
      → (found.next ≤ length lexemes) × StuckUnary (rest_of lexemes at) (rest_of lexemes found.next)
  stuck_join_unopened n none = stuck_behind StuckUnary lexemes at found.next Join n i.within (JoinUnopened i.reads none)

  pub stuck_nf_empty : IsTokenAt lexemes at Nf → IsTokenAt lexemes found.next Open → HasNoArgument (rest_of lexemes (found.next + 1))
      → (found.next + 1 ≤ length lexemes) × StuckUnary (rest_of lexemes at) (rest_of lexemes (found.next + 1))
  stuck_nf_empty n opens none =
      let last : found.next < length lexemes = opens.within in
      stuck_behind StuckUnary lexemes at (found.next + 1) Nf n (omega arith)
      (NfWithoutArgument (index_then lexemes (at + 1) (found.next + 1) found Open i opens (omega arith)) none)

  pub stuck_sn_empty : IsTokenAt lexemes at Sn → IsTokenAt lexemes found.next Open → HasNoArgument (rest_of lexemes (found.next + 1))
      → (found.next + 1 ≤ length lexemes) × StuckUnary (rest_of lexemes at) (rest_of lexemes (found.next + 1))
  stuck_sn_empty n opens none =
      let last : found.next < length lexemes = opens.within in
      stuck_behind StuckUnary lexemes at (found.next + 1) Sn n (omega arith)
      (SnWithoutArgument (index_then lexemes (at + 1) (found.next + 1) found Open i opens (omega arith)) none)

  pub stuck_sn_unclosed : (a : Argument) → IsTokenAt lexemes at Sn → IsTokenAt lexemes found.next Open → IsArgumentAt lexemes (found.next + 1) a
      → HasNoNext Close (rest_of lexemes (found.next + 2))
      → (found.next + 2 ≤ length lexemes) × StuckUnary (rest_of lexemes at) (rest_of lexemes (found.next + 2))
  stuck_sn_unclosed a n opens x none =
      let last : found.next + 1 < length lexemes = x.within in
      stuck_behind StuckUnary lexemes at (found.next + 2) Sn n (omega arith)
      (SnUnclosed (index_then lexemes (at + 1) (found.next + 1) found Open i opens (omega arith))
      (argument_to lexemes (found.next + 1) (found.next + 2) a x (omega arith)) none)

  pub stuck_join_empty : IsTokenAt lexemes at Join → IsTokenAt lexemes found.next Open → HasNoArgument (rest_of lexemes (found.next + 1))
      → (found.next + 1 ≤ length lexemes) × StuckUnary (rest_of lexemes at) (rest_of lexemes (found.next + 1))
  stuck_join_empty n opens none =
      let last : found.next < length lexemes = opens.within in
      stuck_behind StuckUnary lexemes at (found.next + 1) Join n (omega arith)
      (JoinWithoutArgument (index_then lexemes (at + 1) (found.next + 1) found Open i opens (omega arith)) none)

  pub stuck_nf_unclosed : (a : Argument) → IsTokenAt lexemes at Nf → IsTokenAt lexemes found.next Open → IsArgumentAt lexemes (found.next + 1) a
      → HasNoNext Close (rest_of lexemes (found.next + 2))
      → (found.next + 2 ≤ length lexemes) × StuckUnary (rest_of lexemes at) (rest_of lexemes (found.next + 2))
  stuck_nf_unclosed a n opens x none =
      let last : found.next + 1 < length lexemes = x.within in
      stuck_behind StuckUnary lexemes at (found.next + 2) Nf n (omega arith)
      (NfUnclosed (index_then lexemes (at + 1) (found.next + 1) found Open i opens (omega arith))
      (argument_to lexemes (found.next + 1) (found.next + 2) a x (omega arith)) none)

  pub stuck_join_of_one : (a : Argument) → IsTokenAt lexemes at Join → IsTokenAt lexemes found.next Open → IsArgumentAt lexemes (found.next + 1) a
      → HasNoNext Comma (rest_of lexemes (found.next + 2))
      → (found.next + 2 ≤ length lexemes) × StuckUnary (rest_of lexemes at) (rest_of lexemes (found.next + 2))
  stuck_join_of_one a n opens x none =
      let last : found.next + 1 < length lexemes = x.within in
      stuck_behind StuckUnary lexemes at (found.next + 2) Join n (omega arith)
      (JoinOfOne (index_then lexemes (at + 1) (found.next + 1) found Open i opens (omega arith))
      (argument_to lexemes (found.next + 1) (found.next + 2) a x (omega arith)) none)

  pub stuck_join_half : (a : Argument) → IsTokenAt lexemes at Join → IsTokenAt lexemes found.next Open → IsArgumentAt lexemes (found.next + 1) a
      → IsTokenAt lexemes (found.next + 2) Comma → HasNoArgument (rest_of lexemes (found.next + 3))
      → (found.next + 3 ≤ length lexemes) × StuckUnary (rest_of lexemes at) (rest_of lexemes (found.next + 3))
  stuck_join_half a n opens x comma none =
      let last : found.next + 2 < length lexemes = comma.within in
      stuck_behind StuckUnary lexemes at (found.next + 3) Join n (omega arith)
      (JoinHalf (index_then lexemes (at + 1) (found.next + 1) found Open i opens (omega arith))
      (argument_then lexemes (found.next + 1) (found.next + 2) (found.next + 3) a Comma x (omega arith) comma (omega arith)) none)

  pub stuck_join_unclosed : (a b : Argument) → IsTokenAt lexemes at Join → IsTokenAt lexemes found.next Open → IsArgumentAt lexemes (found.next + 1) a
      → IsTokenAt lexemes (found.next + 2) Comma → IsArgumentAt lexemes (found.next + 3) b → HasNoNext Close (rest_of lexemes (found.next + 4))
      → (found.next + 4 ≤ length lexemes) × StuckUnary (rest_of lexemes at) (rest_of lexemes (found.next + 4))
  stuck_join_unclosed a b n opens x comma y none =
      let last : found.next + 3 < length lexemes = y.within in
      stuck_behind StuckUnary lexemes at (found.next + 4) Join n (omega arith)
      (JoinUnclosed (index_then lexemes (at + 1) (found.next + 1) found Open i opens (omega arith))
      (argument_then lexemes (found.next + 1) (found.next + 2) (found.next + 3) a Comma x (omega arith) comma (omega arith))
      (argument_to lexemes (found.next + 3) (found.next + 4) b y (omega arith)) none)

pub IsParsed-compared : (lexemes : List Lexeme) (at : ℕ) (found : Relation) (a b : Argument) (parsed : Reading) → IsArgumentAt lexemes at a
    → IsRelationAt lexemes (at + 1) found → IsArgumentAt lexemes found.next b → parsed.next ≡ found.next + 1
    → IsMade parsed.made (theory.Related (as_surface_rel found.rel) a b found.index) → IsParsed IsUnary lexemes at parsed
IsParsed-compared lexemes at found a b parsed x r y e is =
    let further : at + 1 < found.next = r.further in
    let last : found.next < length lexemes = y.within in
    record {
      further = omega arith;
      within = omega arith;
      formula = theory.Related (as_surface_rel found.rel) a b found.index;
      reads = Compared x.reads r.reads (argument_to lexemes found.next parsed.next b y (sym e));
      is_made = is;
    }

no_relation : (us : List Token) → HasNoNext Begin us → HasNoRelated us → begins_relation us ≡ false
no_relation [] begins none = refl
no_relation (Related rel ∷ us) begins none = absurd (none rel us refl)
no_relation (Begin ∷ us) begins none = absurd (begins us refl)
no_relation (t ∷ us) begins none = refl

pub stuck_unrelated : (lexemes : List Lexeme) (at : ℕ) (a : Argument) → IsArgumentAt lexemes at a → HasNoNext Begin (rest_of lexemes (at + 1))
    → HasNoRelated (rest_of lexemes (at + 1)) → (at + 1 ≤ length lexemes) × StuckUnary (rest_of lexemes at) (rest_of lexemes (at + 1))
stuck_unrelated lexemes at a x begins none =
    let last : at < length lexemes = x.within in (omega arith, Unrelated x.reads (no_relation (rest_of lexemes (at + 1)) begins none))

pub stuck_related : (lexemes : List Lexeme) (at : ℕ) (found : Relation) (a : Argument) → IsArgumentAt lexemes at a → IsRelationAt lexemes (at + 1) found
    → HasNoArgument (rest_of lexemes found.next) → (found.next ≤ length lexemes) × StuckUnary (rest_of lexemes at) (rest_of lexemes found.next)
stuck_related lexemes at found a x r none = (r.within, RelatedToNothing x.reads r.reads none)

-- an expression between the arguments
pub IsParsed-in_context : (lexemes : List Lexeme) (at : ℕ) (found : EnclosedReading) (a b : Argument) (parsed : Reading) → IsArgumentAt lexemes at a
    → IsEnclosedAt lexemes (at + 1) found → IsArgumentAt lexemes found.next b → parsed.next ≡ found.next + 1
    → ((e : Expression) → IsRexMade found.made e → IsMade parsed.made (theory.InContext e (as_hole_number found.holes) (as_hole_place found.place) a b))
    → IsParsed IsUnary lexemes at parsed
IsParsed-in_context lexemes at found a b parsed x r y e is =
    let further : at + 1 < found.next = r.further in
    let last : found.next < length lexemes = y.within in
    record {
      further = omega arith;
      within = omega arith;
      formula = theory.InContext r.expression (as_hole_number found.holes) (as_hole_place found.place) a b;
      reads = Compared x.reads (OfExpression r.reads) (argument_to lexemes found.next parsed.next b y (sym e));
      is_made = is r.expression r.is_made;
    }

pub stuck_in_relation : (lexemes : List Lexeme) (at : ℕ) (a : Argument) → IsArgumentAt lexemes at a → (us : List Token)
    → StuckEnclosed (rest_of lexemes (at + 1)) us → StuckUnary (rest_of lexemes at) us
stuck_in_relation lexemes at a x us stuck = InRelation x.reads stuck

pub stuck_in_context : (lexemes : List Lexeme) (at : ℕ) (found : EnclosedReading) (a : Argument) → IsArgumentAt lexemes at a → IsEnclosedAt lexemes (at + 1) found
    → HasNoArgument (rest_of lexemes found.next) → (found.next ≤ length lexemes) × StuckUnary (rest_of lexemes at) (rest_of lexemes found.next)
stuck_in_context lexemes at found a x r none = (r.within, RelatedToNothing x.reads (OfExpression r.reads) none)
