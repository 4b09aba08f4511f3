-- Where reading an expression is stuck it is so before any tokens that begin alike, what was read can be completed, and no
-- expression begins the tokens.
use Rattle.std.proofs.Common.{◌≡◌, List, [], ◌∷◌, Contains, refl, sym, ◌∙◌, subst}
use Rattle.fort_theory.proofs.Members.{Contains-head}
use Rattle.fort_theory.specs.Expressions.{Expression, RootSteps, Inverse}
use Rattle.fort_theory.specs.Contexts.{HoleNumber, OneHole, HolePlace, AtTheRoot}
use Rattle.fort_logic.specs.Formulas.{Name}
use Rattle.fort_formula_grammar.specs.Tokens.{Token, Open, Close, Comma, Begin, End, Variable}
use Rattle.fort_formula_grammar.specs.ExpressionGrammar.{LeftOut, OneOperand, Inv, Clos, TwoOperands, Uni, Comp, root_word, one_word, two_word, number_word, place_word, expression_words, number_words, place_words, IsExpression, OfRoot, OfOne, OfTwo, IsEnclosed, Between}
use Rattle.fort_formula_grammar.specs.Continuations.{HasNoNext, HasNoExpression, HasNoWord}
use Rattle.fort_formula_grammar.specs.StuckExpressions.{StuckExpression, StuckEnclosed, NoExpression, OneUnopened, InOne, OneUnclosed, TwoUnopened, InFirst, FirstAlone, InSecond, TwoUnclosed, InExpression, ExpressionAlone, NoNumber, NumberAlone, NoPlace, Unended}
use Rattle.fort_formula_grammar.proofs.LocalParts.{Local-back, Local-then}
use Rattle.fort_formula_grammar.proofs.ExpressionLocal.{expression-local}
use Rattle.fort_formula_grammar.proofs.ExpressionWords.{root-not_one, root-not_two, one-not_two, one_word-among, two_word-among, number_word-among, place_word-among, number_among, place_among}
use Rattle.fort_formula_grammar.proofs.IndexUnique.{same_behind}
use Rattle.fort_formula_grammar.proofs.ExpressionUnique.{same_variable, IsExpression-unique}
use Rattle.fort_formula_grammar.proofs.FirstTokens.{next_same, word_same}
use Rattle.fort_formula_grammar.proofs.StuckReadings.{IsStuck, IsStuck-then, IsStuck-here, IsStuck-behind, IsStuck-closed}

abbrev AnExpression : List Token → List Token → Type 0
AnExpression ts us = (e : Expression) × IsExpression ts e us

abbrev pub AnEnclosed : List Token → List Token → Type 0
AnEnclosed ts us = (e : Expression) × ((number : HoleNumber) × ((place : HolePlace) × IsEnclosed ts e number place us))

-- what completes readings: root steps where no index follows, the converse of such steps, and where the holes are
abbrev root : Token
root = Variable root_word

abbrev number_token : Token
number_token = Variable (number_word OneHole)

abbrev place_token : Token
place_token = Variable (place_word AtTheRoot)

root_closed : (us : List Token) → IsExpression (root ∷ Close ∷ us) (RootSteps 1) (Close ∷ us)
root_closed us = OfRoot refl (LeftOut refl)

root_before_comma : (us : List Token) → IsExpression (root ∷ Comma ∷ us) (RootSteps 1) (Comma ∷ us)
root_before_comma us = OfRoot refl (LeftOut refl)

converse : (us : List Token) → IsExpression (Variable (one_word Inv) ∷ Open ∷ root ∷ Close ∷ us) (Inverse (RootSteps 1)) us
converse us = OfOne Inv refl (root_closed us)

ended_expression : {x : Name} {ts us : List Token} {e : Expression} → Contains number_words x
    → IsExpression ts e (Comma ∷ Variable x ∷ Comma ∷ place_token ∷ End ∷ us) → AnEnclosed (Begin ∷ ts) us
ended_expression {x} among e = let number = number_among x among in (_, (number.0, (AtTheRoot, Between number.1 refl e)))

StuckExpression-local : {ts us : List Token} → StuckExpression ts us → IsStuck StuckExpression AnExpression ts us
StuckExpression-local (NoExpression none) =
    IsStuck-here [] (λ vs h. NoExpression (word_same expression_words h none)) (Variable (one_word Inv) ∷ Open ∷ root ∷ Close ∷ []) (λ z. (_, converse z))
StuckExpression-local (OneUnopened op {x = x} w none) =
    IsStuck-here (Variable x ∷ []) (λ vs h. OneUnopened op w (next_same h none)) (Open ∷ root ∷ Close ∷ []) (λ z. (_, OfOne op w (root_closed z)))
StuckExpression-local (InOne op {x = x} w s) =
    IsStuck-closed (Variable x ∷ Open ∷ []) (StuckExpression-local s) (λ y z p. InOne op w p) (Close ∷ []) refl (λ y z p. (_, OfOne op w p.1))
StuckExpression-local (OneUnclosed op {x = x} w e none) =
    IsStuck-behind (Variable x ∷ Open ∷ []) (expression-local e) (λ y vs h p. OneUnclosed op w p (next_same h none)) (Close ∷ []) refl
    (λ y z p. (_, OfOne op w p))
StuckExpression-local (TwoUnopened op {x = x} w none) =
    IsStuck-here (Variable x ∷ []) (λ vs h. TwoUnopened op w (next_same h none)) (Open ∷ root ∷ Comma ∷ root ∷ Close ∷ [])
    (λ z. (_, OfTwo op w (root_before_comma (root ∷ Close ∷ z)) (root_closed z)))
StuckExpression-local (InFirst op {x = x} w s) =
    IsStuck-closed (Variable x ∷ Open ∷ []) (StuckExpression-local s) (λ y z p. InFirst op w p) (Comma ∷ root ∷ Close ∷ []) refl
    (λ y z p. (_, OfTwo op w p.1 (root_closed z)))
StuckExpression-local (FirstAlone op {x = x} w a none) =
    IsStuck-behind (Variable x ∷ Open ∷ []) (expression-local a) (λ y vs h p. FirstAlone op w p (next_same h none)) (Comma ∷ root ∷ Close ∷ []) refl
    (λ y z p. (_, OfTwo op w p (root_closed z)))
StuckExpression-local (InSecond op {x = x} w a s) =
    IsStuck-closed (Variable x ∷ Open ∷ []) (IsStuck-then (expression-local a) (StuckExpression-local s) (λ y z p. p) (λ y z p. p))
    (λ y z p. InSecond op w p.1.0 p.1.1) (Close ∷ []) refl (λ y z p. (_, OfTwo op w p.1.0 p.1.1.1))
StuckExpression-local (TwoUnclosed op {x = x} w a b none) =
    IsStuck-behind (Variable x ∷ Open ∷ []) (Local-then (expression-local a) (expression-local b))
    (λ y vs h p. TwoUnclosed op w p.1.0 p.1.1 (next_same h none)) (Close ∷ []) refl (λ y z p. (_, OfTwo op w p.1.0 p.1.1))

pub StuckEnclosed-local : {ts us : List Token} → StuckEnclosed ts us → IsStuck StuckEnclosed AnEnclosed ts us
StuckEnclosed-local (InExpression s) =
    IsStuck-closed (Begin ∷ []) (StuckExpression-local s) (λ y z p. InExpression p) (Comma ∷ number_token ∷ Comma ∷ place_token ∷ End ∷ []) refl
    (λ y z p. ended_expression (number_word-among OneHole) p.1)
StuckEnclosed-local (ExpressionAlone e none) =
    IsStuck-behind (Begin ∷ []) (expression-local e) (λ y vs h p. ExpressionAlone p (next_same h none))
    (Comma ∷ number_token ∷ Comma ∷ place_token ∷ End ∷ []) refl (λ y z p. ended_expression (number_word-among OneHole) p)
StuckEnclosed-local (NoNumber e none) =
    IsStuck-behind (Begin ∷ []) (Local-back (expression-local e)) (λ y vs h p. NoNumber p (word_same number_words h none))
    (number_token ∷ Comma ∷ place_token ∷ End ∷ []) refl (λ y z p. ended_expression (number_word-among OneHole) p)
StuckEnclosed-local (NumberAlone c e none) =
    IsStuck-behind (Begin ∷ []) (Local-back (Local-back (expression-local e))) (λ y vs h p. NumberAlone c p (next_same h none))
    (Comma ∷ place_token ∷ End ∷ []) refl (λ y z p. ended_expression c p)
StuckEnclosed-local (NoPlace c e none) =
    IsStuck-behind (Begin ∷ []) (Local-back (Local-back (Local-back (expression-local e)))) (λ y vs h p. NoPlace c p (word_same place_words h none))
    (place_token ∷ End ∷ []) refl (λ y z p. ended_expression c p)
StuckEnclosed-local (Unended {x = x} {y = v} c d e none) =
    let number = number_among x c in
    let place = place_among v d in
    IsStuck-behind (Begin ∷ []) (Local-back (Local-back (Local-back (Local-back (expression-local e)))))
    (λ y vs h p. Unended c d p (next_same h none)) (End ∷ []) refl (λ y z p. (_, (number.0, (place.0, Between number.1 place.1 p))))

-- no expression in its brackets begins the tokens
abbrev pub HasNoEnclosed : List Token → Type 0
HasNoEnclosed ts = (e : Expression) (number : HoleNumber) (place : HolePlace) (us : List Token) → IsEnclosed ts e number place us → ⊥

no_word : {us vs : List Token} {e : Expression} → HasNoWord expression_words us → IsExpression us e vs → ⊥
no_word none (OfRoot {x = x} w i) = none x _ (subst (Contains expression_words) (sym w) (Contains-head root_word (one_word Inv ∷ two_word Uni ∷ two_word Comp ∷ one_word Clos ∷ []))) refl
no_word none (OfOne op {x = x} w e) = none x _ (subst (Contains expression_words) (sym w) (one_word-among op)) refl
no_word none (OfTwo op {x = x} w a b) = none x _ (subst (Contains expression_words) (sym w) (two_word-among op)) refl

-- behind the word of one operand, and of two
one_unopened : (op : OneOperand) → {x : Name} {us vs : List Token} {e : Expression} → x ≡ one_word op → HasNoNext Open us
    → IsExpression (Variable x ∷ us) e vs → ⊥
one_unopened op w none (OfRoot v i) = root-not_one op (sym v ∙ w)
one_unopened op w none (OfOne other v e) = none _ refl
one_unopened op w none (OfTwo other v a b) = none _ refl

two_unopened : (op : TwoOperands) → {x : Name} {us vs : List Token} {e : Expression} → x ≡ two_word op → HasNoNext Open us
    → IsExpression (Variable x ∷ us) e vs → ⊥
two_unopened op w none (OfRoot v i) = root-not_two op (sym v ∙ w)
two_unopened op w none (OfOne other v e) = none _ refl
two_unopened op w none (OfTwo other v a b) = none _ refl

one_rest : (op : OneOperand) → {x : Name} {us vs : List Token} {e : Expression} → x ≡ one_word op
    → ((d : Expression) (ws : List Token) → IsExpression us d (Close ∷ ws) → ⊥) → IsExpression (Variable x ∷ Open ∷ us) e vs → ⊥
one_rest op w none (OfRoot v i) = root-not_one op (sym v ∙ w)
one_rest op w none (OfOne other v e) = none _ _ e
one_rest op w none (OfTwo other v a b) = one-not_two op other (sym w ∙ v)

two_rest : (op : TwoOperands) → {x : Name} {us vs : List Token} {e : Expression} → x ≡ two_word op
    → ((a b : Expression) (ws xs : List Token) → IsExpression us a (Comma ∷ ws) → IsExpression ws b (Close ∷ xs) → ⊥)
    → IsExpression (Variable x ∷ Open ∷ us) e vs → ⊥
two_rest op w none (OfRoot v i) = root-not_two op (sym v ∙ w)
two_rest op w none (OfOne other v e) = one-not_two other op (sym v ∙ w)
two_rest op w none (OfTwo other v a b) = none _ _ _ _ a b

-- an expression at a place that was found to be another
expression_behind : {us vs ws : List Token} {e : Expression} → us ≡ vs → IsExpression vs e ws → IsExpression us e ws
expression_behind {ws = ws} {e = e} h p = subst (λ w. IsExpression w e ws) (sym h) p

StuckExpression-nothing : {ts us : List Token} → StuckExpression ts us → HasNoExpression ts
StuckExpression-nothing (NoExpression none) f vs p = no_word none p
StuckExpression-nothing (OneUnopened op w none) f vs p = one_unopened op w none p
StuckExpression-nothing (InOne op w s) f vs p = one_rest op w (λ d ws e. StuckExpression-nothing s d _ e) p
StuckExpression-nothing (OneUnclosed op w e none) f vs p = one_rest op w (λ d ws q. none ws (IsExpression-unique e q).1) p
StuckExpression-nothing (TwoUnopened op w none) f vs p = two_unopened op w none p
StuckExpression-nothing (InFirst op w s) f vs p = two_rest op w (λ a b ws xs q r. StuckExpression-nothing s a _ q) p
StuckExpression-nothing (FirstAlone op w e none) f vs p = two_rest op w (λ a b ws xs q r. none ws (IsExpression-unique e q).1) p
StuckExpression-nothing (InSecond op w e s) f vs p =
    two_rest op w (λ a b ws xs q r. StuckExpression-nothing s b _ (expression_behind (same_behind (IsExpression-unique e q).1) r)) p
StuckExpression-nothing (TwoUnclosed op w e d none) f vs p =
    two_rest op w (λ a b ws xs q r. none xs (IsExpression-unique d (expression_behind (same_behind (IsExpression-unique e q).1) r)).1) p

pub StuckEnclosed-nothing : {ts us : List Token} → StuckEnclosed ts us → HasNoEnclosed ts
StuckEnclosed-nothing (InExpression s) f m p vs (Between h k e) = StuckExpression-nothing s f _ e
StuckEnclosed-nothing (ExpressionAlone d none) f m p vs (Between h k e) = none _ (IsExpression-unique d e).1
StuckEnclosed-nothing (NoNumber d none) f m p vs (Between {x = x} h k e) =
    none x _ (subst (Contains number_words) (sym h) (number_word-among m)) (same_behind (IsExpression-unique d e).1)
StuckEnclosed-nothing (NumberAlone c d none) f m p vs (Between h k e) =
    none _ (same_variable (same_behind (IsExpression-unique d e).1)).1
StuckEnclosed-nothing (NoPlace c d none) f m p vs (Between {y = y} h k e) =
    none y _ (subst (Contains place_words) (sym k) (place_word-among p)) (same_behind (same_variable (same_behind (IsExpression-unique d e).1)).1)
StuckEnclosed-nothing (Unended c a d none) f m p vs (Between h k e) =
    let behind_number = same_behind (same_variable (same_behind (IsExpression-unique d e).1)).1 in
    none _ (same_variable behind_number).1
