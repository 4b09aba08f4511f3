-- What depends on the first token alone, as whether tokens go on with a formula, or begin no argument.
use Rattle.std.proofs.Common.{◌≡◌, true, false, List, [], ◌∷◌, ◌++◌, refl, ◌∙◌}
use Rattle.fort_logic.specs.Formulas.{Name}
use Rattle.fort_formula_grammar.specs.Tokens.{Token, And, Or, Imp, Iff, Related, Begin}
use Rattle.fort_formula_grammar.specs.ExpressionGrammar.{begins_with_index}
use Rattle.fort_formula_grammar.specs.FormulaGrammar.{begins_with_open, AVariable, AGround}
use Rattle.fort_formula_grammar.specs.Continuations.{continues_formula, begins_relation, HasNoNext, HasNoVariable, HasNoArgument, HasNoWord}
use Rattle.fort_formula_grammar.specs.Stuck.{starts_unary}
use Rattle.fort_formula_grammar.proofs.LocalParts.{index_first, open_first, GoesOnLess}

-- two lists begin with the same token, or both are empty
pub data SameFirst : List Token → List Token → Type 0 where
  BothEmpty : SameFirst [] []
  BothBegin : {t : Token} {us vs : List Token} → SameFirst (t ∷ us) (t ∷ vs)

pub SameFirst-append : (read us vs : List Token) → SameFirst us vs → SameFirst (read ++ us) (read ++ vs)
SameFirst-append [] us vs h = h
SameFirst-append (t ∷ read) us vs h = BothBegin

pub index_same : {us vs : List Token} → SameFirst us vs → begins_with_index vs ≡ true → begins_with_index us ≡ true
index_same BothEmpty h = h
index_same (BothBegin {t = t} {us = us} {vs = vs}) h = index_first t vs us h

pub open_same : {us vs : List Token} → SameFirst us vs → begins_with_open vs ≡ true → begins_with_open us ≡ true
open_same BothEmpty h = h
open_same (BothBegin {t = t} {us = us} {vs = vs}) h = open_first t vs us h

pub less_same : {us vs : List Token} → SameFirst us vs → GoesOnLess vs us
less_same h = (index_same h, open_same h)

continues_first : (t : Token) (us vs : List Token) → continues_formula (t ∷ us) ≡ continues_formula (t ∷ vs)
continues_first And us vs = refl
continues_first Or us vs = refl
continues_first Imp us vs = refl
continues_first Iff us vs = refl
continues_first t us vs = refl

pub ended_same : {us vs : List Token} → SameFirst us vs → continues_formula us ≡ false → continues_formula vs ≡ false
ended_same BothEmpty h = h
ended_same (BothBegin {t = t} {us = us} {vs = vs}) h = continues_first t vs us ∙ h

pub unstarted_same : {us vs : List Token} → SameFirst us vs → starts_unary us ≡ false → starts_unary vs ≡ false
unstarted_same BothEmpty h = h
unstarted_same BothBegin h = h

pub next_same : {us vs : List Token} {t : Token} → SameFirst us vs → HasNoNext t us → HasNoNext t vs
next_same BothEmpty none rest e = none rest e
next_same (BothBegin {us = us}) none rest e = none us cc

pub variable_same : {us vs : List Token} → SameFirst us vs → HasNoVariable us → HasNoVariable vs
variable_same BothEmpty none x rest e = none x rest e
variable_same (BothBegin {us = us}) none x rest e = none x us cc

pub argument_same : {us vs : List Token} → SameFirst us vs → HasNoArgument us → HasNoArgument vs
argument_same BothEmpty none a rest p = none a rest p
argument_same BothBegin none a rest AVariable = none _ _ AVariable
argument_same BothBegin none a rest AGround = none _ _ AGround

begins_relation_first : (t : Token) (us vs : List Token) → begins_relation (t ∷ us) ≡ begins_relation (t ∷ vs)
begins_relation_first (Related rel) us vs = refl
begins_relation_first Begin us vs = refl
begins_relation_first t us vs = refl

pub unrelated_same : {us vs : List Token} → SameFirst us vs → begins_relation us ≡ false → begins_relation vs ≡ false
unrelated_same BothEmpty h = h
unrelated_same (BothBegin {t = t} {us = us} {vs = vs}) h = begins_relation_first t vs us ∙ h

pub word_same : {us vs : List Token} (words : List Name) → SameFirst us vs → HasNoWord words us → HasNoWord words vs
word_same words BothEmpty none x rest among e = none x rest among e
word_same words (BothBegin {us = us}) none x rest among e = none x us among cc
