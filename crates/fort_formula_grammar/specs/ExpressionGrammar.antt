-- To believe: where an index of rules is written, and that it is 1 where it is left out; which tokens are which relation expression; its words are names elsewhere.
use Rattle.std.specs.Prelude.{◌≡◌, ℕ, Bool, true, false, List, [], ◌∷◌, codes}
use Rattle.fort_theory.specs.Expressions.{Expression, RootSteps, Inverse, Union, Composition, Closure}
use Rattle.fort_theory.specs.Contexts.{HoleNumber, OneHole, SomeHoles, AnyHoles, HolePlace, AtTheRoot, BelowTheRoot, AnyPlace}
use Rattle.fort_logic.specs.Formulas.{Name}
use Rattle.fort_formula_grammar.specs.Tokens.{Token, Index, Open, Close, Comma, Begin, End, Variable}

-- ---- indices

-- an index is the next token
abbrev pub begins_with_index : List Token → Bool
begins_with_index [] = false
begins_with_index (Index n ∷ ts) = true
begins_with_index (t ∷ ts) = false

-- index := "[1]" | .. | "[9]"; where it may be left out and is, it is 1. That none stands there makes readings from the left
-- unique; which tokens are a whole formula doesn't rest on it.
pub data IsIndex : List Token → ℕ → List Token → Type 0 where
  Given : {n : ℕ} {us : List Token} → IsIndex (Index n ∷ us) n us
  LeftOut : {us : List Token} → begins_with_index us ≡ false → IsIndex us 1 us

-- ---- expressions

-- what makes an expression of one other, and of two
pub data OneOperand : Type 0 where
  Inv : OneOperand
  Clos : OneOperand

pub data TwoOperands : Type 0 where
  Uni : TwoOperands
  Comp : TwoOperands

abbrev pub of_one : OneOperand → Expression → Expression
of_one Inv e = Inverse e
of_one Clos e = Closure e

abbrev pub of_two : TwoOperands → Expression → Expression → Expression
of_two Uni a b = Union a b
of_two Comp a b = Composition a b

abbrev pub root_word : Name
root_word = codes "root"

abbrev pub one_word : OneOperand → Name
one_word Inv = codes "inv"
one_word Clos = codes "clos"

abbrev pub two_word : TwoOperands → Name
two_word Uni = codes "union"
two_word Comp = codes "comp"

abbrev pub number_word : HoleNumber → Name
number_word OneHole = codes "one"
number_word SomeHoles = codes "some"
number_word AnyHoles = codes "any"

abbrev pub place_word : HolePlace → Name
place_word AtTheRoot = codes "root"
place_word BelowTheRoot = codes "below"
place_word AnyPlace = codes "all"

-- the words that an expression begins with
abbrev pub expression_words : List Name
expression_words = root_word ∷ one_word Inv ∷ two_word Uni ∷ two_word Comp ∷ one_word Clos ∷ []

abbrev pub number_words : List Name
number_words = number_word OneHole ∷ number_word SomeHoles ∷ number_word AnyHoles ∷ []

abbrev pub place_words : List Name
place_words = place_word AtTheRoot ∷ place_word BelowTheRoot ∷ place_word AnyPlace ∷ []

-- E := "root" [index] | "inv" "(" E ")" | "union" "(" E "," E ")" | "comp" "(" E "," E ")" | "clos" "(" E ")"
pub data IsExpression : List Token → Expression → List Token → Type 0 where
  OfRoot : {x : Name} {index : ℕ} {ts us : List Token} → x ≡ root_word → IsIndex ts index us → IsExpression (Variable x ∷ ts) (RootSteps index) us
  OfOne : (op : OneOperand) → {x : Name} {e : Expression} {ts us : List Token} → x ≡ one_word op → IsExpression ts e (Close ∷ us)
      → IsExpression (Variable x ∷ Open ∷ ts) (of_one op e) us
  OfTwo : (op : TwoOperands) → {x : Name} {a b : Expression} {ts us vs : List Token} → x ≡ two_word op → IsExpression ts a (Comma ∷ us)
      → IsExpression us b (Close ∷ vs) → IsExpression (Variable x ∷ Open ∷ ts) (of_two op a b) vs

-- "<<" E "," ("one" | "some" | "any") "," ("root" | "below" | "all") ">>"
pub data IsEnclosed : List Token → Expression → HoleNumber → HolePlace → List Token → Type 0 where
  Between : {x y : Name} {e : Expression} {number : HoleNumber} {place : HolePlace} {ts us : List Token} → x ≡ number_word number
      → y ≡ place_word place → IsExpression ts e (Comma ∷ Variable x ∷ Comma ∷ Variable y ∷ End ∷ us)
      → IsEnclosed (Begin ∷ ts) e number place us
