-- The lines that refuse formulas are owed to their texts; a formula as it was read.
use Rattle.std.specs.Prelude.{◌≡◌, ℕ, Bool, true, false, List, [], ◌∷◌, length, refl, Option, None, Some, slice_get, ◌↔◌, IsTrue, IfSome, MatchOption}
use Rattle.std.proofs.Common.{Vec, Global, sym, ap, subst, arith}
use Rattle.fort_formula_grammar.specs.FormulaText.{FormulaFault, IsFirstFormulaFault}
use Rattle.fort_logic.specs.Formulas.{Formula}
use Rattle.fort_answers.specs.FormulaAnswer.{IsAccepted, IsRefused, Faulty, Openness, IsTaken, IsNotTaken, IsAcceptedAs, IsRefusedAs, NotTaken}
use Rattle.fort_answers.specs.Lines.{formula_fault_line}
use Rattle.fort_questions.specs.declared.question.Openness.{Openness as OwnOpenness}
use Rattle.fort_formula_parser.specs.declared.parsed.Parsed.{Parsed}
use Rattle.fort_questions.specs.Accepted.{IsParsedAs}
use Rattle.fort_questions.specs.Questions.{as_openness}
use Rattle.fort_questions.specs.declared.refusal.Refusal.{Refusal}
use Rattle.fort_questions.specs.Refusals.{Refuses}

-- a list of no length
pub no_items : {A : Type 0} (xs : List A) → length xs ≡ 0 → xs ≡ []
no_items [] e = refl
no_items (x ∷ xs) e = absurd (omega arith)

-- the first of some names
pub first_of_names : {A : Type 0} (names : List A) (x : A) → Some x ≡ slice_get names 0 → (xs : List A) × (names ≡ x ∷ xs)
first_of_names [] x h = cc
first_of_names (y ∷ ys) x h = (ys, (let same : x ≡ y = cc in ap (λ z. z ∷ ys) (sym same)))

-- a text whose first fault the line says
pub faulty : (text line : List ℕ) (fault : Option FormulaFault) → IfSome fault (IsFirstFormulaFault text) → MatchOption fault ⊥ (λ f. line ≡ formula_fault_line f)
    → IsRefused text line
faulty text line None first says = absurd says
faulty text line (Some fault) first says = Faulty fault first says

-- a formula that is taken or isn't, of an accepted text
taken_there : (openness : Openness) (text : List ℕ) (f : Formula) (refusal : Option (Vec ℕ Global)) → IsAccepted text f
    → MatchOption refusal (IsTaken openness f) (λ line. IsNotTaken openness f line.items)
    → MatchOption refusal (IsAcceptedAs openness text f) (λ line. IsRefusedAs openness text line.items)
taken_there openness text f None accepted says = record { accepted = accepted; taken = says }
taken_there openness text f (Some line) accepted says = NotTaken f accepted says

pub taken_as : (openness asked : OwnOpenness) (text : List ℕ) (f : Formula) (refusal : Option (Vec ℕ Global)) → openness ≡ asked → IsAccepted text f
    → MatchOption refusal (IsTaken (as_openness asked) f) (λ line. IsNotTaken (as_openness asked) f line.items)
    → MatchOption refusal (IsAcceptedAs (as_openness openness) text f) (λ line. IsRefusedAs (as_openness openness) text line.items)
taken_as openness asked text f refusal is accepted says =
    subst (λ o. MatchOption refusal (IsAcceptedAs (as_openness o) text f) (λ line. IsRefusedAs (as_openness o) text line.items)) (sym is)
    (taken_there (as_openness asked) text f refusal accepted says)

-- a text that was read, and which formulas are taken, by equal names
pub refused_there : (o o' : Openness) (text text' : List ℕ) (r : Refusal) → o ≡ o' → text ≡ text' → Refuses (IsRefusedAs o text) r → Refuses (IsRefusedAs o' text') r
refused_there o o' text text' r same_openness same_text is =
    subst (λ t. Refuses (IsRefusedAs o' t) r) same_text (subst (λ x. Refuses (IsRefusedAs x text) r) same_openness is)

pub parsed_as : (o o' : Openness) (text text' : List ℕ) (parsed : Parsed) → o ≡ o' → text ≡ text' → IsParsedAs o text parsed → IsParsedAs o' text' parsed
parsed_as o o' text text' parsed same_openness same_text is =
    subst (λ t. IsParsedAs o' t parsed) same_text (subst (λ x. IsParsedAs x text parsed) same_openness is)

-- a test that failed says that the fact fails, and one that passed says the fact
pub untold : (b : Bool) (P : Type 0) → IsTrue b ↔ P → b ≡ false → P → ⊥
untold b P says is p = let h : b ≡ true = says.1 p in cc

pub told : (b : Bool) (P : Type 0) → IsTrue b ↔ P → b ≡ true → P
told b P says is = says.0 is
