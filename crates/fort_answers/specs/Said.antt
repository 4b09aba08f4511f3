-- To believe: what is said of a formula's text over the bytes of a problem: the text is a formula, the bytes begin with a system, and the formula is true of this system, or false of it; and the words that plainly ask for it.
use Rattle.std.specs.Prelude.{◌≡◌, ◌⊎◌, ℕ, List, [], ◌∷◌, ◌++◌, Option, codes}
use Rattle.fort_theory.specs.Trees.{Tree}
use Rattle.fort_theory.specs.Signatures.{Signature}
use Rattle.fort_theory.specs.Sides.{System}
use Rattle.fort_logic.specs.Formulas.{Formula}
use Rattle.fort_logic.specs.Truth.{IsTrueOf, IsFalseOf}
use Rattle.fort_grammar.specs.Forms.{Forms, AreFormsOf}
use Rattle.fort_grammar.specs.Declarations.{as_list}
use Rattle.fort_grammar.specs.ProblemForms.{IsProblem}
use Rattle.fort_grammar.specs.GroundForms.{IsGroundText}
use Rattle.fort_formula_grammar.specs.FormulaText.{IsFormulaText, Ground, AreGroundsOf}
use Rattle.fort_io.specs.Devices.{Takes}
use Rattle.fort_answers.specs.Told.{HoldsForTold}

-- ---- words

-- flags, and settings with their values; `--certificate` is none of them, since it asks for another text
pub data AreOptions : List (List ℕ) → Type 0 where
  NoOption : AreOptions []
  Reduce : {ws : List (List ℕ)} → AreOptions ws → AreOptions (codes "--reduce" ∷ ws)
  States : {n : List ℕ} {ws : List (List ℕ)} → AreOptions ws → AreOptions (codes "--states" ∷ n ∷ ws)
  Most : {n : List ℕ} {ws : List (List ℕ)} → AreOptions ws → AreOptions (codes "--most" ∷ n ∷ ws)

-- the words are the program's own name, the name of a command, options, and what it is asked about
pub record Asks (command : List ℕ) (about words : List (List ℕ)) : Type 0 where
  pub name : List ℕ
  pub options : List (List ℕ)
  pub are_options : AreOptions options
  pub are : words ≡ name ∷ (command ∷ (options ++ about))

-- ---- a formula over the system of a problem

-- the first forms of the bytes are the system; for `check` and `confirm` the certificate stands behind them. That for `decide` no form
-- does is said by `answered` of fort_run alone
pub record BeginsWith (bytes : List ℕ) (system : System) : Type 0 where
  pub forms : Forms
  pub are_forms : AreFormsOf bytes forms
  pub next : ℕ
  pub problem : IsProblem bytes (as_list forms) system next

-- what stands in the braces is these ground terms of the signature, one by one
abbrev pub AreTermsOf : Signature → List Ground → List Tree → Type 0
AreTermsOf signature [] [] = Unit {0}
AreTermsOf signature [] (t ∷ ts) = ⊥
AreTermsOf signature (g ∷ gs) [] = ⊥
AreTermsOf signature (g ∷ gs) (t ∷ ts) = IsGroundText signature g.text t × AreTermsOf signature gs ts

-- the text is a formula, the bytes begin with a system, and P holds of this system, the ground terms that stand in the text, and the formula
pub record IsSaid (formula bytes : List ℕ) (P : System → List Tree → Formula → Type 0) : Type 0 where
  pub f : Formula
  pub is_text : IsFormulaText formula f
  pub system : System
  pub begins : BeginsWith bytes system
  pub grounds : List Ground
  pub are_grounds : AreGroundsOf formula grounds
  pub terms : List Tree
  pub are_terms : AreTermsOf system.signature grounds terms
  pub holds : P system terms f

-- from old to new the sink took a text, any where it tells nothing, and P holds of it over the bytes that the source told, or where it told none,
-- over some bytes
pub record Says (formula : List ℕ) (told old new : Option (List ℕ)) (P : List ℕ → System → List Tree → Formula → Type 0) : Type 0 where
  pub text : List ℕ
  pub taken : Takes old new text
  pub said : HoldsForTold told (λ bytes. IsSaid formula bytes (P text))

-- ---- truth

-- the text is this line, and the formula is true of the system
abbrev pub SaysTrue : (line : List ℕ) → (text : List ℕ) → System → List Tree → Formula → Type 0
SaysTrue line text system terms f = (text ≡ line ++ 10 ∷ []) × IsTrueOf system terms f

-- the same, and it is false of it
abbrev pub SaysFalse : (line : List ℕ) → (text : List ℕ) → System → List Tree → Formula → Type 0
SaysFalse line text system terms f = (text ≡ line ++ 10 ∷ []) × IsFalseOf system terms f

-- one of the two, each by its line
abbrev pub SaysTruth : (affirmed denied : List ℕ) → (text : List ℕ) → System → List Tree → Formula → Type 0
SaysTruth affirmed denied text system terms f = SaysTrue affirmed text system terms f ⊎ SaysFalse denied text system terms f
