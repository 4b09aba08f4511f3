-- To believe: what is owed to whoever asks about a formula over an input: the formula's text is refused, the input is, the formula doesn't fit it, a part is over the cap, or what the command itself says.
use Rattle.std.specs.Prelude.{◌≡◌, ℕ, ◌<◌, List, length, get_or, Option, Some, None}
use Rattle.fort_theory.specs.Trees.{Tree}
use Rattle.fort_theory.specs.Sides.{System}
use Rattle.fort_theory.specs.Patterns.{pattern_system}
use Rattle.fort_logic.specs.Formulas.{Formula}
use Rattle.fort_theory.specs.Cores as core
use Rattle.fort_theory.specs.Cores.{Core}
use Rattle.fort_theory.specs.Kinds.{Kind, kind_of}
use Rattle.fort_theory.specs.PartLists.{AreParts}
use Rattle.fort_logic.specs.Translation.{core_of}
use Rattle.fort_tables.specs.Agreement.{Agreement}
use Rattle.fort_parts.specs.AlikeParts.{IsOverBy, IsFirstOverBy}
use Rattle.fort_parts.specs.ReducedParts.{AlikeWith}
use Rattle.fort_answers.specs.Requests.{Text, Options}
use Rattle.fort_answers.specs.Lines.{refused, limited, limit_line}
use Rattle.fort_answers.specs.FormulaAnswer.{Openness, IsAcceptedAs, IsRefusedAs}
use Rattle.fort_answers.specs.InputAnswer.{Tail, Behind, IsInputWith, IsInputRefused}
use Rattle.fort_answers.specs.FitAnswer.{FitsSystem, IsUnfit}

-- status and text are these
pub record Are (status : ℕ) (text : Text) (their_status : ℕ) (their_text : Text) : Type 0 where
  pub same_status : status ≡ their_status
  pub same_text : text ≡ their_text

-- ---- the cap on each part of the core formula

abbrev pub AreFormulaParts : Formula → List Tree → List Core → Type 0
AreFormulaParts f terms parts = AreParts (core_of terms f) parts

-- when tuples are alike at a part, by whether tables are reduced
abbrev pub likeness : Options → System → Core → Agreement
likeness options system = AlikeWith options.reduces (pattern_system system)

-- part k is over the cap, and none before it is
pub record PassesCap (system : System) (terms : List Tree) (f : Formula) (options : Options) (k : ℕ) (kind : Kind) : Type 0 where
  pub parts : List Core
  pub are_parts : AreFormulaParts f terms parts
  pub first : IsFirstOverBy (pattern_system system) (likeness options system) parts options.states k
  pub kind_is : kind ≡ kind_of (get_or parts k core.True)

-- no part is over the cap
abbrev pub KeepsCap : System → List Tree → Formula → Options → Type 0
KeepsCap system terms f options =
    (parts : List Core) (k : ℕ) → AreFormulaParts f terms parts → k < length parts
    → IsOverBy (pattern_system system) (likeness options system) (get_or parts k core.True) options.states → ⊥

-- where there are options, no part is over their cap
abbrev pub KeepsCapOf : Option Options → System → List Tree → Formula → Type 0
KeepsCapOf None system terms f = Unit {0}
KeepsCapOf (Some options) system terms f = KeepsCap system terms f options

-- ---- what is owed

-- what an answer about a formula depends on: the formula's text, which formulas are taken, what has to stand behind the problem, the
-- options whose cap the formula's parts over the system have to keep, if any, and what is then said
pub record Inquiry : Type 1 where
  pub formula : Text
  pub openness : Openness
  pub tail : Tail
  pub options : Option Options
  pub says : System → Behind tail → List Tree → Formula → ℕ → Text → Type 0

-- the formula's text is refused, whatever the input is
pub record IsRefusedEarly (inquiry : Inquiry) (status : ℕ) (text : Text) : Type 0 where
  pub refusal : Text
  pub is : IsRefusedAs inquiry.openness inquiry.formula refusal
  pub are : Are status text refused refusal

-- the cases in their order, each with what the earlier ones leave
pub data IsOwedTo (inquiry : Inquiry) (bytes : Text) (status : ℕ) (text : Text) : Type 0 where
  FormulaRefused : IsRefusedEarly inquiry status text → IsOwedTo inquiry bytes status text
  InputRefused : (f : Formula) → IsAcceptedAs inquiry.openness inquiry.formula f → (line : Text) → IsInputRefused inquiry.tail bytes line
      → Are status text refused line → IsOwedTo inquiry bytes status text
  FormulaUnfit : (f : Formula) → IsAcceptedAs inquiry.openness inquiry.formula f → (system : System) (behind : Behind inquiry.tail)
      → IsInputWith inquiry.tail bytes system behind → (line : Text) → IsUnfit inquiry.formula f system line → Are status text refused line
      → IsOwedTo inquiry bytes status text
  Limited : (f : Formula) → IsAcceptedAs inquiry.openness inquiry.formula f → (system : System) (behind : Behind inquiry.tail)
      → IsInputWith inquiry.tail bytes system behind → (terms : List Tree) → FitsSystem inquiry.formula f system terms
      → (options : Options) → inquiry.options ≡ Some options → (k : ℕ) (kind : Kind) → PassesCap system terms f options k kind
      → Are status text limited (limit_line k kind options.states) → IsOwedTo inquiry bytes status text
  Says : (f : Formula) → IsAcceptedAs inquiry.openness inquiry.formula f → (system : System) (behind : Behind inquiry.tail)
      → IsInputWith inquiry.tail bytes system behind → (terms : List Tree) → FitsSystem inquiry.formula f system terms
      → KeepsCapOf inquiry.options system terms f → inquiry.says system behind terms f status text → IsOwedTo inquiry bytes status text
