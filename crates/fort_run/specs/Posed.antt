-- Inside: a question about a formula, put to its core formula over a system, and what a reply to it is.
use Rattle.std.specs.Prelude.{◌≡◌, List}
use Rattle.fort_theory.specs.Trees.{Tree}
use Rattle.fort_theory.specs.Sides as theory
use Rattle.fort_theory.specs.Patterns.{PatternSystem, pattern_system}
use Rattle.fort_logic.specs.Formulas.{Formula}
use Rattle.fort_theory.specs.Cores.{Core}
use Rattle.fort_logic.specs.Translation.{core_of}
use Rattle.fort_logic.specs.KeepsTruth.{KeepsTruth}
use Rattle.fort_parts.specs.DecidedCores.{IsDecided}
use Rattle.fort_answers.specs.FormulaAnswer.{Openness, IsTaken}
use Rattle.fort_answers.specs.InputAnswer.{Behind}
use Rattle.fort_questions.specs.declared.input.Input.{Input}
use Rattle.fort_questions.specs.declared.question.Question.{Question}
use Rattle.fort_run.specs.declared.reply.Reply.{Reply}
use Rattle.fort_questions.specs.Inputs.{IsInputOf}
use Rattle.fort_questions.specs.Questions.{openness_of, tail_of}
use Rattle.fort_run.specs.Ready.{IsLawful, IsReady}
use Rattle.fort_run.specs.Verdicts.{IsVerdict}

-- such a formula may be asked about, and this is its core formula, which can be decided
pub record IsPosed (openness : Openness) (f : Formula) (system : PatternSystem) (terms : List Tree) (c : Core) : Type 0 where
  pub taken : IsTaken openness f
  pub ready : IsReady f system terms
  pub is : c ≡ core_of terms f
  pub keeps : KeepsTruth terms f c
  pub decided : IsDecided system c

-- over each system with these pairs of patterns, the reply is the verdict, where the question is put to this core formula
abbrev pub SettlesCore : (question : Question) → PatternSystem → Behind (tail_of question) → Core → Formula → Reply → Type 0
SettlesCore question system behind c f reply =
    (p : theory.System) (terms : List Tree) → IsLawful p → system ≡ pattern_system p → IsPosed (openness_of question) f system terms c
    → IsVerdict question p behind terms f reply

-- over each system that the input is, with what stands behind it
abbrev pub Settles : (question : Question) → Input → List Tree → Formula → Reply → Type 0
Settles question input terms f reply =
    (p : theory.System) (behind : Behind (tail_of question)) → IsLawful p → IsInputOf (tail_of question) input p behind
    → IsVerdict question p behind terms f reply
