-- The answer of a negation: its body's, turned.
use Rattle.std.proofs.Common.{◌≡◌, ℕ, Bool, true, false, nat_lt, List, length, get_or, Option, None, true≢false, refl, ap, sym, ◌∙◌, subst}
use Rattle.fort_theory.specs.Patterns.{PatternSystem}
use Rattle.fort_theory.specs.Cores as core
use Rattle.fort_theory.specs.Cores.{Core}
use Rattle.fort_tables.specs.Tables.{listed_table}
use Rattle.fort_parts.specs.PartAnswers.{OfValue}
use Rattle.fort_parts.specs.RightAnswers.{IsRightBy}
use Rattle.fort_parts.specs.ToldParts.{ToldWith}
use Rattle.fort_certificate_theory.specs.Dues.{has_columns, is_turned}
use Rattle.fort_certificate_theory.specs.Made.{MadeSoFar, IsAnswerOf, Turned}
use Rattle.fort_engine.specs.declared.answer.Last.{Last}
use Rattle.fort_engine.specs.declared.answer.Last.TheVariants.{Truth, Auto}
use Rattle.fort_engine.specs.AnswerView.{as_answer}
use Rattle.fort_engine.specs.Deciding.{HasOperands}
use Rattle.fort_engine.specs.Found.{IsKeptAnswer, IsTurnedOf, IsItsTurned}
use Rattle.fort_engine.proofs.OperandLaws.{IsRight-taken}
use Rattle.fort_trace.specs.Recording.{recorded_with, AreOperandsMade}

module _ (system : PatternSystem) (cap : ℕ) (reduces : Bool) (parts : List Core) (made : MadeSoFar) (kept : List (Option Last)) where
  -- a truth is of no columns
  turned_body : (g : Core) (answer body : Last) → HasOperands system (recorded_with cap reduces) parts kept (core.Not g) → AreOperandsMade parts made kept (core.Not g) → has_columns g ≡ true
      → IsKeptAnswer parts kept g body → IsTurnedOf body answer → IsAnswerOf parts made (core.Not g) (as_answer answer)
  turned_body g answer (Truth b) operands made_are columns is turned =
      let has = (operands g refl).right is.place is.before is.is in
      let right : IsRightBy system (ToldWith reduces system) g (OfValue b) = IsRight-taken system (recorded_with cap reduces) g (get_or kept is.place None) (Truth b) has is.there in
      let none : has_columns g ≡ false = ap (λ xs. nat_lt 0 (length xs)) right.answers.over in
      absurd (true≢false (sym columns ∙ none))
  turned_body g answer (Auto table) operands made_are columns is turned =
      subst (IsAnswerOf parts made (core.Not g)) (sym turned)
      (Turned (listed_table table) columns (made_are g refl is.place (Auto table) is.before is.is is.there))

  -- only a negation is turned
  pub turned_answer : (f : Core) (answer : Last) → HasOperands system (recorded_with cap reduces) parts kept f → AreOperandsMade parts made kept f → IsItsTurned parts kept f answer
      → is_turned f ≡ true → IsAnswerOf parts made f (as_answer answer)
  turned_answer core.True answer operands made_are its e = absurd (true≢false (sym e))
  turned_answer (core.Leaf a) answer operands made_are its e = absurd (true≢false (sym e))
  turned_answer (core.Not g) answer operands made_are its e = turned_body g answer its.body operands made_are e its.kept_is its.turned
  turned_answer (core.Binary op f g) answer operands made_are its e = absurd (true≢false (sym e))
  turned_answer (core.Exists n f) answer operands made_are its e = absurd (true≢false (sym e))
  turned_answer (core.Infinite n f) answer operands made_are its e = absurd (true≢false (sym e))
