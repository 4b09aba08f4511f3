-- A sample of some size has one answer.
use Rattle.std.proofs.Common.{◌≡◌, ℕ, ◌≤◌, List, [], ◌∷◌, ◌++◌, sym, ap, subst, ◌∙◌}
use Rattle.std.specs.Prelude.{codes}
use Rattle.std.proofs.lemmas.List.Elements.{All-nil}
use Rattle.fort_theory.specs.Signatures.{HasConstant, IsGround}
use Rattle.fort_theory.specs.Sides.{System}
use Rattle.fort_logic.specs.Formulas.{Property, Has}
use Rattle.fort_logic.specs.Truth.{IsTrueOf, IsFalseOf}
use Rattle.fort_logic.proofs.Verdicts.{IsTrueOf-not_false}
use Rattle.fort_formula_grammar.specs.Tokens.{property_text}
use Rattle.fort_answers.specs.Requests.{Text}
use Rattle.fort_answers.specs.Lines.{positive}
use Rattle.fort_answers.specs.SystemAnswer.{Are}
use Rattle.fort_answers.specs.MadeProblem.{made_system}
use Rattle.fort_answers.specs.SampleAnswer.{sample_options, sample_line, sample_properties, PropertyVerdict, Over, Yes, No, IsPropertyLine, ArePropertyLines, SampleAnswer}
use Rattle.fort_answers.proofs.MadeLaws.{made_system-constant}
use Rattle.fort_answers.proofs.OneCap.{PassesCap-unique, PassesCap-not_kept}
use Rattle.fort_answers.proofs.OneRequest.{Are-unique}

module _ (system : System) (constant : HasConstant system.signature) where
  not_both : (p : Property) → IsTrueOf system [] (Has p 1) → IsFalseOf system [] (Has p 1) → ⊥
  not_both p = IsTrueOf-not_false system [] (Has p 1) constant (All-nil (IsGround system.signature))

  PropertyVerdict-unique : (p : Property) (v w : Text) → PropertyVerdict system p v → PropertyVerdict system p w → v ≡ w
  PropertyVerdict-unique p v w (Over k kind over says) (Over j kind' over' says') =
      says ∙ (PassesCap-unique system [] (Has p 1) sample_options k j kind kind' over over' ∙ sym says')
  PropertyVerdict-unique p v w (Over k kind over says) (Yes keeps holds says') =
      absurd (PassesCap-not_kept system [] (Has p 1) sample_options k kind over keeps)
  PropertyVerdict-unique p v w (Over k kind over says) (No keeps fails says') =
      absurd (PassesCap-not_kept system [] (Has p 1) sample_options k kind over keeps)
  PropertyVerdict-unique p v w (Yes keeps holds says) (Over k kind over says') =
      absurd (PassesCap-not_kept system [] (Has p 1) sample_options k kind over keeps)
  PropertyVerdict-unique p v w (Yes keeps holds says) (Yes keeps' holds' says') = says ∙ sym says'
  PropertyVerdict-unique p v w (Yes keeps holds says) (No keeps' fails says') = absurd (not_both p holds fails)
  PropertyVerdict-unique p v w (No keeps fails says) (Over k kind over says') =
      absurd (PassesCap-not_kept system [] (Has p 1) sample_options k kind over keeps)
  PropertyVerdict-unique p v w (No keeps fails says) (Yes keeps' holds says') = absurd (not_both p holds fails)
  PropertyVerdict-unique p v w (No keeps fails says) (No keeps' fails' says') = says ∙ sym says'

  IsPropertyLine-unique : (p : Property) (t u : Text) → IsPropertyLine system p t → IsPropertyLine system p u → t ≡ u
  IsPropertyLine-unique p t u one other =
      one.is ∙ (ap (λ v. property_text p ++ (codes " " ++ v)) (PropertyVerdict-unique p one.verdict other.verdict one.says other.says) ∙ sym other.is)

  ArePropertyLines-unique : (ps : List Property) (t u : Text) → ArePropertyLines system ps t → ArePropertyLines system ps u → t ≡ u
  ArePropertyLines-unique [] t u one other = one ∙ sym other
  ArePropertyLines-unique (p ∷ ps) t u (first, rest, is, are, split) (first', rest', is', are', split') =
      split ∙ (ap (λ x. x ++ rest) (IsPropertyLine-unique p first first' is is') ∙ (ap (λ x. first' ++ x) (ArePropertyLines-unique ps rest rest' are are') ∙ sym split'))

pub SampleAnswer-unique : (size s s' : ℕ) (t t' : Text) → 1 ≤ size → SampleAnswer size s t → SampleAnswer size s' t' → Are s t s' t'
SampleAnswer-unique size s s' t t' some one other =
    let same : other.lines ≡ one.lines =
    ArePropertyLines-unique (made_system size) (made_system-constant size some) sample_properties other.lines one.lines other.are_lines one.are_lines in
    Are-unique positive (sample_line size ++ one.lines) s s' t t' one.are
    (subst (λ x. Are s' t' positive (sample_line size ++ x)) same other.are)
