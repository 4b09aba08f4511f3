-- What is owed to the request that a question about a formula is.
use Rattle.std.proofs.Common.{◌≡◌, ℕ, refl, sym, subst}
use Rattle.std.specs.Prelude.{Some}
use Rattle.fort_theory.specs.Sides.{System}
use Rattle.fort_logic.specs.Formulas.{Formula}
use Rattle.fort_answers.specs.Requests.{Text, Options}
use Rattle.fort_answers.specs.FormulaAnswer.{IsAcceptedAs, IsRefusedAs}
use Rattle.fort_answers.specs.InputAnswer.{Behind, IsInput, IsInputWith}
use Rattle.fort_answers.specs.SystemAnswer.{IsOwedTo}
use Rattle.fort_answers.specs.Answer.{About, owing, IsOwed, ReadsInput, DecidesAbout, owed, needed, IsAbout}
use Rattle.fort_answers.proofs.OneRequest.{accepted_as-not_refused}
use Rattle.fort_questions.specs.declared.question.Question.{Question}
use Rattle.fort_questions.specs.declared.question.Question.TheVariants.{Truth, Certificate, Terms, TermsCertificate, Check, Solutions, Confirm, Synth}
use Rattle.fort_questions.specs.Questions.{request_for, inquiry_of, openness_of, tail_of, options_of}

owing_is : (question : Question) (text : Text) → owing (Some (request_for question text)) ≡ About (inquiry_of question text)
owing_is (Truth options) text = refl
owing_is (Certificate options) text = refl
owing_is (Terms options) text = refl
owing_is (TermsCertificate options) text = refl
owing_is Check text = refl
owing_is (Solutions options bounds) text = refl
owing_is Confirm text = refl
owing_is (Synth options family) text = refl

module _ (question : Question) (text : Text) where
  pub owed_to : (bytes : Text) (s : ℕ) (t : Text) → IsOwedTo (inquiry_of question text) bytes s t → owed (Some (request_for question text)) bytes s t
  owed_to bytes s t answer = subst (λ o. IsOwed o bytes s t) (sym (owing_is question text)) answer

  pub needs : (f : Formula) → IsAcceptedAs (openness_of question) text f → needed (Some (request_for question text))
  needs f accepted = subst ReadsInput (sym (owing_is question text)) (f, accepted)

  pub refused_needs_nothing : (line : Text) → IsRefusedAs (openness_of question) text line → needed (Some (request_for question text)) → ⊥
  refused_needs_nothing line refused is_needed =
      let accepted = subst ReadsInput (owing_is question text) is_needed in
      accepted_as-not_refused (openness_of question) text line accepted.0 accepted.1 refused

  pub is_about : (options : Options) (f : Formula) → options_of question ≡ Some options → IsAcceptedAs (openness_of question) text f
      → IsAbout (Some (request_for question text)) options text f
  is_about options f asked accepted = subst (λ o. DecidesAbout o options text f) (sym (owing_is question text)) (asked, refl, accepted)

-- where there is a cap, nothing stands behind the problem
pub capped_input : (question : Question) (options : Options) (bytes : Text) (p : System) (behind : Behind (tail_of question))
    → options_of question ≡ Some options → IsInputWith (tail_of question) bytes p behind → IsInput bytes p
capped_input (Truth own) options bytes p behind asked is = is
capped_input (Certificate own) options bytes p behind asked is = is
capped_input (Terms own) options bytes p behind asked is = is
capped_input (TermsCertificate own) options bytes p behind asked is = is
capped_input Check options bytes p behind asked is = absurd cc
capped_input (Solutions own bounds) options bytes p behind asked is = is
capped_input Confirm options bytes p behind asked is = absurd cc
capped_input (Synth own family) options bytes p behind asked is = absurd cc
