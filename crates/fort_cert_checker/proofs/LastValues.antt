-- The last step that is due of a closed formula is a value, and so the last of fine steps has one.
use Rattle.std.specs.Prelude.{◌≡◌, ℕ, zero, suc, ◌+◌, ◌<◌, List, [], ◌∷◌, ◌++◌, take, length, get_or, Bool, Some, refl}
use Rattle.std.proofs.Common.{sym, ap, ◌∙◌, subst, arith, append_assoc}
use Rattle.std.proofs.lemmas.List.{take_more, take_all, length-take-le}
use Rattle.fort_theory.specs.Cores as core
use Rattle.fort_theory.specs.Cores.{Core}
use Rattle.fort_theory.specs.Parts.{IsClosed}
use Rattle.fort_theory.specs.PartLists.{AreParts}
use Rattle.fort_parts.proofs.PartOrder.{Contains-postorder}
use Rattle.fort_certificate_theory.specs.Certificates.{Step, Value}
use Rattle.fort_certificate_theory.specs.Dues.{DueStep, OfValue, due_of, closures_due, has_columns, counts_due, answer_due, parts_due, dues}
use Rattle.fort_certificate_theory.specs.Made.{MadeSoFar, nothing_made}
use Rattle.fort_certificate_theory.specs.Checked.{AreSteps, NoSteps, MoreSteps, last_value}
use Rattle.fort_certificate_theory.proofs.FineSteps.{cut_steps, passed_over}
use Rattle.fort_certificate_theory.proofs.StepLists.{parts_due-push}
use Rattle.fort_certificate_theory.proofs.StepsOfParts.{last_value-push}
use Rattle.fort_certificate_theory.proofs.CertifiedTruth.{last_part, no_columns_closed}
use Rattle.fort_cert_checker.specs.Abouts.{value_in}
use Rattle.fort_cert_checker.proofs.FrontLaws.{value_of}

-- the dues end in a value
record EndsInValue (ds : List DueStep) : Type 0 where
  front : List DueStep
  k : ℕ
  is : ds ≡ front ++ OfValue k ∷ []

ends_in_value : (merges : ℕ → Bool) (n : ℕ) (f : Core) (parts : List Core) → AreParts f parts → IsClosed f → EndsInValue (dues merges n parts)
ends_in_value merges n f parts are closed = by (length parts) refl
  where
    by : (m : ℕ) → length parts ≡ m → EndsInValue (dues merges n parts)
    by zero e = absurd (let c = (are.same f).0 (Contains-postorder f) in omega (arith, c.1, e))
    by (suc m) e =
        let l : m < length parts = omega arith in
        let root : get_or parts m core.True ≡ f = last_part f parts are m e in
        let own : m + 1 ≡ length parts = omega arith in
        let whole : parts ≡ take m parts ++ f ∷ [] =
        sym (take_all (m + 1) parts (omega arith)) ∙ (take_more parts m core.True l ∙ ap (λ g. take m parts ++ g ∷ []) root) in
        let count : 0 + length (take m parts) ≡ m = omega (arith, length-take-le m parts (omega arith)) in
        let answer : answer_due merges m f ≡ OfValue m ∷ [] = passed_over (has_columns f) _ (OfValue m ∷ []) (no_columns_closed f closed) in
        let all : parts_due merges 0 parts ≡ parts_due merges 0 (take m parts) ++ (counts_due m f ++ OfValue m ∷ []) =
        ap (parts_due merges 0) whole
        ∙ (parts_due-push merges 0 (take m parts) f
        ∙ (ap (λ i. parts_due merges 0 (take m parts) ++ (counts_due i f ++ answer_due merges i f)) count ∙ ap (λ ds. parts_due merges 0 (take m parts) ++ (counts_due m f ++ ds)) answer)) in
        record {
          front = closures_due parts n 1 ++ (parts_due merges 0 (take m parts) ++ counts_due m f);
          k = m;
          is = ap (λ ds. closures_due parts n 1 ++ ds) (all ∙ sym (append_assoc (parts_due merges 0 (take m parts)) (counts_due m f) (OfValue m ∷ [])))
              ∙ sym (append_assoc (closures_due parts n 1) (parts_due merges 0 (take m parts) ++ counts_due m f) (OfValue m ∷ []));
        }

one_of : (IsStep : MadeSoFar → Step → MadeSoFar → Type 0) (made last : MadeSoFar) (d : DueStep) (ss : List Step) → AreSteps IsStep made (d ∷ []) ss last → (s : Step) × (ss ≡ s ∷ []) × (due_of s ≡ d)
one_of IsStep made last d ss (MoreSteps {s = s} e h NoSteps) = (s, refl, e)

-- Result
pub last_is_value : (IsStep : MadeSoFar → Step → MadeSoFar → Type 0) (merges : ℕ → Bool) (n : ℕ) (f : Core) (parts : List Core) (ss : List Step) (last : MadeSoFar) → AreParts f parts → IsClosed f
    → AreSteps IsStep nothing_made (dues merges n parts) ss last → (value : Bool) × (last_value ss ≡ Some value)
last_is_value IsStep merges n f parts ss last are closed h =
    let w = ends_in_value merges n f parts are closed in
    let cut = cut_steps IsStep nothing_made w.front (OfValue w.k ∷ []) ss last (subst (λ (ds : List DueStep). AreSteps IsStep nothing_made ds ss last) w.is h) in
    let one = one_of IsStep cut.mid last (OfValue w.k) cut.rest cut.second in
    let is : one.0 ≡ Value w.k (value_in one.0) = value_of one.0 w.k one.2 in
    let whole : ss ≡ cut.front ++ Value w.k (value_in one.0) ∷ [] = cut.split ∙ (ap (λ xs. cut.front ++ xs) one.1 ∙ ap (λ s. cut.front ++ s ∷ []) is) in
    (value_in one.0, ap last_value whole ∙ last_value-push cut.front w.k (value_in one.0))
