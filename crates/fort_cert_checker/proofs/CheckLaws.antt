-- What comes of a certificate whose steps are all fine, or of which one fails.
use Rattle.std.specs.Prelude.{◌≡◌, ℕ, zero, suc, ◌+◌, ◌-◌, List, [], ◌∷◌, map, length, slice_get, Bool, true, false, Some, None, Result, Ok, Err, OnOk, IfOk, IfErr, refl}
use Rattle.std.proofs.Common.{sym, ap, ◌∙◌, subst, arith}
use Rattle.std.proofs.lemmas.Option.{slice_get-get_or}
use mathlib.Core.Bool.{beq}
use Rattle.fort_theory.specs.Patterns.{PatternSystem}
use Rattle.fort_theory.specs.Cores.{Core}
use Rattle.fort_theory.specs.PatternStructures.{pattern_structure}
use Rattle.fort_certificate_theory.specs.Certificates.{Certificate}
use Rattle.fort_parts.specs.PartAnswers.{OfValue, IsAnswerTo}
use Rattle.fort_certificate_theory.specs.Outcomes.{Verdict}
use Rattle.fort_certificate_theory.specs.Dues.{is_merged_in}
use Rattle.fort_certificate_theory.specs.Made.{MadeSoFar}
use Rattle.fort_certificate_theory.specs.Checked.{IsFine, HasOutcome, InOrder, OtherVerdict, FailingStep, Certified, Rejected, last_value}
use Rattle.fort_certificate_theory.proofs.CertifiedTruth.{certified_truth}
use Rattle.fort_steps.specs.CertificateView.{as_certificate}
use Rattle.fort_steps.specs.StepView.{as_step}
use Rattle.fort_steps.specs.declared.step.Step.{Step}
use Rattle.fort_steps.specs.declared.step.Step.TheVariants as program_step
use Rattle.fort_check_steps.specs.StepAnswers.{as_reason}
use Rattle.fort_cert_checker.specs.Abouts.{value_in}
use Rattle.fort_cert_checker.specs.OutcomeView.{as_outcome}
use Rattle.fort_cert_checker.specs.StepCheckers.{IsStepCheckerOf, IsStepCheckDone, HasFailure}
use Rattle.fort_cert_checker.specs.Checkers.{IsCheckerOf}
use Rattle.fort_cert_checker.specs.declared.checker.Checker.{Checker}
use Rattle.fort_cert_checker.specs.declared.step_checker.StepChecker.{StepChecker}
use Rattle.fort_cert_checker.specs.declared.rejected.Rejected as program
use Rattle.fort_cert_checker.proofs.LastValues.{last_is_value}

-- the last of n + 1
last_at : (xs : List Step) (n : ℕ) (x : Step) → n + 1 ≡ length xs → slice_get xs n ≡ Some x → last_value (map as_step xs) ≡ last_value (as_step x ∷ [])
last_at [] n x l e = absurd cc
last_at (y ∷ []) zero x l e = let same : y ≡ x = cc in ap (λ z. last_value (as_step z ∷ [])) same
last_at (y ∷ []) (suc n) x l e = absurd (omega (arith, l))
last_at (y ∷ z ∷ ys) zero x l e = absurd (omega (arith, l))
last_at (y ∷ z ∷ ys) (suc n) x l e = last_at (z ∷ ys) n x (omega (arith, l)) e

pub last_step : (xs : List Step) (x : Step) → slice_get xs (length xs - 1) ≡ Some x → last_value (map as_step xs) ≡ last_value (as_step x ∷ [])
last_step [] x e = absurd cc
last_step (y ∷ ys) x e = last_at (y ∷ ys) (length (y ∷ ys) - 1) x (omega arith) e

pub same_verdict : (v w : Bool) → beq v w ≡ true → v ≡ w
same_verdict true true e = refl
same_verdict true false e = absurd cc
same_verdict false true e = absurd cc
same_verdict false false e = refl

pub other_value : (v w : Bool) → beq v w ≡ false → v ≡ w → ⊥
other_value true true e same = cc
other_value true false e same = cc
other_value false true e same = cc
other_value false false e same = cc

-- the value of a list's last step
pub last_value_in : (xs : List Step) (x : Step) (v : Bool) → slice_get xs (length xs - 1) ≡ Some x → last_value (map as_step xs) ≡ Some v → value_in (as_step x) ≡ v
last_value_in xs x v e h = by x (sym (last_step xs x e) ∙ h)
  where
    by : (y : Step) → last_value (as_step y ∷ []) ≡ Some v → value_in (as_step y) ≡ v
    by (program_step.Value k w) e = cc
    by (program_step.Closure which index items) e = absurd cc
    by (program_step.Part k targets) e = absurd cc
    by (program_step.Merge k classes) e = absurd cc
    by (program_step.Counts k marks) e = absurd cc

-- an empty list has none
pub some_last : (xs : List Step) (v : Bool) → last_value (map as_step xs) ≡ Some v → slice_get xs (length xs - 1) ≡ None → ⊥
some_last [] v h e = cc
some_last (x ∷ xs) v h e = let there = slice_get-get_or (x ∷ xs) (length (x ∷ xs) - 1) x (omega arith) in cc

-- a step that fails is the certificate's
pub rejected : (system : PatternSystem) (f : Core) (c : Certificate) (r : program.Rejected) → HasFailure system f c.first c.steps r → HasOutcome system f c (as_outcome (Err r))
rejected system f c r h =
    let front = h.failure.front in
    let form : r.form ≡ c.first + 1 + length front = h.form_is ∙ ap (λ n. c.first + 1 + n) (sym h.failure.count) in
    subst (λ m. HasOutcome system f c (Rejected m r.place (as_reason r.reason))) (sym form)
    record { parts = h.failure.parts; parts_are = h.failure.parts_are; checked = FailingStep front r.place (as_reason r.reason) h.failure.failure }

module _ (system : PatternSystem) (f : Core) (c : Certificate) (old : Checker) (h : IsCheckerOf system f c old) where
  pub steps_are : c.steps ≡ map as_step old.certificate.now.steps.items
  steps_are = ap (λ (d : Certificate). d.steps) (sym h.certificate_is)

  first_is : c.first ≡ old.certificate.now.first
  first_is = ap (λ (d : Certificate). d.first) (sym h.certificate_is)

  verdict_is : c.verdict ≡ old.certificate.now.verdict
  verdict_is = ap (λ (d : Certificate). d.verdict) (sym h.certificate_is)

  module _ (a : StepChecker) (made : MadeSoFar) (d : IsStepCheckDone system f c.first c.steps a made) where
    value : (v : Bool) × (last_value c.steps ≡ Some v)
    value = last_is_value (IsFine system d.checker.parts) (is_merged_in c.steps) (length system.rules) f d.checker.parts c.steps made d.checker.ready.are h.closed d.fine

    -- Result
    pub has_value : (v : Bool) × (last_value (map as_step old.certificate.now.steps.items) ≡ Some v)
    has_value = (value.0, ap last_value (sym steps_are) ∙ value.1)

    certified : last_value (map as_step old.certificate.now.steps.items) ≡ Some old.certificate.now.verdict → HasOutcome system f c (Certified old.certificate.now.verdict)
    certified e =
        subst (λ v. HasOutcome system f c (Certified v)) verdict_is
        record { parts = d.checker.parts; parts_are = d.checker.ready.are; checked = InOrder made d.fine (ap last_value steps_are ∙ (e ∙ ap Some (sym verdict_is))) }

    other_verdict : ((v : Bool) → last_value (map as_step old.certificate.now.steps.items) ≡ Some v → old.certificate.now.verdict ≡ v → ⊥) → HasOutcome system f c (Rejected old.certificate.now.first 0 Verdict)
    other_verdict other =
        subst (λ m. HasOutcome system f c (Rejected m 0 Verdict)) first_is
        record {
          parts = d.checker.parts;
          parts_are = d.checker.ready.are;
          checked = OtherVerdict made value.0 d.fine value.1 (λ e. other value.0 (ap last_value (sym steps_are) ∙ value.1) (sym verdict_is ∙ e));
        }

    -- Result
    pub judged : (r : Result Bool program.Rejected) → OnOk r (last_value (map as_step old.certificate.now.steps.items) ≡ Some old.certificate.now.verdict) → IfOk r (λ v. v ≡ old.certificate.now.verdict)
        → IfErr r (λ e. (v : Bool) → last_value (map as_step old.certificate.now.steps.items) ≡ Some v → old.certificate.now.verdict ≡ v → ⊥)
        → IfErr r (λ e. as_outcome (Err e) ≡ Rejected old.certificate.now.first 0 Verdict) → HasOutcome system f c (as_outcome r)
    judged (Ok v) last own other header = subst (λ w. HasOutcome system f c (Certified w)) (sym own) (certified last)
    judged (Err e) last own other header = subst (λ o. HasOutcome system f c o) (sym header) (other_verdict other)

-- the same certificate with other room
pub checker_kept : (system : PatternSystem) (f : Core) (c : Certificate) (old new : Checker) → new.certificate ≡ old.certificate → IsStepCheckerOf system f c.first c.steps new.steps → IsCheckerOf system f c old → IsCheckerOf system f c new
checker_kept system f c old new certificate steps h = record { certificate_is = ap (λ k. as_certificate k.now) certificate ∙ h.certificate_is; closed = h.closed; steps = steps }

-- what is certified is true
pub truths : (a : Checker) (r : Result Bool program.Rejected) → ((system : PatternSystem) (f : Core) (c : Certificate) → IsCheckerOf system f c a → HasOutcome system f c (as_outcome r))
    → IfOk r (λ v. (system : PatternSystem) (f : Core) (c : Certificate) → IsCheckerOf system f c a → IsAnswerTo (pattern_structure system) f (OfValue v))
truths a (Ok v) outcome = λ system f c h. certified_truth system h.steps.lawful f h.steps.ready.decided h.closed c v (outcome system f c h)
truths a (Err e) outcome = tt
