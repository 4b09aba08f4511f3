use Rattle.std.proofs.Common.{◌≡◌, ◌<◌, ℕ, map, get_or}
use Rattle.fort_certificate_theory.specs.Certificates as theory
use Rattle.fort_certificate_theory.specs.Dues as definitions
use Rattle.fort_steps.specs.StepView.{as_step}
use Rattle.fort_dues.specs.DueView.{as_due}
use Rattle.fort_cert_checker.proofs.about.step_about.Given as goal

abbrev pub invariant-loop-step : goal.invariant-loop-step
invariant-loop-step l = (i : ℕ) (e : theory.Step) → i < l.step-index → definitions.due_of (get_or (map as_step l.steps) i e) ≡ as_due l.due → ⊥
