-- To believe: which outcome of a certificate an answer of the checker tells.
use Rattle.std.specs.Prelude.{Bool, Result, Ok, Err}
use Rattle.fort_certificate_theory.specs.Checked.{Outcome, Certified}
use Rattle.fort_certificate_theory.specs.Checked as outcomes
use Rattle.fort_check_steps.specs.StepAnswers as steps
use Rattle.fort_check_steps.specs.declared.failure.Reason.{Reason}
use Rattle.fort_certificate_theory.specs.Outcomes as reasons
use Rattle.fort_cert_checker.specs.declared.rejected.Rejected.{Rejected}

abbrev pub as_reason : Reason → reasons.Reason
as_reason reason = steps.as_reason reason

abbrev pub as_outcome : Result Bool Rejected → Outcome
as_outcome (Ok verdict) = Certified verdict
as_outcome (Err r) = outcomes.Rejected r.form r.place (as_reason r.reason)
