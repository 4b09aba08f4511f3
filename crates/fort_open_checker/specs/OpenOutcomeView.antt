-- To believe: which outcome of a certificate of an open formula an answer of the checker tells.
use Rattle.std.specs.Prelude.{Result, Ok, Err}
use Rattle.fort_certificate_theory.specs.OpenChecked as outcomes
use Rattle.fort_certificate_theory.specs.OpenChecked.{OpenOutcome, Confirmed}
use Rattle.fort_steps.specs.OpenView.{as_claim}
use Rattle.fort_steps.specs.declared.open_certificate.Claim.{Claim}
use Rattle.fort_cert_checker.specs.OutcomeView.{as_reason}
use Rattle.fort_open_checker.specs.declared.outcome.Unconfirmed.{Unconfirmed}
use Rattle.fort_open_checker.specs.declared.outcome.Unconfirmed.TheVariants.{Rejected, NoEntry}

abbrev pub as_outcome : Result Claim Unconfirmed → OpenOutcome
as_outcome (Ok claim) = Confirmed (as_claim claim)
as_outcome (Err (Rejected r)) = outcomes.Rejected r.form r.place (as_reason r.reason)
as_outcome (Err (NoEntry form)) = outcomes.NoEntry form
