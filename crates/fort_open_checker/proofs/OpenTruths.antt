-- What a checker of an open formula's certificate accepts is true, since one that is in order proves its claim.
use Rattle.std.specs.Prelude.{Result, Ok, Err, IfOk}
use Rattle.fort_theory.specs.Patterns.{PatternSystem}
use Rattle.fort_theory.specs.Cores.{Core}
use Rattle.fort_certificate_theory.specs.OpenCertificates.{OpenCertificate}
use Rattle.fort_certificate_theory.specs.OpenChecked.{HasOpenOutcome}
use Rattle.fort_certificate_theory.specs.OpenTruth.{Proves}
use Rattle.fort_certificate_theory.proofs.OpenTruthLaws.{proves}
use Rattle.fort_steps.specs.OpenView.{as_claim}
use Rattle.fort_steps.specs.declared.open_certificate.Claim.{Claim}
use Rattle.fort_open_checker.specs.OpenCheckers.{IsOpenCheckerOf}
use Rattle.fort_open_checker.specs.OpenOutcomeView.{as_outcome}
use Rattle.fort_open_checker.specs.declared.checker.OpenChecker.{OpenChecker}
use Rattle.fort_open_checker.specs.declared.outcome.Unconfirmed.{Unconfirmed}

pub truths : (a : OpenChecker) (r : Result Claim Unconfirmed)
    → ((system : PatternSystem) (f : Core) (c : OpenCertificate) → IsOpenCheckerOf system f c a → HasOpenOutcome system f c (as_outcome r))
    → IfOk r (λ claim. (system : PatternSystem) (f : Core) (c : OpenCertificate) → IsOpenCheckerOf system f c a → Proves system f c (as_claim claim))
truths a (Ok claim) outcome = λ system f c h. proves system h.steps.lawful f h.steps.ready.decided c (as_claim claim) (outcome system f c h)
truths a (Err e) outcome = tt
