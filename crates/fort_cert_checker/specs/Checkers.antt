-- Inside: what a checker has, and what is known of it.
use Rattle.std.specs.Prelude.{◌≡◌}
use Rattle.fort_theory.specs.Patterns.{PatternSystem}
use Rattle.fort_theory.specs.Cores.{Core}
use Rattle.fort_theory.specs.Parts.{IsClosed}
use Rattle.fort_certificate_theory.specs.Certificates.{Certificate}
use Rattle.fort_steps.specs.CertificateView.{as_certificate}
use Rattle.fort_cert_checker.specs.StepCheckers.{IsStepCheckerOf}
use Rattle.fort_cert_checker.specs.declared.checker.Checker.{Checker}

-- of this certificate of this formula over this system
pub record IsCheckerOf (system : PatternSystem) (f : Core) (c : Certificate) (a : Checker) : Type 0 where
  pub certificate_is : as_certificate a.certificate.now ≡ c
  pub closed : IsClosed f
  pub steps : IsStepCheckerOf system f c.first c.steps a.steps
