-- Inside: what a checker of an open formula's certificate has, and what is known of it.
use Rattle.std.specs.Prelude.{◌≡◌, ◌+◌, ◌^◌, ◌<◌, length}
use Rattle.fort_theory.specs.Patterns.{PatternSystem}
use Rattle.fort_theory.specs.Cores.{Core}
use Rattle.fort_parts.specs.PartColumns.{columns_of}
use Rattle.fort_certificate_theory.specs.Made.{MadeSoFar}
use Rattle.fort_certificate_theory.specs.OpenCertificates.{OpenCertificate}
use Rattle.fort_steps.specs.OpenView.{as_open}
use Rattle.fort_cert_checker.specs.StepCheckers.{IsStepCheckerOf, IsStepCheckDone, FitsWhole}
use Rattle.fort_open_checker.specs.NodeStates.{HasNodeRoom}
use Rattle.fort_open_checker.specs.declared.checker.OpenChecker.{OpenChecker}

-- of this certificate of this formula over this system
pub record IsOpenCheckerOf (system : PatternSystem) (f : Core) (c : OpenCertificate) (a : OpenChecker) : Type 0 where
  pub certificate_is : as_open a.certificate.now ≡ c
  pub columns : 0 < length (columns_of f)
  pub forms : c.first + 1 + length c.steps + length c.nodes < 2 ^ 32
  pub steps : IsStepCheckerOf system f c.first c.steps a.steps
  pub whole : FitsWhole a.steps a.whole.list a.whole.lay
  pub nodes : HasNodeRoom (length c.nodes) a.nodes

-- whose steps are all fine
pub record IsOpenCheckDone (system : PatternSystem) (f : Core) (c : OpenCertificate) (a : OpenChecker) (made : MadeSoFar) : Type 0 where
  pub checker : IsOpenCheckerOf system f c a
  pub done : IsStepCheckDone system f c.first c.steps a.steps made
