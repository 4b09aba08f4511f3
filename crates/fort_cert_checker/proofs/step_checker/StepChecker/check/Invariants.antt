use Rattle.std.proofs.Common.{◌≡◌, ℕ, List}
use Rattle.fort_theory.specs.Patterns.{PatternSystem}
use Rattle.fort_theory.specs.Cores.{Core}
use Rattle.fort_certificate_theory.specs.Certificates.{Step}
use Rattle.fort_certificate_theory.specs.Made.{MadeSoFar}
use Rattle.fort_cert_checker.specs.StepCheckers.{IsStepCheckerOf, IsStepCheckAt}
use Rattle.fort_cert_checker.specs.declared.step_checker.StepChecker.{StepChecker}
use Rattle.fort_cert_checker.proofs.step_checker.StepChecker.check.Given as goal

pub record IsAlong (old new : StepChecker) (n : ℕ) : Type 0 where
  pub at : (system : PatternSystem) (f : Core) (first : ℕ) (ss : List Step) → IsStepCheckerOf system f first ss old → (made : MadeSoFar) × IsStepCheckAt system f first ss new n made
  pub first : new.first ≡ old.first
  pub steps : new.steps ≡ old.steps
  pub root : new.root ≡ old.root
  pub dues : new.dues ≡ old.dues

abbrev pub invariant-dues : goal.invariant-dues
invariant-dues l = IsAlong l.initial.self l.self l.place
