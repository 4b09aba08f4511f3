use Rattle.std.proofs.Common.{◌≡◌, ◌++◌, map, take}
use Rattle.std.specs.List.{AllByRecursion}
use Rattle.fort_certificate_theory.specs.CertificateText.{steps_text}
use Rattle.fort_steps.specs.StepView.{as_step}
use Rattle.fort_certificate.specs.Again.{HasSmallNumbers}
use Rattle.fort_certificate.specs.VersionView.{as_version}
use Rattle.fort_certificate.proofs.write.push_steps.Given as goal

abbrev pub invariant-loop-step : goal.invariant-loop-step
invariant-loop-step l = record {
  text : l.out.items ≡ l.fn.out.items ++ steps_text (as_version l.version) (map as_step (take l.step-index l.steps));
  small : AllByRecursion HasSmallNumbers (map as_step (take l.step-index l.steps));
}
