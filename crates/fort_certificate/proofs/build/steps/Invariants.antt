use Rattle.std.proofs.Common.{◌≡◌, ◌+◌, ◌-◌, ◌≤◌, vec_len, vec_capacity}
use Rattle.std.specs.List.{AllZip}
use Rattle.fort_grammar.specs.Declarations.{as_list}
use Rattle.fort_certificate_theory.specs.CertificateForms.{IsStepForm}
use Rattle.fort_steps.specs.StepView.{as_step}
use Rattle.fort_certificate.specs.VersionView.{as_version}
use Rattle.fort_certificate.specs.Checking.{between}
use Rattle.fort_certificate.proofs.build.steps.Given as goal

abbrev pub invariant-steps : goal.invariant-steps
invariant-steps l =
    AllZip (λ f x. IsStepForm l.forms.bytes (as_version l.version) f (as_step x)) (between l.from l.i (as_list l.forms.forms)) l.steps.items
    × (l.from + vec_len l.steps ≡ l.i) × (l.end - l.from ≤ vec_capacity l.steps)
