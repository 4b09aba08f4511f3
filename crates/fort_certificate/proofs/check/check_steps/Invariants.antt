use Rattle.fort_grammar.specs.Declarations.{as_list}
use Rattle.fort_certificate_theory.specs.CertificateForms.{IsStepForm}
use Rattle.fort_certificate.specs.VersionView.{as_version}
use Rattle.fort_certificate.proofs.StepsLaws.{AreSomeUpTo}
use Rattle.fort_certificate.proofs.check.check_steps.Given as goal

abbrev pub invariant-steps : goal.invariant-steps
invariant-steps l = AreSomeUpTo (IsStepForm l.forms.bytes (as_version l.version)) (as_list l.forms.forms) l.from l.i
