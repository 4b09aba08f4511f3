-- To believe: which certificate of the definitions a certificate of the program is.
use Rattle.std.specs.Prelude.{map}
use Rattle.fort_certificate_theory.specs.Certificates as certificates
use Rattle.fort_steps.specs.StepView.{as_step}
use Rattle.fort_steps.specs.declared.certificate.Certificate.{Certificate}

abbrev pub as_certificate : Certificate → certificates.Certificate
as_certificate c = record { first = c.first; verdict = c.verdict; steps = map as_step c.steps.items }
