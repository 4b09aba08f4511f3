use Rattle.fort_sexpr.specs.FormView.{word_ahead}
use Rattle.fort_certificate_theory.specs.CertificateFaults.{NoWord, NoNumber}
use Rattle.fort_certificate.proofs.value.number_in.Goals as goal

pub returns-in_default-clause-err : goal.returns-in_default-clause-err
returns-in_default-clause-err c = NoWord c.in_default.ensures.none

pub returns-in-None-clause-err : goal.returns-in-None-clause-err
returns-in-None-clause-err c = NoNumber (word_ahead c.in-Some.bytes.now) c.in-Some.ensures.some c.in-None.ensures.none
