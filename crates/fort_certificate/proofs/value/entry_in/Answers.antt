use Rattle.fort_certificate_theory.specs.CertificateFaults.{NotThree, NoPair}
use Rattle.fort_certificate.proofs.ValueLaws.{words_of_pair}
use Rattle.fort_certificate.proofs.value.entry_in.Goals as goal

pub returns-in_default-clause-err : goal.returns-in_default-clause-err
returns-in_default-clause-err c = NotThree c.in_default.ensures.none

pub returns-in_default-number_ahead-clause-err : goal.returns-in_default-number_ahead-clause-err
returns-in_default-number_ahead-clause-err c =
    let words = c.in-Some.ensures.some in
    NoPair _ _ _ words (λ fits. c.in_default-number_ahead.ensures.none fits.0.p (words_of_pair _ _ _ _ _ fits.0 words fits.1).p)

pub returns-in_default-number_ahead-2-clause-err : goal.returns-in_default-number_ahead-2-clause-err
returns-in_default-number_ahead-2-clause-err c =
    let words = c.in-Some.ensures.some in
    NoPair _ _ _ words (λ fits. c.in_default-number_ahead-2.ensures.none fits.0.q (words_of_pair _ _ _ _ _ fits.0 words fits.1).q)

pub returns-in_default-reason_ahead-clause-err : goal.returns-in_default-reason_ahead-clause-err
returns-in_default-reason_ahead-clause-err c =
    let words = c.in-Some.ensures.some in
    NoPair _ _ _ words (λ fits. c.in_default-reason_ahead.ensures.none fits.0.why (words_of_pair _ _ _ _ _ fits.0 words fits.1).why)
