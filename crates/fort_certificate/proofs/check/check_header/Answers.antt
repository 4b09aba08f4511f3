use Rattle.std.proofs.Common.{◌≡◌, false, true, refl}
use Rattle.fort_certificate_theory.specs.CertificateFaults.{NoHeader}
use Rattle.fort_certificate.specs.VersionView.{as_version}
use Rattle.fort_certificate.proofs.HeaderLaws.{other_first, no_number, other_number, other_verdict}
use Rattle.fort_certificate.proofs.check.check_header.Goals as goal

pub returns-in_default-clause-fault : goal.returns-in_default-clause-fault
returns-in_default-clause-fault c = NoHeader (λ second third h. c.in_default.ensures.none _ second third h)

pub returns-then-not-is_ahead-clause-fault : goal.returns-then-not-is_ahead-clause-fault
returns-then-not-is_ahead-clause-fault c =
    other_first _ _ _ _ _ _ _ c.in-Some.ensures.some (λ h. let wrong : false ≡ true = c.if-not-is_ahead.ensures.1 h in cc)

pub returns-in-Some-number_ahead-clause-fault : goal.returns-in-Some-number_ahead-clause-fault
returns-in-Some-number_ahead-clause-fault c =
    other_number _ c.args.number _ _ _ _ _ c.in-Some.ensures.some _ (c.if-not-is_ahead.ensures.0 refl) c.in-Some-number_ahead.ensures.some
    c.in_default-version_ahead.ensures.none

pub returns-in-None-clause-fault : goal.returns-in-None-clause-fault
returns-in-None-clause-fault c =
    no_number _ c.args.number _ _ _ _ _ c.in-Some.ensures.some (c.if-not-is_ahead.ensures.0 refl) c.in-None.ensures.none

pub returns-in-None-verdict_ahead-clause-fault : goal.returns-in-None-verdict_ahead-clause-fault
returns-in-None-verdict_ahead-clause-fault c =
    other_verdict _ c.args.number _ _ _ _ _ c.in-Some.ensures.some (as_version c.in-Some-version_ahead.version) c.in-Some-version_ahead.ensures.of_problem
    (c.if-not-is_ahead.ensures.0 refl) c.in-Some-version_ahead.ensures.some c.in-None-verdict_ahead.ensures.none
