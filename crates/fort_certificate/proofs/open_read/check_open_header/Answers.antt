use Rattle.std.proofs.Common.{◌≡◌, false, true, refl}
use Rattle.fort_certificate_theory.specs.OpenFaults.{NoHeader}
use Rattle.fort_certificate.proofs.OpenHeaderLaws.{other_first, no_number, other_number, other_claim}
use Rattle.fort_certificate.proofs.open_read.check_open_header.Goals as goal

pub returns-in_default-clause-fault : goal.returns-in_default-clause-fault
returns-in_default-clause-fault c = NoHeader (λ second third h. c.in_default.ensures.none _ second third h)

pub returns-then-not-is_ahead-clause-fault : goal.returns-then-not-is_ahead-clause-fault
returns-then-not-is_ahead-clause-fault c =
    other_first _ _ _ _ _ _ c.in-Some.ensures.some (λ h. let wrong : false ≡ true = c.if-not-is_ahead.ensures.1 h in cc)

pub returns-in-Some-number_ahead-clause-fault : goal.returns-in-Some-number_ahead-clause-fault
returns-in-Some-number_ahead-clause-fault c =
    other_number _ _ _ _ _ _ c.in-Some.ensures.some _ (c.if-not-is_ahead.ensures.0 refl) c.in-Some-number_ahead.ensures.some
    (λ h. let wrong : false ≡ true = c.if-not-is_ahead-2.ensures.1 h in cc)

pub returns-in-None-clause-fault : goal.returns-in-None-clause-fault
returns-in-None-clause-fault c = no_number _ _ _ _ _ _ c.in-Some.ensures.some (c.if-not-is_ahead.ensures.0 refl) c.in-None.ensures.none

pub returns-in-None-claim_ahead-clause-fault : goal.returns-in-None-claim_ahead-clause-fault
returns-in-None-claim_ahead-clause-fault c =
    other_claim _ _ _ _ _ _ c.in-Some.ensures.some (c.if-not-is_ahead.ensures.0 refl) (c.if-not-is_ahead-2.ensures.0 refl)
    c.in-None-claim_ahead.ensures.none
