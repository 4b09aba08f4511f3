use Rattle.std.proofs.Common.{refl, false, true, ◌≡◌}
use Rattle.fort_certificate_theory.specs.CertificateFaults.{NotTwo, NoCount}
use Rattle.fort_certificate.proofs.ValueLaws.{finite_form, infinite_form, finite_bad, infinite_bad}
use Rattle.fort_certificate.proofs.value.count_in.Goals as goal

pub returns-in_default-clause-err : goal.returns-in_default-clause-err
returns-in_default-clause-err c = NotTwo c.in_default.ensures.none

pub returns-in-Some-number_ahead-clause-ok : goal.returns-in-Some-number_ahead-clause-ok
returns-in-Some-number_ahead-clause-ok c =
    finite_form _ _ _ _ _ (c.if-is_ahead.ensures.0 refl) c.in-Some.ensures.some c.in-Some-number_ahead.ensures.some

pub returns-in-None-clause-err : goal.returns-in-None-clause-err
returns-in-None-clause-err c = finite_bad _ _ _ _ (c.if-is_ahead.ensures.0 refl) c.in-Some.ensures.some c.in-None.ensures.none

pub returns-in-Some-number_ahead-2-clause-ok : goal.returns-in-Some-number_ahead-2-clause-ok
returns-in-Some-number_ahead-2-clause-ok c =
    infinite_form _ _ _ _ _ (c.if-is_ahead-2.ensures.0 refl) c.in-Some.ensures.some c.in-Some-number_ahead-2.ensures.some

pub returns-in-None-number_ahead-clause-err : goal.returns-in-None-number_ahead-clause-err
returns-in-None-number_ahead-clause-err c =
    infinite_bad _ _ _ _ (c.if-is_ahead-2.ensures.0 refl) c.in-Some.ensures.some c.in-None-number_ahead.ensures.none

pub returns-clause-err : goal.returns-clause-err
returns-clause-err c =
    NoCount _ _ c.in-Some.ensures.some
    (λ h. let wrong : false ≡ true = c.if-is_ahead.ensures.1 h in cc)
    (λ h. let wrong : false ≡ true = c.if-is_ahead-2.ensures.1 h in cc)
