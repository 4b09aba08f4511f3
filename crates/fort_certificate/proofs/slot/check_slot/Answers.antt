use Rattle.std.proofs.Common.{sym, subst}
use Rattle.fort_certificate_theory.specs.CertificateFaults.{AsForm, IsBadAt, NoWhich, NoVerdict}
use Rattle.fort_certificate.specs.declared.slot.Slot.{Slot}
use Rattle.fort_certificate.specs.ReadView.{as_slot}
use Rattle.fort_certificate.proofs.slot.check_slot.Goals as goal

pub returns-in-None-clause-err : goal.returns-in-None-clause-err
returns-in-None-clause-err c =
    subst (λ (s : Slot). IsBadAt c.args.form.now.bytes c.args.form.now.form (as_slot s) AsForm) (sym c.in-Which.is) (NoWhich c.in-None.ensures.none)

pub returns-in-None-verdict_in-clause-err : goal.returns-in-None-verdict_in-clause-err
returns-in-None-verdict_in-clause-err c =
    subst (λ (s : Slot). IsBadAt c.args.form.now.bytes c.args.form.now.form (as_slot s) AsForm) (sym c.in-Verdict.is) (NoVerdict c.in-None-verdict_in.ensures.none)
