use Rattle.std.proofs.Common.{◌≡◌, ◌+◌, ◌≤◌, length, vec_len, vec_capacity}
use Rattle.fort_certificate_theory.specs.CertificateForms.{IsCountForm}
use Rattle.fort_findings.specs.FindingView.{as_count}
use Rattle.fort_certificate_theory.specs.CertificateFaults.{CountSlot}
use Rattle.fort_certificate.proofs.BuildLaws.{IsReadTo}
use Rattle.fort_certificate.proofs.WrongLaws.{IsBadAlong}
use Rattle.fort_certificate.proofs.build.counts.Given as goal

abbrev pub invariant-elements : goal.invariant-elements
invariant-elements l =
    IsReadTo (λ f x. IsCountForm l.fn.elements.bytes f (as_count x)) l.fn.elements.forms l.rest.forms l.counts.items × (l.rest.bytes ≡ l.fn.elements.bytes)
    × (vec_len l.counts + length l.rest.forms ≤ vec_capacity l.counts) × IsBadAlong l.fn.elements.bytes CountSlot l.fn.elements.forms l.rest.forms

abbrev pub decreases-elements : goal.decreases-elements
decreases-elements l = length l.rest.forms
