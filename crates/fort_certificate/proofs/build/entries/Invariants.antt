use Rattle.std.proofs.Common.{◌≡◌, ◌+◌, ◌≤◌, length, vec_len, vec_capacity}
use Rattle.fort_certificate_theory.specs.CertificateForms.{IsPairForm}
use Rattle.fort_findings.specs.FindingView.{as_pair}
use Rattle.fort_certificate_theory.specs.CertificateFaults.{PairSlot}
use Rattle.fort_certificate.proofs.BuildLaws.{IsReadTo}
use Rattle.fort_certificate.proofs.WrongLaws.{IsBadAlong}
use Rattle.fort_certificate.proofs.build.entries.Given as goal

abbrev pub invariant-elements : goal.invariant-elements
invariant-elements l =
    IsReadTo (λ f x. IsPairForm l.fn.elements.bytes f (as_pair x)) l.fn.elements.forms l.rest.forms l.entries.items × (l.rest.bytes ≡ l.fn.elements.bytes)
    × (vec_len l.entries + length l.rest.forms ≤ vec_capacity l.entries) × IsBadAlong l.fn.elements.bytes PairSlot l.fn.elements.forms l.rest.forms

abbrev pub decreases-elements : goal.decreases-elements
decreases-elements l = length l.rest.forms
