use Rattle.std.proofs.Common.{◌≡◌, ◌+◌, ◌≤◌, length, vec_len, vec_capacity}
use Rattle.fort_certificate_theory.specs.CertificateForms.{IsNumberForm}
use Rattle.fort_certificate_theory.specs.CertificateFaults.{NumberSlot}
use Rattle.fort_certificate.proofs.BuildLaws.{IsReadTo}
use Rattle.fort_certificate.proofs.WrongLaws.{IsBadAlong}
use Rattle.fort_certificate.proofs.build.numbers.Given as goal

abbrev pub invariant-elements : goal.invariant-elements
invariant-elements l =
    IsReadTo (λ f x. IsNumberForm l.fn.elements.bytes f x) l.fn.elements.forms l.rest.forms l.numbers.items × (l.rest.bytes ≡ l.fn.elements.bytes)
    × (vec_len l.numbers + length l.rest.forms ≤ vec_capacity l.numbers) × IsBadAlong l.fn.elements.bytes NumberSlot l.fn.elements.forms l.rest.forms

abbrev pub decreases-elements : goal.decreases-elements
decreases-elements l = length l.rest.forms
