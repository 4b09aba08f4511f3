-- The test whether two steps that are due are one decides it.
use Rattle.std.specs.Prelude.{◌≡◌, ◌==◌, Decides, refl}
use Rattle.std.proofs.Common.{ap}
use Rattle.std.proofs.lemmas.Bool.Decides.{Decides-eqb, Decides-like}
use Rattle.fort_alike.proofs.Bits.{Decides-true, Decides-false, Decides-and_then}
use Rattle.fort_alike.specs.ListedClosures.{Which, Star, Conv}
use Rattle.fort_certificate_theory.specs.Dues.{DueStep, OfClosure, OfPart, OfMerge, OfCounts, OfValue}
use Rattle.fort_certificate_theory.specs.Made.{same_which}
use Rattle.fort_cert_checker.specs.SameDue.{same_due}

Decides-which : (v w : Which) → Decides (same_which v w) (v ≡ w)
Decides-which Star Star = Decides-true refl
Decides-which Star Conv = Decides-false (λ e. cc)
Decides-which Conv Star = Decides-false (λ e. cc)
Decides-which Conv Conv = Decides-true refl

pub Decides-same_due : (d e : DueStep) → Decides (same_due d e) (d ≡ e)
Decides-same_due (OfClosure v i) (OfClosure w j) =
    Decides-like (same_due (OfClosure v i) (OfClosure w j)) (λ h. λ n. OfClosure (h.0 n) (h.1 n))
    (λ (s : OfClosure v i ≡ OfClosure w j). let a : v ≡ w = cc in let b : i ≡ j = cc in (a, b))
    (Decides-and_then (same_which v w) (i == j) (Decides-which v w) (λ _. Decides-eqb i j))
Decides-same_due (OfClosure v i) (OfPart j) = Decides-false (λ s. cc)
Decides-same_due (OfClosure v i) (OfMerge j) = Decides-false (λ s. cc)
Decides-same_due (OfClosure v i) (OfCounts j) = Decides-false (λ s. cc)
Decides-same_due (OfClosure v i) (OfValue j) = Decides-false (λ s. cc)
Decides-same_due (OfPart i) (OfClosure w j) = Decides-false (λ s. cc)
Decides-same_due (OfPart i) (OfPart j) = Decides-like (same_due (OfPart i) (OfPart j)) (ap OfPart) (λ (s : OfPart i ≡ OfPart j). let b : i ≡ j = cc in b) (Decides-eqb i j)
Decides-same_due (OfPart i) (OfMerge j) = Decides-false (λ s. cc)
Decides-same_due (OfPart i) (OfCounts j) = Decides-false (λ s. cc)
Decides-same_due (OfPart i) (OfValue j) = Decides-false (λ s. cc)
Decides-same_due (OfMerge i) (OfClosure w j) = Decides-false (λ s. cc)
Decides-same_due (OfMerge i) (OfPart j) = Decides-false (λ s. cc)
Decides-same_due (OfMerge i) (OfMerge j) = Decides-like (same_due (OfMerge i) (OfMerge j)) (ap OfMerge) (λ (s : OfMerge i ≡ OfMerge j). let b : i ≡ j = cc in b) (Decides-eqb i j)
Decides-same_due (OfMerge i) (OfCounts j) = Decides-false (λ s. cc)
Decides-same_due (OfMerge i) (OfValue j) = Decides-false (λ s. cc)
Decides-same_due (OfCounts i) (OfClosure w j) = Decides-false (λ s. cc)
Decides-same_due (OfCounts i) (OfPart j) = Decides-false (λ s. cc)
Decides-same_due (OfCounts i) (OfMerge j) = Decides-false (λ s. cc)
Decides-same_due (OfCounts i) (OfCounts j) = Decides-like (same_due (OfCounts i) (OfCounts j)) (ap OfCounts) (λ (s : OfCounts i ≡ OfCounts j). let b : i ≡ j = cc in b) (Decides-eqb i j)
Decides-same_due (OfCounts i) (OfValue j) = Decides-false (λ s. cc)
Decides-same_due (OfValue i) (OfClosure w j) = Decides-false (λ s. cc)
Decides-same_due (OfValue i) (OfPart j) = Decides-false (λ s. cc)
Decides-same_due (OfValue i) (OfMerge j) = Decides-false (λ s. cc)
Decides-same_due (OfValue i) (OfCounts j) = Decides-false (λ s. cc)
Decides-same_due (OfValue i) (OfValue j) = Decides-like (same_due (OfValue i) (OfValue j)) (ap OfValue) (λ (s : OfValue i ≡ OfValue j). let b : i ≡ j = cc in b) (Decides-eqb i j)
