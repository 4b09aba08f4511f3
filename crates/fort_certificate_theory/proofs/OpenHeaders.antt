-- A form is a header of one claim at most; a form that should be one is bad in one way at most, and not where it is one.
use Rattle.std.proofs.Common.{◌≡◌, ℕ, List, [], ◌∷◌, codes, refl, subst}
use Rattle.fort_grammar.specs.Forms.{Form}
use Rattle.fort_grammar.specs.Declarations.{IsListOfWords}
use Rattle.fort_certificate_theory.specs.CertificateForms.{IsNumberWord}
use Rattle.fort_certificate_theory.specs.CertificateFaults.{CertificateFault}
use Rattle.fort_certificate_theory.proofs.OneCertificate.{list_words_one}
use Rattle.fort_certificate_theory.specs.OpenCertificates.{Claim}
use Rattle.fort_certificate_theory.specs.OpenForms.{claim_word, open_version_word, IsOpenHeaderForm}
use Rattle.fort_certificate_theory.specs.OpenFaults.{IsBadOpenHeader, NoHeader, NoVersion, WrongVersion, WrongClaim}
use Rattle.fort_certificate_theory.proofs.OpenWords.{claim_one, open_version_number}

three_second : {A : Type 0} (a b c x y z : A) → a ∷ b ∷ c ∷ [] ≡ x ∷ y ∷ z ∷ [] → b ≡ y
three_second a b c x y z h = cc

three_third : {A : Type 0} (a b c x y z : A) → a ∷ b ∷ c ∷ [] ≡ x ∷ y ∷ z ∷ [] → c ≡ z
three_third a b c x y z h = cc

module _ (bytes : List ℕ) (f : Form) where
  abbrev Headed : List ℕ → List ℕ → Type 0
  Headed second third = IsListOfWords bytes f (codes "certificate" ∷ second ∷ third ∷ [])

  seconds : (u v x y : List ℕ) → Headed u v → Headed x y → u ≡ x
  seconds u v x y h k =
      three_second (codes "certificate") u v (codes "certificate") x y
      (list_words_one bytes f (codes "certificate" ∷ u ∷ v ∷ []) (codes "certificate" ∷ x ∷ y ∷ []) h k)

  thirds : (u v x y : List ℕ) → Headed u v → Headed x y → v ≡ y
  thirds u v x y h k =
      three_third (codes "certificate") u v (codes "certificate") x y
      (list_words_one bytes f (codes "certificate" ∷ u ∷ v ∷ []) (codes "certificate" ∷ x ∷ y ∷ []) h k)

  pub header_one : (a b : Claim) → IsOpenHeaderForm bytes f a → IsOpenHeaderForm bytes f b → a ≡ b
  header_one a b h k = claim_one a b (thirds open_version_word (claim_word a) open_version_word (claim_word b) h k)

  -- the version's word is a number
  not_no_number : (w : List ℕ) → open_version_word ≡ w → ((n : ℕ) → IsNumberWord w n → ⊥) → ⊥
  not_no_number w e other = other 4 (subst (λ (x : List ℕ). IsNumberWord x 4) e open_version_number)

  pub header_not_bad : (i : ℕ) (claim : Claim) (fault : CertificateFault) → IsOpenHeaderForm bytes f claim → IsBadOpenHeader bytes i f fault → ⊥
  header_not_bad i claim fault h (NoHeader other) = other open_version_word (claim_word claim) h
  header_not_bad i claim fault h (NoVersion u w k other) = not_no_number u (seconds open_version_word (claim_word claim) u w h k) other
  header_not_bad i claim fault h (WrongVersion n u w k is other) = other (seconds u w open_version_word (claim_word claim) k h)
  header_not_bad i claim fault h (WrongClaim w k other) = other claim (thirds open_version_word w open_version_word (claim_word claim) k h)

  pub bad_header_one : (i : ℕ) (a b : CertificateFault) → IsBadOpenHeader bytes i f a → IsBadOpenHeader bytes i f b → a ≡ b
  bad_header_one i a b (NoHeader x) (NoHeader y) = refl
  bad_header_one i a b (NoHeader x) (NoVersion u w k other) = absurd (x u w k)
  bad_header_one i a b (NoHeader x) (WrongVersion n u w k is other) = absurd (x u w k)
  bad_header_one i a b (NoHeader x) (WrongClaim w k other) = refl
  bad_header_one i a b (NoVersion u w k other) (NoHeader x) = absurd (x u w k)
  bad_header_one i a b (NoVersion u w k other) (NoVersion x y l other') = refl
  bad_header_one i a b (NoVersion u w k other) (WrongVersion n x y l is other') =
      absurd (other n (subst (λ (z : List ℕ). IsNumberWord z n) (seconds x y u w l k) is))
  bad_header_one i a b (NoVersion u w k other) (WrongClaim y l other') = absurd (not_no_number u (seconds open_version_word y u w l k) other)
  bad_header_one i a b (WrongVersion n x y l is other') (NoHeader z) = absurd (z x y l)
  bad_header_one i a b (WrongVersion n x y l is other') (NoVersion u w k other) =
      absurd (other n (subst (λ (z : List ℕ). IsNumberWord z n) (seconds x y u w l k) is))
  bad_header_one i a b (WrongVersion n x y l is other') (WrongVersion m u w k is' other) = refl
  bad_header_one i a b (WrongVersion n x y l is other') (WrongClaim w k other) = absurd (other' (seconds x y open_version_word w l k))
  bad_header_one i a b (WrongClaim y l other') (NoHeader z) = refl
  bad_header_one i a b (WrongClaim y l other') (NoVersion u w k other) = absurd (not_no_number u (seconds open_version_word y u w l k) other)
  bad_header_one i a b (WrongClaim y l other') (WrongVersion n u w k is' other) = absurd (other (seconds u w open_version_word y k l))
  bad_header_one i a b (WrongClaim y l other') (WrongClaim w k other) = refl
