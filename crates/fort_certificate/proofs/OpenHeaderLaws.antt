-- The three words of a header of an open formula, each against what should stand there.
use Rattle.std.proofs.Common.{◌≡◌, ℕ, List, [], ◌∷◌, codes, subst}
use Rattle.fort_grammar.specs.Forms.{Form}
use Rattle.fort_grammar.specs.Declarations.{IsListOfWords}
use Rattle.fort_certificate_theory.specs.CertificateForms.{IsNumberWord}
use Rattle.fort_certificate_theory.specs.CertificateFaults.{BadForm, BadNumber, OtherVersion, IsNoNumber}
use Rattle.fort_certificate_theory.proofs.OneCertificate.{list_words_one}
use Rattle.fort_certificate_theory.specs.OpenCertificates.{Claim}
use Rattle.fort_certificate_theory.specs.OpenForms.{claim_word, open_version_word}
use Rattle.fort_certificate_theory.specs.OpenFaults.{IsBadOpenHeader, NoHeader, NoVersion, WrongVersion, WrongClaim}

first_of_three : {A : Type 0} (a b c x y z : A) → a ∷ b ∷ c ∷ [] ≡ x ∷ y ∷ z ∷ [] → a ≡ x
first_of_three a b c x y z h = cc

module _ (bytes : List ℕ) (i : ℕ) (f : Form) (u v w : List ℕ) (words : IsListOfWords bytes f (u ∷ v ∷ w ∷ [])) where
  pub other_first : (u ≡ codes "certificate" → ⊥) → IsBadOpenHeader bytes i f (BadForm i)
  other_first other =
      NoHeader (λ second third h. other (first_of_three u v w (codes "certificate") second third
      (list_words_one bytes f (u ∷ v ∷ w ∷ []) (codes "certificate" ∷ second ∷ third ∷ []) words h)))

  headed : u ≡ codes "certificate" → IsListOfWords bytes f (codes "certificate" ∷ v ∷ w ∷ [])
  headed e = subst (λ x. IsListOfWords bytes f (x ∷ v ∷ w ∷ [])) e words

  pub no_number : u ≡ codes "certificate" → IsNoNumber v → IsBadOpenHeader bytes i f (BadNumber i)
  no_number e none = NoVersion v w (headed e) none

  pub other_number : (n : ℕ) → u ≡ codes "certificate" → IsNumberWord v n → (v ≡ open_version_word → ⊥) → IsBadOpenHeader bytes i f (OtherVersion i)
  other_number n e is other = WrongVersion n v w (headed e) is other

  pub other_claim : u ≡ codes "certificate" → v ≡ open_version_word → ((claim : Claim) → w ≡ claim_word claim → ⊥)
      → IsBadOpenHeader bytes i f (BadForm i)
  other_claim e g other = WrongClaim w (subst (λ x. IsListOfWords bytes f (codes "certificate" ∷ x ∷ w ∷ [])) g (headed e)) other
