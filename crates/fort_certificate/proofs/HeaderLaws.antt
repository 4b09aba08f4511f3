-- The three words of a header, each against what should stand there.
use Rattle.std.proofs.Common.{◌≡◌, ℕ, Bool, List, [], ◌∷◌, codes, subst}
use Rattle.fort_grammar.specs.Forms.{Form}
use Rattle.fort_grammar.specs.Declarations.{IsListOfWords}
use Rattle.fort_certificate_theory.specs.CertificateForms.{Version, version_word, IsVersionOf, verdict_word, IsNumberWord}
use Rattle.fort_certificate_theory.specs.CertificateFaults.{BadForm, BadNumber, OtherVersion, IsNoNumber, IsBadHeader, NoHeader, NoVersion, WrongVersion, WrongVerdict}
use Rattle.fort_certificate_theory.proofs.OneCertificate.{list_words_one}

first_of_three : {A : Type 0} (a b c x y z : A) → a ∷ b ∷ c ∷ [] ≡ x ∷ y ∷ z ∷ [] → a ≡ x
first_of_three a b c x y z h = cc

module _ (bytes : List ℕ) (number : ℕ) (i : ℕ) (f : Form) (u v w : List ℕ) (words : IsListOfWords bytes f (u ∷ v ∷ w ∷ [])) where
  pub other_first : (u ≡ codes "certificate" → ⊥) → IsBadHeader bytes number i f (BadForm i)
  other_first other =
      NoHeader (λ second third h. other (first_of_three u v w (codes "certificate") second third
      (list_words_one bytes f (u ∷ v ∷ w ∷ []) (codes "certificate" ∷ second ∷ third ∷ []) words h)))

  headed : u ≡ codes "certificate" → IsListOfWords bytes f (codes "certificate" ∷ v ∷ w ∷ [])
  headed e = subst (λ x. IsListOfWords bytes f (x ∷ v ∷ w ∷ [])) e words

  versioned : (version : Version) → u ≡ codes "certificate" → v ≡ version_word version
      → IsListOfWords bytes f (codes "certificate" ∷ version_word version ∷ w ∷ [])
  versioned version e g = subst (λ x. IsListOfWords bytes f (codes "certificate" ∷ x ∷ w ∷ [])) g (headed e)

  pub no_number : u ≡ codes "certificate" → IsNoNumber v → IsBadHeader bytes number i f (BadNumber i)
  no_number e none = NoVersion v w (headed e) none

  pub other_number : (n : ℕ) → u ≡ codes "certificate" → IsNumberWord v n
      → ((version : Version) → IsVersionOf number version → v ≡ version_word version → ⊥) → IsBadHeader bytes number i f (OtherVersion i)
  other_number n e is other = WrongVersion n v w (headed e) is other

  pub other_verdict : (version : Version) → IsVersionOf number version → u ≡ codes "certificate" → v ≡ version_word version
      → ((x : Bool) → w ≡ verdict_word x → ⊥) → IsBadHeader bytes number i f (BadForm i)
  other_verdict version of e g other = WrongVerdict version w of (versioned version e g) other
