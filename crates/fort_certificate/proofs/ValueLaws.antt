-- What lists of two and of three words are.
use Rattle.std.proofs.Common.{◌≡◌, ℕ, List, [], ◌∷◌, Some, codes, subst}
use Rattle.fort_grammar.specs.Forms.{Form}
use Rattle.fort_grammar.specs.Declarations.{elements_of, AreWords, IsListOfWords}
use Rattle.fort_tables.specs.Counts.{Finite, Infinite}
use Rattle.fort_alike.specs.ListedClosures.{Pair}
use Rattle.fort_certificate_theory.specs.CertificateForms.{IsNumberWord, IsWhyWord, IsPairForm, IsCountForm, FiniteForm, InfiniteForm}
use Rattle.fort_certificate_theory.specs.CertificateFaults.{CountSlot, IsNoNumber, AsNumber, IsBadAt, FiniteNumber, InfiniteNumber}
use Rattle.fort_certificate_theory.proofs.OneCertificate.{list_words_one}

pub two_elements : (bytes : List ℕ) (f : Form) (u v : List ℕ) → IsListOfWords bytes f (u ∷ v ∷ [])
    → (a : Form) × (b : Form) × (elements_of f ≡ Some (a ∷ b ∷ []))
two_elements bytes f u v h = go h.elements h.words_are h.is
  where
    go : (es : List Form) → AreWords bytes es (u ∷ v ∷ []) → elements_of f ≡ Some es → (a : Form) × (b : Form) × (elements_of f ≡ Some (a ∷ b ∷ []))
    go [] ws e = absurd ws
    go (a ∷ []) ws e = absurd ws.1
    go (a ∷ b ∷ []) ws e = (a, b, e)
    go (a ∷ b ∷ c ∷ es) ws e = absurd ws.1.1

pub three_elements : (bytes : List ℕ) (f : Form) (u v w : List ℕ) → IsListOfWords bytes f (u ∷ v ∷ w ∷ [])
    → (a : Form) × (b : Form) × (c : Form) × (elements_of f ≡ Some (a ∷ b ∷ c ∷ []))
three_elements bytes f u v w h = go h.elements h.words_are h.is
  where
    go : (es : List Form) → AreWords bytes es (u ∷ v ∷ w ∷ []) → elements_of f ≡ Some es
        → (a : Form) × (b : Form) × (c : Form) × (elements_of f ≡ Some (a ∷ b ∷ c ∷ []))
    go [] ws e = absurd ws
    go (a ∷ []) ws e = absurd ws.1
    go (a ∷ b ∷ []) ws e = absurd ws.1.1
    go (a ∷ b ∷ c ∷ []) ws e = (a, b, c, e)
    go (a ∷ b ∷ c ∷ d ∷ es) ws e = absurd ws.1.1.1

three_one : {A : Type 0} (a b c x y z : A) → a ∷ b ∷ c ∷ [] ≡ x ∷ y ∷ z ∷ [] → (a ≡ x) × (b ≡ y) × (c ≡ z)
three_one a b c x y z h = (cc, cc, cc)

-- what a pair with these words is
pub record HasWords (u v w : List ℕ) (pair : Pair) : Type 0 where
  pub p : IsNumberWord u pair.p
  pub q : IsNumberWord v pair.q
  pub why : IsWhyWord w pair.why

pub words_of_pair : (bytes : List ℕ) (f : Form) (u v w : List ℕ) (pair : Pair) → IsListOfWords bytes f (u ∷ v ∷ w ∷ []) → IsPairForm bytes f pair
    → HasWords u v w pair
words_of_pair bytes f u v w pair h is =
    let e = three_one is.p_word is.q_word is.why_word u v w (list_words_one bytes f (is.p_word ∷ is.q_word ∷ is.why_word ∷ []) (u ∷ v ∷ w ∷ []) is.words h) in
    record {
      p = subst (λ (x : List ℕ). IsNumberWord x pair.p) e.0 is.p_is;
      q = subst (λ (x : List ℕ). IsNumberWord x pair.q) e.1 is.q_is;
      why = subst (λ (x : List ℕ). IsWhyWord x pair.why) e.2 is.why_is;
    }

-- a count, or its bad number, behind the word that was tested
pub finite_form : (bytes : List ℕ) (f : Form) (u v : List ℕ) (n : ℕ) → u ≡ codes "fin" → IsListOfWords bytes f (u ∷ v ∷ []) → IsNumberWord v n
    → IsCountForm bytes f (Finite n)
finite_form bytes f u v n e h is = FiniteForm v (subst (λ (x : List ℕ). IsListOfWords bytes f (x ∷ v ∷ [])) e h) is

pub infinite_form : (bytes : List ℕ) (f : Form) (u v : List ℕ) (n : ℕ) → u ≡ codes "inf" → IsListOfWords bytes f (u ∷ v ∷ []) → IsNumberWord v n
    → IsCountForm bytes f (Infinite n)
infinite_form bytes f u v n e h is = InfiniteForm v (subst (λ (x : List ℕ). IsListOfWords bytes f (x ∷ v ∷ [])) e h) is

pub finite_bad : (bytes : List ℕ) (f : Form) (u v : List ℕ) → u ≡ codes "fin" → IsListOfWords bytes f (u ∷ v ∷ []) → IsNoNumber v
    → IsBadAt bytes f CountSlot AsNumber
finite_bad bytes f u v e h none = FiniteNumber v (subst (λ (x : List ℕ). IsListOfWords bytes f (x ∷ v ∷ [])) e h) none

pub infinite_bad : (bytes : List ℕ) (f : Form) (u v : List ℕ) → u ≡ codes "inf" → IsListOfWords bytes f (u ∷ v ∷ []) → IsNoNumber v
    → IsBadAt bytes f CountSlot AsNumber
infinite_bad bytes f u v e h none = InfiniteNumber v (subst (λ (x : List ℕ). IsListOfWords bytes f (x ∷ v ∷ [])) e h) none
