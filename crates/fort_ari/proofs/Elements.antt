-- A list of words has as many forms as words.
use Rattle.std.proofs.Common.{◌≡◌, ℕ, List, [], ◌∷◌, Some}
use Rattle.fort_grammar.specs.Forms.{Form}
use Rattle.fort_grammar.specs.Declarations.{elements_of, AreWords, IsListOfWords}

-- a list of three words has three forms
pub three_elements : (bytes : List ℕ) (f : Form) (u v w : List ℕ) → IsListOfWords bytes f (u ∷ v ∷ w ∷ [])
    → (a : Form) × (b : Form) × (c : Form) × (elements_of f ≡ Some (a ∷ b ∷ c ∷ []))
three_elements bytes f u v w h = go h.elements h.words_are h.is
  where
    go : (es : List Form) → AreWords bytes es (u ∷ v ∷ w ∷ []) → elements_of f ≡ Some es
        → (a : Form) × (b : Form) × (c : Form) × (elements_of f ≡ Some (a ∷ b ∷ c ∷ []))
    go [] ws e = absurd ws
    go (a ∷ []) ws e = absurd ws.1
    go (a ∷ b ∷ []) ws e = absurd ws.1.1
    go (a ∷ b ∷ c ∷ []) ws e = (a, b, c, e)
    go (a ∷ b ∷ c ∷ d ∷ es) ws e = absurd ws.1.1.1
