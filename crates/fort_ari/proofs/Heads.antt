-- The first word of a list.
use Rattle.std.proofs.Common.{◌≡◌, ℕ, Bool, true, false, List, [], ◌∷◌, None, Some, ◌⊎◌, inl, inr, ap, ◌∙◌, refl}
use Rattle.std.specs.Prelude.{bytes_eq, slice_range}
use Rattle.std.proofs.lemmas.Slice.Eq.{bytes_eq-Decides}
use Rattle.fort_grammar.specs.Forms.{Form, Word, ListForm, NoForm, MoreForms}
use Rattle.fort_grammar.specs.Declarations.{as_list, elements_of, word_of, IsHeaded}

-- a list of no forms, or one whose first form is no such word, isn't headed so
pub not_headed-word : (bytes word : List ℕ) (f : Form) → elements_of f ≡ None → IsHeaded bytes word f → ⊥
not_headed-word bytes word f e h = let is = h.is in cc

pub not_headed-empty : (bytes word : List ℕ) (f : Form) → elements_of f ≡ Some [] → IsHeaded bytes word f → ⊥
not_headed-empty bytes word f e h = let is = h.is in cc

pub head_from_IsHeaded : (bytes word : List ℕ) (f g : Form) (gs : List Form) → elements_of f ≡ Some (g ∷ gs) → IsHeaded bytes word f
    → word_of bytes g ≡ Some word
head_from_IsHeaded bytes word f g gs e h =
    let is = h.is in
    let same : g ≡ h.first = cc in ap (word_of bytes) same ∙ h.head

IsHeaded-cases_word : (bytes word : List ℕ) (f g : Form) (gs : List Form) (text : List ℕ) (same : Bool) → bytes_eq text word ≡ same
    → elements_of f ≡ Some (g ∷ gs) → word_of bytes g ≡ Some text → IsHeaded bytes word f ⊎ (IsHeaded bytes word f → ⊥)
IsHeaded-cases_word bytes word f g gs text true q e w =
    inl (record { first = g; others = gs; is = e; head = w ∙ ap Some ((bytes_eq-Decides text word).0 q) })
IsHeaded-cases_word bytes word f g gs text false q e w =
    inr (λ h. let other = head_from_IsHeaded bytes word f g gs e h in
    let is : text ≡ word = cc in
    let yes = (bytes_eq-Decides text word).1 is in cc)

pub IsHeaded-cases : (bytes word : List ℕ) (f : Form) → IsHeaded bytes word f ⊎ (IsHeaded bytes word f → ⊥)
IsHeaded-cases bytes word (Word from to) = inr (not_headed-word bytes word (Word from to) refl)
IsHeaded-cases bytes word (ListForm from to NoForm) = inr (not_headed-empty bytes word (ListForm from to NoForm) refl)
IsHeaded-cases bytes word (ListForm from to (MoreForms (Word i j) gs)) =
    IsHeaded-cases_word bytes word (ListForm from to (MoreForms (Word i j) gs)) (Word i j) (as_list gs) (slice_range bytes i j)
    (bytes_eq (slice_range bytes i j) word) refl refl refl
IsHeaded-cases bytes word (ListForm from to (MoreForms (ListForm i j hs) gs)) =
    inr (λ h. let other = head_from_IsHeaded bytes word (ListForm from to (MoreForms (ListForm i j hs) gs)) (ListForm i j hs) (as_list gs) refl h in cc)
