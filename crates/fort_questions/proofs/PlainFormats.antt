-- Whether the first form is a list of two given words.
use Rattle.std.proofs.Common.{refl, length, ◌++◌, ◌≡◌, ℕ, List, [], ◌∷◌, sym, subst, ◌∙◌, arith}
use Rattle.std.specs.Prelude.{Some, codes, decimal}
use Rattle.fort_theory.proofs.Lists.{some-injective}
use Rattle.fort_grammar.specs.Forms.{Form, Forms, NoForm, MoreForms}
use Rattle.fort_grammar.specs.Declarations.{as_list, elements_of, word_of, AreWords, IsListOfWords, IsFormat, OneSystem, Several}
use Rattle.fort_sexpr.specs.FormView.{form_at, form_count}
use Rattle.fort_answers.specs.InputAnswer.{Tail, Behind, Nothing, ACertificate, AnOpenCertificate, NoRules, BeginsPlainly, IsSignatureInput, IsInputWith}
use Rattle.fort_theory.specs.Sides.{System}

abbrev pub AreTwoWords : (bytes : List ℕ) (f g : Form) (v w : List ℕ) → Type 0
AreTwoWords bytes f g v w = (word_of bytes f ≡ Some v) × (word_of bytes g ≡ Some w)

-- a list of two forms
pub two_words : (bytes : List ℕ) (form f g : Form) (v w : List ℕ) → elements_of form ≡ Some (f ∷ g ∷ []) → AreTwoWords bytes f g v w
    → IsListOfWords bytes form (v ∷ w ∷ [])
two_words bytes form f g v w e are = record { elements = f ∷ g ∷ []; is = e; words_are = (are.0, (are.1, tt)) }

pub two_words-from : (bytes : List ℕ) (form f g : Form) (v w : List ℕ) → elements_of form ≡ Some (f ∷ g ∷ []) → IsListOfWords bytes form (v ∷ w ∷ [])
    → AreTwoWords bytes f g v w
two_words-from bytes form f g v w e h =
    let same : h.elements ≡ f ∷ g ∷ [] = some-injective (sym h.is ∙ e) in
    let are = subst (λ xs. AreWords bytes xs (v ∷ w ∷ [])) same h.words_are in
    (are.0, are.1.0)

-- words of no list of two
pub not_two : (bytes : List ℕ) (form : Form) (v w : List ℕ) → ((f g : Form) → elements_of form ≡ Some (f ∷ g ∷ []) → ⊥)
    → IsListOfWords bytes form (v ∷ w ∷ []) → ⊥
not_two bytes form v w none h = by h.elements h.is h.words_are
  where
    by : (es : List Form) → elements_of form ≡ Some es → AreWords bytes es (v ∷ w ∷ []) → ⊥
    by [] e are = are
    by (f ∷ []) e are = are.1
    by (f ∷ g ∷ []) e are = none f g e
    by (f ∷ g ∷ h ∷ es) e are = are.1.1

-- the first form
pub plain_at : (bytes : List ℕ) (fs : Forms) (f : Form) → form_at fs 0 ≡ Some f
    → (IsListOfWords bytes f (codes "format" ∷ codes "TRS" ∷ []) → BeginsPlainly bytes (as_list fs))
    × (BeginsPlainly bytes (as_list fs) → IsListOfWords bytes f (codes "format" ∷ codes "TRS" ∷ []))
plain_at bytes NoForm f e = cc
plain_at bytes (MoreForms g fs) f e =
    let same : g ≡ f = some-injective e in
    let P : Form → Type 0 = λ x. IsListOfWords bytes x (codes "format" ∷ codes "TRS" ∷ []) in
    (λ h. subst P (sym same) h, λ h. subst P same h)

pub plain_none : (bytes : List ℕ) (fs : Forms) → form_count fs ≡ 0 → BeginsPlainly bytes (as_list fs) → ⊥
plain_none bytes NoForm e h = h
plain_none bytes (MoreForms f fs) e h = absurd (omega arith)

-- ---- a problem that begins so has one system

two_not_four : (bytes : List ℕ) (form : Form) (a b v w x y : List ℕ) → IsListOfWords bytes form (a ∷ b ∷ []) → IsListOfWords bytes form (v ∷ w ∷ x ∷ y ∷ []) → ⊥
two_not_four bytes form a b v w x y two four =
    let same : four.elements ≡ two.elements = some-injective (sym four.is ∙ two.is) in
    by two.elements two.words_are (subst (λ es. AreWords bytes es (v ∷ w ∷ x ∷ y ∷ [])) same four.words_are)
  where
    by : (es : List Form) → AreWords bytes es (a ∷ b ∷ []) → AreWords bytes es (v ∷ w ∷ x ∷ y ∷ []) → ⊥
    by [] p q = p
    by (f ∷ []) p q = p.1
    by (f ∷ g ∷ []) p q = q.1.1
    by (f ∷ g ∷ h ∷ es) p q = p.1.1

plain_number : (bytes : List ℕ) (f : Form) (n : ℕ) → IsFormat bytes f n → IsListOfWords bytes f (codes "format" ∷ codes "TRS" ∷ []) → n ≡ 1
plain_number bytes f n (OneSystem h) plain = refl
plain_number bytes f n (Several {number = k} low high h) plain =
    absurd (two_not_four bytes f (codes "format") (codes "TRS") (codes "format") (codes "TRS") (codes ":number") (decimal k) plain h)

first_plain : (bytes : List ℕ) (forms : List Form) (f : Form) (others : List Form) → forms ≡ f ∷ others → BeginsPlainly bytes forms
    → IsListOfWords bytes f (codes "format" ∷ codes "TRS" ∷ [])
first_plain bytes [] f others is plain = absurd plain
first_plain bytes (g ∷ gs) f others is plain = let same : g ≡ f = cc in subst (λ x. IsListOfWords bytes x (codes "format" ∷ codes "TRS" ∷ [])) same plain

signature_single : (bytes : List ℕ) (system : System) → IsSignatureInput bytes system → length system.rules ≡ 1
signature_single bytes system is =
    let p = is.problem in
    plain_number bytes p.first (length system.rules) p.format
    (first_plain bytes (as_list is.forms) p.first (p.declarations ++ (p.rules ++ p.behind)) p.parts.is is.plain)

-- Result: an input without rules has one system
pub single_index : (tail : Tail) (bytes : List ℕ) (system : System) (behind : Behind tail) → IsInputWith tail bytes system behind → tail ≡ NoRules
    → length system.rules ≡ 1
single_index Nothing bytes system behind is e = absurd cc
single_index ACertificate bytes system behind is e = absurd cc
single_index AnOpenCertificate bytes system behind is e = absurd cc
single_index NoRules bytes system behind is e = signature_single bytes system is
