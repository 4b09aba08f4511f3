-- Lists of forms: their length, their elements, and one list after another.
use Rattle.std.proofs.Common.{◌≡◌, ℕ, zero, suc, ◌+◌, ◌<◌, ◌≤◌, ◌↔◌, List, [], ◌∷◌, length, drop, slice_get, Some, refl, sym, ap, ◌∙◌, arith}
use Rattle.std.proofs.lemmas.List.{length-drop}
use Rattle.fort_grammar.specs.Forms.{Form, Forms, Word, ListForm, NoForm, MoreForms, AreForms, End, Skip, AWord, AList, AreFormsOf}
use Rattle.fort_grammar.specs.Declarations.{as_list, elements_of, word_of, IsHeaded}
use Rattle.fort_sexpr.specs.FormCode.{node_count, node_counts}
use Rattle.fort_sexpr.specs.FormView.{form_count, form_at}

pub length-as_list : (fs : Forms) → length (as_list fs) ≡ form_count fs
length-as_list NoForm = refl
length-as_list (MoreForms f fs) = ap suc (length-as_list fs)

-- a form of a list has fewer words and lists in it than the list
node_count-form : (fs : Forms) (i : ℕ) (f : Form) → slice_get (as_list fs) i ≡ Some f → node_count f ≤ node_counts fs
node_count-form NoForm i f e = absurd cc
node_count-form (MoreForms g gs) zero f e = let same : g ≡ f = cc in let n = ap node_count same in omega arith
node_count-form (MoreForms g gs) (suc i) f e = omega (arith, node_count-form gs i f e)

node_count-at : (fs : Forms) (i : ℕ) (f : Form) → form_at fs i ≡ Some f → node_count f ≤ node_counts fs
node_count-at NoForm i f e = absurd cc
node_count-at (MoreForms g gs) zero f e = let same : g ≡ f = cc in let n = ap node_count same in omega arith
node_count-at (MoreForms g gs) (suc i) f e = omega (arith, node_count-at gs i f e)

pub node_count-element : (f g : Form) (fs : List Form) (i : ℕ) → elements_of f ≡ Some fs → slice_get fs i ≡ Some g → node_count g < node_count f
node_count-element (Word from to) g fs i e h = absurd cc
node_count-element (ListForm from to gs) g fs i e h =
    let same : as_list gs ≡ fs = cc in
    omega (arith, node_count-form gs i g (ap (λ xs. slice_get xs i) same ∙ h))

-- forms have no more words and lists in them than there are bytes between their offsets
pub node_counts-AreForms : {bytes : List ℕ} {i j : ℕ} {fs : Forms} → AreForms bytes i j fs → i + node_counts fs ≤ j
node_counts-AreForms End = omega arith
node_counts-AreForms (Skip s d) = omega (arith, node_counts-AreForms d)
node_counts-AreForms (AWord w d) = omega (arith, w.some, node_counts-AreForms d)
node_counts-AreForms (AList l o d m c e) = omega (arith, node_counts-AreForms d, node_counts-AreForms e)

-- a list has no more forms than it has words and lists in it
pub form_count-least : (fs : Forms) → form_count fs ≤ node_counts fs
form_count-least NoForm = omega arith
form_count-least (MoreForms f fs) = omega (arith, some f, form_count-least fs)
  where
    some : (f : Form) → 1 ≤ node_count f
    some (Word from to) = omega arith
    some (ListForm from to gs) = omega arith

-- nor has any form of a text more of them than the text has bytes
pub node_count-AreFormsOf : (bytes : List ℕ) (fs : Forms) (i : ℕ) (f : Form) → AreFormsOf bytes fs → form_at fs i ≡ Some f → node_count f ≤ length bytes
node_count-AreFormsOf bytes fs i f h e = omega (arith, node_counts-AreForms h.stand, node_count-at fs i f e)

-- one list after another
abbrev pub joined : Forms → Forms → Forms
joined NoForm gs = gs
joined (MoreForms f fs) gs = MoreForms f (joined fs gs)

pub joined-none : (fs : Forms) → joined fs NoForm ≡ fs
joined-none NoForm = refl
joined-none (MoreForms f fs) = ap (MoreForms f) (joined-none fs)

pub form_count-joined : (fs : Forms) (f : Form) → form_count (joined fs (MoreForms f NoForm)) ≡ form_count fs + 1
form_count-joined NoForm f = refl
form_count-joined (MoreForms g fs) f = omega (arith, form_count-joined fs f)

-- forms up to an offset, and forms from there on
pub AreForms-joined : {bytes : List ℕ} {i j k : ℕ} {fs gs : Forms} → AreForms bytes i j fs → AreForms bytes j k gs → AreForms bytes i k (joined fs gs)
AreForms-joined End r = r
AreForms-joined (Skip s d) r = Skip s (AreForms-joined d r)
AreForms-joined (AWord w d) r = AWord w (AreForms-joined d r)
AreForms-joined (AList l o d m c e) r = AList l o d m c (AreForms-joined e r)

-- the forms from a number on
pub first_dropped : {A : Type 0} (xs ys : List A) (k : ℕ) (x : A) → drop k xs ≡ x ∷ ys → slice_get xs k ≡ Some x
first_dropped [] ys zero x h = absurd cc
first_dropped [] ys (suc k) x h = absurd cc
first_dropped (a ∷ xs) ys zero x h = let same : a ≡ x = cc in ap Some same
first_dropped (a ∷ xs) ys (suc k) x h = first_dropped xs ys k x h

pub rest_dropped : {A : Type 0} (xs ys : List A) (k : ℕ) (x : A) → drop k xs ≡ x ∷ ys → drop (k + 1) xs ≡ ys
rest_dropped [] ys zero x h = absurd cc
rest_dropped [] ys (suc k) x h = absurd cc
rest_dropped (a ∷ xs) ys zero x h = let same : xs ≡ ys = cc in same
rest_dropped (a ∷ xs) ys (suc k) x h = let e : suc k + 1 ≡ suc (k + 1) = omega arith in ap (λ n. drop n (a ∷ xs)) e ∙ rest_dropped xs ys k x h

pub last_dropped : {A : Type 0} (xs : List A) (k : ℕ) (x : A) → drop k xs ≡ x ∷ [] → k + 1 < length xs → ⊥
last_dropped xs k x h l = let n : length (drop k xs) ≡ 1 = ap (λ ys. length ys) h in omega (arith, length-drop k xs)

-- a list is headed as its first form says
pub headed_by_first : (bytes word : List ℕ) (f x : Form) (fs : List Form) → elements_of f ≡ Some fs → slice_get fs 0 ≡ Some x
    → IsHeaded bytes word f ↔ (word_of bytes x ≡ Some word)
headed_by_first bytes word f x [] e p = absurd cc
headed_by_first bytes word f x (y ∷ ys) e p = (
  λ h. let is = h.is in
      let same : h.first ≡ x = cc in ap (word_of bytes) (sym same) ∙ h.head,
  λ w. let same : y ≡ x = cc in record { first = y; others = ys; is = e; head = ap (word_of bytes) same ∙ w },
)
