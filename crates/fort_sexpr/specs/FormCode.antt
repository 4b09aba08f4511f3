-- Law: forms as a list of marks, from which they are read again, and how many words and lists they have.
use Rattle.std.specs.Prelude.{◌≡◌, ℕ, suc, ◌+◌, Bool, true, false, List, [], ◌∷◌, ◌++◌, ◌⊎◌, refl}
use Rattle.std.proofs.Common.{ap, sym, ◌∙◌, append_assoc, append-nil, inl, inr}
use Rattle.std.specs.Coded.{Coded, code_by, coded_list, coded_ℕ, coded_bool, coded⊎, coded×}
use Rattle.fort_grammar.specs.Forms.{Form, Forms, Word, ListForm, NoForm, MoreForms}

-- a word, a list, or whether one more form comes
abbrev pub Mark : Type 0
Mark = (ℕ × ℕ) ⊎ ((ℕ × ℕ) ⊎ Bool)

abbrev mutual
  pub spelled : Form → List Mark
  spelled (Word from to) = inl (from, to) ∷ []
  spelled (ListForm from to fs) = inr (inl (from, to)) ∷ all_spelled fs

  pub all_spelled : Forms → List Mark
  all_spelled NoForm = inr (inr false) ∷ []
  all_spelled (MoreForms f fs) = inr (inr true) ∷ (spelled f ++ all_spelled fs)

-- what stands on the stack of a reader that goes from the end to the front
pub data Item : Type 0 where
  One : Form → Item
  Many : Forms → Item

abbrev pub joined : List Item → List Item
joined (One f ∷ Many fs ∷ rest) = Many (MoreForms f fs) ∷ rest
joined other = other

abbrev pub enclosed : ℕ × ℕ → List Item → List Item
enclosed span (Many fs ∷ rest) = One (ListForm span.0 span.1 fs) ∷ rest
enclosed span other = other

abbrev pub read_back : List Mark → List Item
read_back [] = []
read_back (inl span ∷ xs) = One (Word span.0 span.1) ∷ read_back xs
read_back (inr (inl span) ∷ xs) = enclosed span (read_back xs)
read_back (inr (inr true) ∷ xs) = joined (read_back xs)
read_back (inr (inr false) ∷ xs) = Many NoForm ∷ read_back xs

abbrev pub first_many : List Item → Forms
first_many (Many fs ∷ rest) = fs
first_many other = NoForm

mutual
  pub read_back-spelled : (f : Form) (xs : List Mark) → read_back (spelled f ++ xs) ≡ One f ∷ read_back xs
  read_back-spelled (Word from to) xs = refl
  read_back-spelled (ListForm from to fs) xs = ap (enclosed (from, to)) (read_back-all fs xs)

  pub read_back-all : (fs : Forms) (xs : List Mark) → read_back (all_spelled fs ++ xs) ≡ Many fs ∷ read_back xs
  read_back-all NoForm xs = refl
  read_back-all (MoreForms f fs) xs =
      ap (λ ys. joined (read_back ys)) (append_assoc (spelled f) (all_spelled fs) xs)
      ∙ (ap joined (read_back-spelled f (all_spelled fs ++ xs)) ∙ ap (λ ys. joined (One f ∷ ys)) (read_back-all fs xs))

pub forms_again : (fs : Forms) → first_many (read_back (all_spelled fs)) ≡ fs
forms_again fs = ap (λ ys. first_many (read_back ys)) (sym (append-nil (all_spelled fs))) ∙ ap first_many (read_back-all fs [])

abbrev pub forms_code : Coded Forms
forms_code =
    code_by (List Mark)
    (coded_list (coded⊎ (coded× coded_ℕ coded_ℕ) (coded⊎ (coded× coded_ℕ coded_ℕ) coded_bool)))
    all_spelled (λ xs. first_many (read_back xs)) forms_again

abbrev pub first_one : List Item → Form
first_one (One f ∷ rest) = f
first_one other = Word 0 0

pub form_again : (f : Form) → first_one (read_back (spelled f)) ≡ f
form_again f = ap (λ ys. first_one (read_back ys)) (sym (append-nil (spelled f))) ∙ ap first_one (read_back-spelled f [])

abbrev pub form_code : Coded Form
form_code =
    code_by (List Mark)
    (coded_list (coded⊎ (coded× coded_ℕ coded_ℕ) (coded⊎ (coded× coded_ℕ coded_ℕ) coded_bool)))
    spelled (λ xs. first_one (read_back xs)) form_again

-- the number of words and lists
abbrev mutual
  pub node_count : Form → ℕ
  node_count (Word from to) = 1
  node_count (ListForm from to fs) = suc (node_counts fs)

  pub node_counts : Forms → ℕ
  node_counts NoForm = 0
  node_counts (MoreForms f fs) = node_count f + node_counts fs
