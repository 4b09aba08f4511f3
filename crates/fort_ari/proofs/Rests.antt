-- The forms of a list that are left, from a place on.
use Rattle.std.proofs.Common.{◌≡◌, ℕ, ◌+◌, ◌-◌, ◌≤◌, List, [], ◌∷◌, length, drop, slice_get, Some, ap, ◌∙◌, arith}
use Rattle.std.proofs.lemmas.List.{length-drop}
use Rattle.fort_grammar.specs.Forms.{Form}
use Rattle.fort_grammar.specs.Declarations.{elements_of}
use Rattle.fort_sexpr.proofs.FormLists.{first_dropped, rest_dropped}

-- these forms are left of a list from some place on, of which this holds
pub record IsLeftAt (P : ℕ → Type 0) (forms rest : List Form) : Type 0 where
  pub place : ℕ
  pub left : drop place forms ≡ rest
  pub holds : P place

-- behind the first of a list's elements
pub left_behind : (P : ℕ → Type 0) (f : Form) (es forms rest : List Form) (head : Form) → elements_of f ≡ Some es → elements_of f ≡ Some forms
    → forms ≡ head ∷ rest → P 1 → IsLeftAt P es rest
left_behind P f es forms rest head is has e h =
    let same : es ≡ forms = cc in
    record { place = 1; left = ap (drop 1) (same ∙ e); holds = h }

module _ (P : ℕ → Type 0) (forms rest : List Form) (l : IsLeftAt P forms rest) where
  pub left_at : (f : Form) (fs : List Form) → rest ≡ f ∷ fs → slice_get forms l.place ≡ Some f
  left_at f fs e = first_dropped forms fs l.place f (l.left ∙ e)

  pub left_next : (Q : ℕ → Type 0) (f : Form) (fs : List Form) → rest ≡ f ∷ fs → Q (l.place + 1) → IsLeftAt Q forms fs
  left_next Q f fs e h = record { place = l.place + 1; left = rest_dropped forms fs l.place f (l.left ∙ e); holds = h }

  pub left_end : rest ≡ [] → length forms ≤ l.place
  left_end e = let none = ap (λ xs. length xs) (l.left ∙ e) in omega (arith, length-drop l.place forms)

-- the list has one more form than those behind its first
pub one_fewer : (forms rest : List Form) (head : Form) → forms ≡ head ∷ rest → length rest ≡ length forms - 1
one_fewer forms rest head e = let n = ap (λ xs. length xs) e in omega arith
