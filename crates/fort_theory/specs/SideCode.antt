-- Nothing to believe: a side as a list of marks, from which it is read again.
use Rattle.std.specs.Prelude.{◌≡◌, ℕ, Bool, true, false, List, [], ◌∷◌, ◌++◌, ◌⊎◌, refl}
use Rattle.std.proofs.Common.{ap, sym, ◌∙◌, append_assoc, append-nil, inl, inr}
use Rattle.std.specs.Coded.{Coded, code_by, coded_list, coded_ℕ, coded_bool, coded⊎}
use Rattle.fort_theory.specs.Sides.{Side, Sides, Var, App, NoSide, MoreSides}

-- a variable, a symbol, or whether one more argument comes
abbrev pub Mark : Type 0
Mark = ℕ ⊎ (ℕ ⊎ Bool)

abbrev mutual
  pub spelled : Side → List Mark
  spelled (Var v) = inl v ∷ []
  spelled (App f ss) = inr (inl f) ∷ all_spelled ss

  pub all_spelled : Sides → List Mark
  all_spelled NoSide = inr (inr false) ∷ []
  all_spelled (MoreSides s ss) = inr (inr true) ∷ (spelled s ++ all_spelled ss)

-- what stands on the stack of a reader that goes from the end to the front
pub data Item : Type 0 where
  One : Side → Item
  Many : Sides → Item

abbrev pub joined : List Item → List Item
joined (One s ∷ Many ss ∷ rest) = Many (MoreSides s ss) ∷ rest
joined other = other

abbrev pub rooted : ℕ → List Item → List Item
rooted f (Many ss ∷ rest) = One (App f ss) ∷ rest
rooted f other = other

abbrev pub read_back : List Mark → List Item
read_back [] = []
read_back (inl v ∷ xs) = One (Var v) ∷ read_back xs
read_back (inr (inl f) ∷ xs) = rooted f (read_back xs)
read_back (inr (inr true) ∷ xs) = joined (read_back xs)
read_back (inr (inr false) ∷ xs) = Many NoSide ∷ read_back xs

abbrev pub first_many : List Item → Sides
first_many (Many ss ∷ rest) = ss
first_many other = NoSide

mutual
  pub read_back-spelled : (s : Side) (xs : List Mark) → read_back (spelled s ++ xs) ≡ One s ∷ read_back xs
  read_back-spelled (Var v) xs = refl
  read_back-spelled (App f ss) xs = ap (rooted f) (read_back-all ss xs)

  pub read_back-all : (ss : Sides) (xs : List Mark) → read_back (all_spelled ss ++ xs) ≡ Many ss ∷ read_back xs
  read_back-all NoSide xs = refl
  read_back-all (MoreSides s ss) xs =
      ap (λ ys. joined (read_back ys)) (append_assoc (spelled s) (all_spelled ss) xs)
      ∙ (ap joined (read_back-spelled s (all_spelled ss ++ xs)) ∙ ap (λ ys. joined (One s ∷ ys)) (read_back-all ss xs))

pub sides_again : (ss : Sides) → first_many (read_back (all_spelled ss)) ≡ ss
sides_again ss = ap (λ ys. first_many (read_back ys)) (sym (append-nil (all_spelled ss))) ∙ ap first_many (read_back-all ss [])

abbrev pub sides_code : Coded Sides
sides_code = code_by (List Mark) (coded_list (coded⊎ coded_ℕ (coded⊎ coded_ℕ coded_bool))) all_spelled (λ xs. first_many (read_back xs)) sides_again
