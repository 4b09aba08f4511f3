-- The first number above a bound: there is one at most, and a list's is that of its parts, from left to right.
use Rattle.std.specs.Prelude.{◌≡◌, ℕ, ◌<◌, ◌≤◌, List, [], ◌∷◌, ◌++◌, Contains, refl}
use Rattle.std.proofs.Common.{ap, sym, ◌∙◌, subst, arith, append_assoc, inl, inr}
use Rattle.std.proofs.lemmas.List.Elements.{Contains-append_right, Contains-append_cases}
use Rattle.fort_theory.proofs.Members.{Contains-head, Contains-none, Contains-cons_cases}
use Rattle.fort_logic.specs.Mentions.{AreWithin, IsFirstAbove}
use Rattle.fort_theory.proofs.EachOnceUnique.{same_first_place}

module _ (bound : ℕ) where
  pub AreWithin-nil : AreWithin bound []
  AreWithin-nil y c = absurd (Contains-none y c)

  pub AreWithin-one : (x : ℕ) → x ≤ bound → AreWithin bound (x ∷ [])
  AreWithin-one x low y c = elim (Contains-cons_cases x [] y c) [ inl e ↦ omega arith | inr d ↦ absurd (Contains-none y d) ]

  pub AreWithin-append : (xs ys : List ℕ) → AreWithin bound xs → AreWithin bound ys → AreWithin bound (xs ++ ys)
  AreWithin-append xs ys first second y c = elim (Contains-append_cases xs ys y c) [ inl d ↦ first y d | inr d ↦ second y d ]

  pub IsFirstAbove-one : (x : ℕ) → bound < x → IsFirstAbove bound (x ∷ []) x
  IsFirstAbove-one x above = record { front = []; back = []; split = refl; within = AreWithin-nil; above = above }

  pub IsFirstAbove-left : (xs ys : List ℕ) (x : ℕ) → IsFirstAbove bound xs x → IsFirstAbove bound (xs ++ ys) x
  IsFirstAbove-left xs ys x h =
      record {
        front = h.front;
        back = h.back ++ ys;
        split = ap (λ zs. zs ++ ys) h.split ∙ append_assoc h.front (x ∷ h.back) ys;
        within = h.within;
        above = h.above;
      }

  pub IsFirstAbove-right : (xs ys : List ℕ) (x : ℕ) → AreWithin bound xs → IsFirstAbove bound ys x → IsFirstAbove bound (xs ++ ys) x
  IsFirstAbove-right xs ys x none h =
      record {
        front = xs ++ h.front;
        back = h.back;
        split = ap (λ zs. xs ++ zs) h.split ∙ sym (append_assoc xs h.front (x ∷ h.back));
        within = AreWithin-append xs h.front none h.within;
        above = h.above;
      }

  -- the first one above the bound is there, so not all are within it
  pub IsFirstAbove-not_within : (xs : List ℕ) (x : ℕ) → IsFirstAbove bound xs x → AreWithin bound xs → ⊥
  IsFirstAbove-not_within xs x h all =
      let low = all x (subst (λ zs. Contains zs x) (sym h.split) (Contains-append_right h.front (x ∷ h.back) x (Contains-head x h.back))) in
      let above = h.above in omega arith

  pub IsFirstAbove-unique : (xs : List ℕ) (x y : ℕ) → IsFirstAbove bound xs x → IsFirstAbove bound xs y → x ≡ y
  IsFirstAbove-unique xs x y h k =
      same_first_place h.front k.front h.back k.back x y (sym h.split ∙ k.split)
      (λ c. let low = h.within y c in let above = k.above in omega arith)
      (λ c. let low = k.within x c in let above = h.above in omega arith)
