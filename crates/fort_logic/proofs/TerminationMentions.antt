-- The first number that hasn't a property: there is one at most, and a list's is that of its parts, from left to right.
use Rattle.std.specs.Prelude.{◌≡◌, ◌↔◌, ℕ, List, [], ◌∷◌, ◌++◌, Contains, refl}
use Rattle.std.proofs.Common.{ap, sym, ◌∙◌, subst, append_assoc, inl, inr}
use Rattle.std.proofs.lemmas.List.Elements.{Contains-append_right, Contains-append_cases}
use Rattle.fort_theory.proofs.Members.{Contains-head, Contains-none, Contains-cons_cases}
use Rattle.fort_logic.specs.Terminations.{AreAll, IsFirstWithout}
use Rattle.fort_theory.proofs.EachOnceUnique.{same_first_place}

module _ (P : ℕ → Type 0) where
  pub AreAll-nil : AreAll P []
  AreAll-nil y c = absurd (Contains-none y c)

  pub AreAll-one : (x : ℕ) → P x → AreAll P (x ∷ [])
  AreAll-one x here y c = elim (Contains-cons_cases x [] y c) [ inl e ↦ subst P e here | inr d ↦ absurd (Contains-none y d) ]

  pub AreAll-append : (xs ys : List ℕ) → AreAll P xs → AreAll P ys → AreAll P (xs ++ ys)
  AreAll-append xs ys first second y c = elim (Contains-append_cases xs ys y c) [ inl d ↦ first y d | inr d ↦ second y d ]

  pub IsFirstWithout-one : (x : ℕ) → (P x → ⊥) → IsFirstWithout P (x ∷ []) x
  IsFirstWithout-one x here = record { front = []; back = []; split = refl; before = AreAll-nil; here = here }

  pub IsFirstWithout-left : (xs ys : List ℕ) (x : ℕ) → IsFirstWithout P xs x → IsFirstWithout P (xs ++ ys) x
  IsFirstWithout-left xs ys x h =
      record {
        front = h.front;
        back = h.back ++ ys;
        split = ap (λ zs. zs ++ ys) h.split ∙ append_assoc h.front (x ∷ h.back) ys;
        before = h.before;
        here = h.here;
      }

  pub IsFirstWithout-right : (xs ys : List ℕ) (x : ℕ) → AreAll P xs → IsFirstWithout P ys x → IsFirstWithout P (xs ++ ys) x
  IsFirstWithout-right xs ys x none h =
      record {
        front = xs ++ h.front;
        back = h.back;
        split = ap (λ zs. xs ++ zs) h.split ∙ sym (append_assoc xs h.front (x ∷ h.back));
        before = AreAll-append xs h.front none h.before;
        here = h.here;
      }

  pub IsFirstWithout-not_all : (xs : List ℕ) (x : ℕ) → IsFirstWithout P xs x → AreAll P xs → ⊥
  IsFirstWithout-not_all xs x h all =
      h.here (all x (subst (λ zs. Contains zs x) (sym h.split) (Contains-append_right h.front (x ∷ h.back) x (Contains-head x h.back))))

  pub IsFirstWithout-unique : (xs : List ℕ) (x y : ℕ) → IsFirstWithout P xs x → IsFirstWithout P xs y → x ≡ y
  IsFirstWithout-unique xs x y h k =
      same_first_place h.front k.front h.back k.back x y (sym h.split ∙ k.split) (λ c. k.here (h.before y c)) (λ c. h.here (k.before x c))

-- for two properties that are one
pub AreAll-same : (P Q : ℕ → Type 0) → ((x : ℕ) → P x ↔ Q x) → (xs : List ℕ) → AreAll P xs → AreAll Q xs
AreAll-same P Q same xs all = λ x c. (same x).0 (all x c)

pub IsFirstWithout-same : (P Q : ℕ → Type 0) → ((x : ℕ) → P x ↔ Q x) → (xs : List ℕ) (x : ℕ) → IsFirstWithout P xs x → IsFirstWithout Q xs x
IsFirstWithout-same P Q same xs x h =
    record {
      front = h.front;
      back = h.back;
      split = h.split;
      before = AreAll-same P Q same h.front h.before;
      here = λ q. h.here ((same x).1 q);
    }
