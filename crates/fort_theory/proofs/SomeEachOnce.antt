-- Each list has a list of its elements each once, where equality is decided.
use Rattle.std.specs.Prelude.{◌≡◌, ◌⊎◌, Bool, true, Decides, List, [], ◌∷◌, ◌++◌, Contains}
use Rattle.std.proofs.Common.{sym, subst, inl, inr, append_assoc, append-nil}
use Rattle.std.proofs.lemmas.Bool.{cases_Bool}
use Rattle.fort_theory.proofs.Members.{Contains-head, Contains-behind, Contains-cons_cases, Contains-none}
use Rattle.fort_theory.specs.EachOnce.{AreEachOnce}
use Rattle.fort_theory.proofs.EachOnceLaws.{AreEachOnce-nil, AreEachOnce-there, AreEachOnce-new}

module _ {A : Type 0} (equal : A → A → Bool) (decides : (x y : A) → Decides (equal x y) (x ≡ y)) where
  stands : (xs : List A) (z : A) → Contains xs z ⊎ (Contains xs z → ⊥)
  stands [] z = inr (Contains-none z)
  stands (x ∷ xs) z =
      elim (cases_Bool (equal x z)) [
        | inl same ↦ inl (subst (λ y. Contains (x ∷ xs) y) ((decides x z).0 same) (Contains-head x xs))
        | inr other ↦ elim (stands xs z) [
          | inl there ↦ inl (Contains-behind x xs z there)
          | inr none ↦ inr (λ c. elim (Contains-cons_cases x xs z c) [
            | inl here ↦ (let same : equal x z ≡ true = (decides x z).1 here in cc)
            | inr there ↦ none there
          ])
        ]
      ]

  -- where some front was taken
  each_once_behind : (before found rest : List A) → AreEachOnce before found → (ys : List A) × AreEachOnce (before ++ rest) ys
  each_once_behind before found [] are = (found, subst (λ w. AreEachOnce w found) (sym (append-nil before)) are)
  each_once_behind before found (z ∷ rest) are =
      elim (stands found z) [
        | inl there ↦
            (let more = each_once_behind (before ++ z ∷ []) found rest (AreEachOnce-there before found z are there) in
            (more.0, subst (λ w. AreEachOnce w more.0) (append_assoc before (z ∷ []) rest) more.1))
        | inr none ↦
            (let more = each_once_behind (before ++ z ∷ []) (found ++ z ∷ []) rest (AreEachOnce-new before found z are none) in
            (more.0, subst (λ w. AreEachOnce w more.0) (append_assoc before (z ∷ []) rest) more.1))
      ]

  -- Result
  pub some_each_once : (xs : List A) → (ys : List A) × AreEachOnce xs ys
  some_each_once xs = each_once_behind [] [] xs AreEachOnce-nil
