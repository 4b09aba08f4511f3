-- One list has the values of a list once, in the order of their first places.
use Rattle.std.specs.Prelude.{◌≡◌, ◌↔◌, ◌⊎◌, suc, List, [], ◌∷◌, ◌++◌, Contains, refl}
use Rattle.std.proofs.Common.{inl, inr, sym, ap, subst, ◌∙◌, arith}
use Rattle.fort_theory.specs.EachOnce.{StandsBefore, StandsBeforeAll, AreEachOnce}
use Rattle.fort_theory.proofs.Members.{Contains-behind, Contains-cons_cases}

-- of two values each of which comes first before the other, both are one
pub same_first_place : {A : Type 0} (f g b c : List A) (x y : A) → f ++ (x ∷ b) ≡ g ++ (y ∷ c) → (Contains f y → ⊥) → (Contains g x → ⊥) → x ≡ y
same_first_place [] [] b c x y e no_y no_x = cc
same_first_place [] (d ∷ g) b c x y e no_y no_x = let same : d ≡ x = cc in absurd (no_x (0, omega arith, same))
same_first_place (d ∷ f) [] b c x y e no_y no_x = let same : d ≡ y = cc in absurd (no_y (0, omega arith, same))
same_first_place (d ∷ f) (d' ∷ g) b c x y e no_y no_x =
    let tails : f ++ (x ∷ b) ≡ g ++ (y ∷ c) = cc in
    same_first_place f g b c x y tails (λ h. no_y (suc h.0, (let l = h.1 in omega arith), h.2)) (λ h. no_x (suc h.0, (let l = h.1 in omega arith), h.2))

pub StandsBefore-behind : {A : Type 0} (z : A) (xs : List A) (x y : A) → StandsBefore xs x y → StandsBefore (z ∷ xs) x y
StandsBefore-behind z xs x y h = record { front = z ∷ h.front; back = h.back; split = ap (λ w. z ∷ w) h.split; behind = h.behind }

-- lists of the same values, none twice, in one order
module _ {A : Type 0} (Order : A → A → Type 0) (antisymmetric : (x y : A) → Order x y → Order y x → x ≡ y) where
  ordered_alike : (ys zs : List A) → ((x : A) → Contains ys x ↔ Contains zs x)
      → ((x : A) → StandsBefore ys x x → ⊥) → ((x : A) → StandsBefore zs x x → ⊥)
      → ((x y : A) → StandsBefore ys x y → Order x y) → ((x y : A) → StandsBefore zs x y → Order x y) → ys ≡ zs
  ordered_alike [] [] same apart_y apart_z order_y order_z = refl
  ordered_alike [] (z ∷ zs) same apart_y apart_z order_y order_z = let h = (same z).1 (0, omega arith, refl) in absurd (omega (arith, h.1))
  ordered_alike (y ∷ ys) [] same apart_y apart_z order_y order_z = let h = (same y).0 (0, omega arith, refl) in absurd (omega (arith, h.1))
  ordered_alike (y ∷ ys) (z ∷ zs) same apart_y apart_z order_y order_z =
      let heads = one_head (Contains-cons_cases z zs y ((same y).0 (0, omega arith, refl))) (Contains-cons_cases y ys z ((same z).1 (0, omega arith, refl))) in
      let tails = ordered_alike ys zs (λ x. (to_z heads x, to_y heads x))
      (λ x h. apart_y x (StandsBefore-behind y ys x x h)) (λ x h. apart_z x (StandsBefore-behind z zs x x h))
      (λ x w h. order_y x w (StandsBefore-behind y ys x w h)) (λ x w h. order_z x w (StandsBefore-behind z zs x w h)) in
      cc
    where
      before_y : (x : A) → Contains ys x → StandsBefore (y ∷ ys) y x
      before_y x h = record { front = []; back = ys; split = refl; behind = h }

      before_z : (x : A) → Contains zs x → StandsBefore (z ∷ zs) z x
      before_z x h = record { front = []; back = zs; split = refl; behind = h }

      one_head : (z ≡ y) ⊎ Contains zs y → (y ≡ z) ⊎ Contains ys z → y ≡ z
      one_head (inl e) two = sym e
      one_head (inr h) (inl e) = e
      one_head (inr h) (inr k) = antisymmetric y z (order_y y z (before_y z k)) (order_z z y (before_z y h))

      not_head : {P : Type 0} (x : A) → (z ≡ x) ⊎ P → (x ≡ z → ⊥) → P
      not_head x (inl e) other = absurd (other (sym e))
      not_head x (inr h) other = h

      to_z : y ≡ z → (x : A) → Contains ys x → Contains zs x
      to_z heads x h = not_head x (Contains-cons_cases z zs x ((same x).0 (Contains-behind y ys x h)))
          (λ e. apart_y y (before_y y (subst (Contains ys) (e ∙ sym heads) h)))

      to_y : y ≡ z → (x : A) → Contains zs x → Contains ys x
      to_y heads x h = not_head_y (Contains-cons_cases y ys x ((same x).1 (Contains-behind z zs x h)))
        where
          not_head_y : (y ≡ x) ⊎ Contains ys x → Contains ys x
          not_head_y (inl e) = absurd (apart_z z (before_z z (subst (Contains zs) (sym e ∙ heads) h)))
          not_head_y (inr k) = k

pub AreEachOnce-unique : {A : Type 0} (xs ys zs : List A) → AreEachOnce xs ys → AreEachOnce xs zs → ys ≡ zs
AreEachOnce-unique xs ys zs one two =
    ordered_alike (StandsBeforeAll xs) (λ x y h k. same_first_place h.front k.front h.back k.back x y (sym h.split ∙ k.split) h.none k.none) ys zs
    (λ x. ((λ h. (two.same x).0 ((one.same x).1 h)), (λ h. (one.same x).0 ((two.same x).1 h))))
    one.distinct two.distinct one.ordered two.ordered

pub StandsBefore-cases : {A : Type 0} (z : A) (xs : List A) (x y : A) → StandsBefore (z ∷ xs) x y → ((x ≡ z) × Contains xs y) ⊎ StandsBefore xs x y
StandsBefore-cases z xs x y h = by h.front h.split
  where
    by : (front : List _) → z ∷ xs ≡ front ++ (x ∷ h.back) → ((x ≡ z) × Contains xs y) ⊎ StandsBefore xs x y
    by [] e = let head : x ≡ z = cc in let tail : h.back ≡ xs = cc in inl (head, subst (λ w. Contains w y) tail h.behind)
    by (c ∷ front) e = let tail : xs ≡ front ++ (x ∷ h.back) = cc in inr (record { front = front; back = h.back; split = tail; behind = h.behind })

-- what stands somewhere behind
pub StandsBefore-Contains : {A : Type 0} (xs : List A) (x y : A) → StandsBefore xs x y → Contains xs y
StandsBefore-Contains xs x y h = by h.front xs h.split
  where
    by : (front zs : List _) → zs ≡ front ++ (x ∷ h.back) → Contains zs y
    by [] zs e = subst (λ w. Contains w y) (sym e) (Contains-behind x h.back y h.behind)
    by (c ∷ front) zs e = subst (λ w. Contains w y) (sym e) (Contains-behind c (front ++ (x ∷ h.back)) y (by front (front ++ (x ∷ h.back)) refl))
