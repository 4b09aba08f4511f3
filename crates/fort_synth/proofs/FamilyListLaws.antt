-- Members, order and length of lists that are joined from lists.
use Rattle.std.proofs.Common.{◌≡◌, ℕ, zero, suc, ◌+◌, ◌*◌, ◌<◌, ◌≤◌, List, [], ◌∷◌, ◌++◌, map, length, get_or, take, ap, sym, ◌∙◌, subst, inl, inr, arith, append-nil, length-append}
use Rattle.std.specs.Prelude.{Contains}
use Rattle.std.specs.List.{flat_map}
use Rattle.std.proofs.lemmas.Bool.{cases_lt}
use Rattle.std.proofs.lemmas.List.{take_more, map-append, length-map}
use Rattle.std.proofs.lemmas.List.Concat.{flat_map-append}
use Rattle.std.proofs.lemmas.List.Elements.{Contains-append_left, Contains-append_right, Contains-append_cases, Contains-get_or}
use Rattle.fort_theory.proofs.Lists.{Contains-map_from}
use Rattle.fort_theory.proofs.Members.{Contains-head, Contains-behind, Contains-cons_cases, Contains-none}

-- ---- a loop's step

flat_map_one_more : {A B C : Type 0} (f : B → List C) (v : A → B) (xs : List A) (i : ℕ) (d : A) → i < length xs
    → flat_map f (map v (take (i + 1) xs)) ≡ flat_map f (map v (take i xs)) ++ f (v (get_or xs i d))
flat_map_one_more f v xs i d below =
    ap (λ ys. flat_map f (map v ys)) (take_more xs i d below)
    ∙ (ap (flat_map f) (map-append v (take i xs) (get_or xs i d ∷ []))
    ∙ (flat_map-append f (map v (take i xs)) (v (get_or xs i d) ∷ [])
    ∙ ap (λ ys. flat_map f (map v (take i xs)) ++ ys) (append-nil (f (v (get_or xs i d))))))

pub joined_more : {A B C : Type 0} (f : B → List C) (v : A → B) (xs : List A) (i : ℕ) (x : A) (old new : List C) → i < length xs → x ≡ get_or xs i x
    → old ≡ flat_map f (map v (take i xs)) → new ≡ old ++ f (v x) → new ≡ flat_map f (map v (take (i + 1) xs))
joined_more f v xs i x old new below is before after =
    after ∙ ((λ k. before k ++ f (v (is k))) ∙ sym (flat_map_one_more f v xs i x below))

-- ---- members

pub Contains-flat_map : {A B : Type 0} (f : A → List B) (xs : List A) (x : A) (y : B) → Contains xs x → Contains (f x) y → Contains (flat_map f xs) y
Contains-flat_map f [] x y c h = absurd (Contains-none x c)
Contains-flat_map f (z ∷ xs) x y c h =
    elim (Contains-cons_cases z xs x c) [
      | inl here ↦ Contains-append_left (f z) (flat_map f xs) y (subst (λ w. Contains (f w) y) (sym here) h)
      | inr there ↦ Contains-append_right (f z) (flat_map f xs) y (Contains-flat_map f xs x y there h)
    ]

pub Contains-flat_map_from : {A B : Type 0} (f : A → List B) (xs : List A) (y : B) → Contains (flat_map f xs) y → (x : A) × Contains xs x × Contains (f x) y
Contains-flat_map_from f [] y c = absurd (Contains-none y c)
Contains-flat_map_from f (x ∷ xs) y c =
    elim (Contains-append_cases (f x) (flat_map f xs) y c) [
      | inl here ↦ (x, Contains-head x xs, here)
      | inr there ↦ let m = Contains-flat_map_from f xs y there in (m.0, Contains-behind x xs m.0 m.1, m.2)
    ]

-- ---- order

-- each element comes before all behind it
abbrev pub IsAscending : {A : Type 0} → (A → A → Type 0) → List A → Type 0
IsAscending R [] = Unit {0}
IsAscending {A} R (x ∷ xs) = ((y : A) → Contains xs y → R x y) × IsAscending R xs

pub IsAscending-append : {A : Type 0} (R : A → A → Type 0) (xs ys : List A) → IsAscending R xs → IsAscending R ys
    → ((x y : A) → Contains xs x → Contains ys y → R x y) → IsAscending R (xs ++ ys)
IsAscending-append R [] ys a b apart = b
IsAscending-append R (x ∷ xs) ys a b apart = (
  (λ y c. elim (Contains-append_cases xs ys y c) [ inl here ↦ a.0 y here | inr there ↦ apart x y (Contains-head x xs) there ]),
  IsAscending-append R xs ys a.1 b (λ z y c d. apart z y (Contains-behind x xs z c) d),
)

pub IsAscending-map : {A B : Type 0} (R : A → A → Type 0) (S : B → B → Type 0) (f : A → B) (xs : List A) → ((x y : A) → R x y → S (f x) (f y))
    → IsAscending R xs → IsAscending S (map f xs)
IsAscending-map R S f [] keeps a = tt
IsAscending-map R S f (x ∷ xs) keeps a = (
  (λ y c. let m = Contains-map_from f xs y c in subst (λ z. S (f x) z) m.2 (keeps x m.0 (a.0 m.0 m.1))),
  IsAscending-map R S f xs keeps a.1,
)

pub IsAscending-flat_map : {A B : Type 0} (R : A → A → Type 0) (S : B → B → Type 0) (f : A → List B) (xs : List A) → IsAscending R xs
    → ((x : A) → IsAscending S (f x)) → ((x y : A) → R x y → (a b : B) → Contains (f x) a → Contains (f y) b → S a b) → IsAscending S (flat_map f xs)
IsAscending-flat_map R S f [] asc each apart = tt
IsAscending-flat_map R S f (x ∷ xs) asc each apart =
    IsAscending-append S (f x) (flat_map f xs) (each x) (IsAscending-flat_map R S f xs asc.1 each apart)
    (λ a b here there. let m = Contains-flat_map_from f xs b there in apart x m.0 (asc.0 m.0 m.1) a b here m.2)

pub at_places : {A : Type 0} (R : A → A → Type 0) (xs : List A) → IsAscending R xs → (i j : ℕ) (d : A) → i < j → j < length xs
    → R (get_or xs i d) (get_or xs j d)
at_places R [] asc i j d l m = absurd (omega arith)
at_places R (x ∷ xs) asc i zero d l m = absurd (omega arith)
at_places R (x ∷ xs) asc zero (suc j) d l m = asc.0 (get_or xs j d) (Contains-get_or xs j d (omega arith))
at_places R (x ∷ xs) asc (suc i) (suc j) d l m = at_places R xs asc.1 i j d (omega arith) (omega arith)

-- ---- length

pub length-all_pairs : {A B C : Type 0} (g : A → B → C) (xs : List A) (ys : List B) → length (flat_map (λ x. map (g x) ys) xs) ≡ length xs * length ys
length-all_pairs g [] ys = omega arith
length-all_pairs g (x ∷ xs) ys =
    omega (arith, length-append (map (g x) ys) (flat_map (λ z. map (g z) ys) xs), length-map ys (g x), length-all_pairs g xs ys)

-- what never falls from one number to the next
pub rises : (u : ℕ → ℕ) → ((k : ℕ) → u k ≤ u (suc k)) → (j k : ℕ) → j ≤ k → u j ≤ u k
rises u up j zero l = let e : j ≡ 0 = omega arith in omega (arith, ap u e)
rises u up j (suc k) l =
    elim (cases_lt j (suc k)) [
      | inl below ↦ omega (arith, rises u up j k (omega arith), up k)
      | inr above ↦ (let e : j ≡ suc k = omega arith in omega (arith, ap u e))
    ]
