-- Lists in which each element is before all later ones: one behind the other, and that their members tell the list.
use Rattle.std.proofs.Common.{◌≡◌, suc, List, [], ◌∷◌, ◌++◌, map, refl, sym, ◌∙◌, arith, subst, ⊎_elim}
use Rattle.std.specs.Prelude.{Contains}
use Rattle.std.specs.List.{All, AllPairs}
use Rattle.std.proofs.lemmas.List.Elements.{All-map, All-append, All-contains, All-contains_itself, All-weaker}
use Rattle.std.proofs.lemmas.List.Kept.{AllPairs-cons}
use Rattle.fort_theory.proofs.Members.{Contains-none, Contains-head, Contains-behind, Contains-cons_cases}

pub AllPairs-none : {A : Type 0} (R : A → A → Type 0) → AllPairs R []
AllPairs-none R i j d l m = absurd (omega arith)

pub AllPairs-one : {A : Type 0} (R : A → A → Type 0) (x : A) → AllPairs R (x ∷ [])
AllPairs-one R x i j d l m = absurd (omega arith)

pub AllPairs-head : {A : Type 0} (R : A → A → Type 0) (x : A) (xs : List A) → AllPairs R (x ∷ xs) → All (R x) xs
AllPairs-head R x xs h k d l = h 0 (suc k) d (omega arith) (omega arith)

pub AllPairs-tail : {A : Type 0} (R : A → A → Type 0) (x : A) (xs : List A) → AllPairs R (x ∷ xs) → AllPairs R xs
AllPairs-tail R x xs h i j d l m = h (suc i) (suc j) d (omega arith) (omega arith)

-- what holds of each member holds of each element
pub All-from_members : {A : Type 0} (P : A → Type 0) (xs : List A) → ((x : A) → Contains xs x → P x) → All P xs
All-from_members P xs h = All-weaker (Contains xs) P h xs (All-contains_itself xs)

-- another order among the members
pub AllPairs-weaker : {A : Type 0} (R S : A → A → Type 0) (xs : List A) → ((x y : A) → Contains xs x → Contains xs y → R x y → S x y)
    → AllPairs R xs → AllPairs S xs
AllPairs-weaker R S [] m h = AllPairs-none S
AllPairs-weaker R S (x ∷ xs) m h =
    AllPairs-cons S x xs
    (All-from_members (S x) xs (λ y c. m x y (Contains-head x xs) (Contains-behind x xs y c) (All-contains (R x) xs y (AllPairs-head R x xs h) c)))
    (AllPairs-weaker R S xs (λ y z c d. m y z (Contains-behind x xs y c) (Contains-behind x xs z d)) (AllPairs-tail R x xs h))

pub AllPairs-map : {A B : Type 0} (R : A → A → Type 0) (S : B → B → Type 0) (f : A → B) → ((x y : A) → R x y → S (f x) (f y))
    → (xs : List A) → AllPairs R xs → AllPairs S (map f xs)
AllPairs-map R S f m [] h = AllPairs-none S
AllPairs-map R S f m (x ∷ xs) h =
    AllPairs-cons S (f x) (map f xs)
    (All-map (S (f x)) f xs (All-weaker (R x) (λ y. S (f x) (f y)) (m x) xs (AllPairs-head R x xs h)))
    (AllPairs-map R S f m xs (AllPairs-tail R x xs h))

pub AllPairs-append : {A : Type 0} (R : A → A → Type 0) (xs ys : List A) → AllPairs R xs → AllPairs R ys
    → ((x y : A) → Contains xs x → Contains ys y → R x y) → AllPairs R (xs ++ ys)
AllPairs-append R [] ys h k b = k
AllPairs-append R (x ∷ xs) ys h k b =
    AllPairs-cons R x (xs ++ ys)
    (All-append (R x) xs ys (AllPairs-head R x xs h) (All-from_members (R x) ys (λ y c. b x y (Contains-head x xs) c)))
    (AllPairs-append R xs ys (AllPairs-tail R x xs h) k (λ z y c d. b z y (Contains-behind x xs z c) d))

-- where no element is before itself, a first element is not among the later ones
later_there : {A : Type 0} (R : A → A → Type 0) → ((x : A) → R x x → ⊥) → (x y z : A) (xs ys : List A)
    → AllPairs R (x ∷ xs) → x ≡ y → Contains xs z → Contains (y ∷ ys) z → Contains ys z
later_there R i x y z xs ys h e c d =
    ⊎_elim
    (λ s. absurd (i x (subst (R x) (sym (e ∙ s)) (All-contains (R x) xs z (AllPairs-head R x xs h) c))))
    (λ m. m)
    (Contains-cons_cases y ys z d)

-- first elements of two such lists with the same members are the same
first_same : {A : Type 0} (R : A → A → Type 0) → ((x : A) → R x x → ⊥) → ((x y z : A) → R x y → R y z → R x z) → (x y : A) (xs ys : List A)
    → AllPairs R (x ∷ xs) → AllPairs R (y ∷ ys) → Contains (y ∷ ys) x → Contains (x ∷ xs) y → x ≡ y
first_same R i t x y xs ys h k c d =
    ⊎_elim
    (λ s. sym s)
    (λ m. ⊎_elim
    (λ s. s)
    (λ n. absurd (i x (t x y x (All-contains (R x) xs y (AllPairs-head R x xs h) n) (All-contains (R y) ys x (AllPairs-head R y ys k) m))))
    (Contains-cons_cases x xs y d))
    (Contains-cons_cases y ys x c)

-- Result: two lists in strict order with the same members are one
pub ordered_one : {A : Type 0} (R : A → A → Type 0) → ((x : A) → R x x → ⊥) → ((x y z : A) → R x y → R y z → R x z) → (xs ys : List A)
    → AllPairs R xs → AllPairs R ys → ((z : A) → Contains xs z → Contains ys z) → ((z : A) → Contains ys z → Contains xs z) → xs ≡ ys
ordered_one R i t [] [] h k c d = refl
ordered_one R i t [] (y ∷ ys) h k c d = absurd (Contains-none y (d y (Contains-head y ys)))
ordered_one R i t (x ∷ xs) [] h k c d = absurd (Contains-none x (c x (Contains-head x xs)))
ordered_one {A} R i t (x ∷ xs) (y ∷ ys) h k c d =
    let e : x ≡ y = first_same R i t x y xs ys h k (c x (Contains-head x xs)) (d y (Contains-head y ys)) in
    let r : xs ≡ ys =
    ordered_one R i t xs ys (AllPairs-tail R x xs h) (AllPairs-tail R y ys k)
    (λ z m. later_there R i x y z xs ys h e m (c z (Contains-behind x xs z m)))
    (λ z m. later_there R i y x z ys xs k (sym e) m (d z (Contains-behind y ys z m))) in
    λ j. e j ∷ r j
