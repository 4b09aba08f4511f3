-- Facts on lists and options.
use Rattle.std.specs.Prelude.{◌≡◌, ℕ, zero, suc, List, [], ◌∷◌, ◌++◌, map, Contains, Bool, false, nat_eq, Some, None, refl}
use Rattle.std.specs.List.{IsDistinct, AllByRecursion}
use Rattle.std.proofs.Common.{sym, ap, ◌∙◌, arith, true≢false, eq-eqb}
use Rattle.std.proofs.lemmas.List.{length-map, get_or-map}
use Rattle.std.proofs.lemmas.List.Elements.{All-from_recursion, All-map, All-weaker, All-contains, All-contains_itself, Contains-append_right}

pub none-some : {A : Type 0} {x : A} → None ≡ Some x → ⊥
none-some h = cc

pub some-injective : {A : Type 0} {x y : A} → Some x ≡ Some y → x ≡ y
some-injective h = cc

AllByRecursion-append_left : {A : Type 0} (P : A → Type 0) (xs ys : List A) → AllByRecursion P (xs ++ ys) → AllByRecursion P xs
AllByRecursion-append_left P [] ys h = tt
AllByRecursion-append_left P (x ∷ xs) ys h = (h.0, AllByRecursion-append_left P xs ys h.1)

pub IsDistinct-append_left : (e : ℕ → ℕ → Bool) (xs ys : List ℕ) → IsDistinct e (xs ++ ys) → IsDistinct e xs
unfolding IsDistinct
IsDistinct-append_left e [] ys h = tt
IsDistinct-append_left e (x ∷ xs) ys h =
    (AllByRecursion-append_left (λ y. e x y ≡ false) xs ys h.0, IsDistinct-append_left e xs ys h.1)

pub IsDistinct-append_right : (e : ℕ → ℕ → Bool) (xs ys : List ℕ) → IsDistinct e (xs ++ ys) → IsDistinct e ys
unfolding IsDistinct
IsDistinct-append_right e [] ys h = h
IsDistinct-append_right e (x ∷ xs) ys h = IsDistinct-append_right e xs ys h.1

unequal-first : (x v : ℕ) (xs : List ℕ) → AllByRecursion (λ y. nat_eq x y ≡ false) xs → Contains xs v → x ≡ v → ⊥
unequal-first x v xs h c e =
    true≢false (sym (eq-eqb x v e) ∙ All-contains (λ y. nat_eq x y ≡ false) xs v (All-from_recursion (λ y. nat_eq x y ≡ false) xs h) c)

-- no number is in both parts of a list of different numbers
pub IsDistinct-append_apart : (xs ys : List ℕ) → IsDistinct nat_eq (xs ++ ys) → (v : ℕ) → Contains xs v → Contains ys v → ⊥
unfolding IsDistinct
IsDistinct-append_apart [] ys h v (k, l, e) c = absurd (omega arith)
IsDistinct-append_apart (x ∷ xs) ys h v (zero, l, e) c = unequal-first x v (xs ++ ys) h.0 (Contains-append_right xs ys v c) e
IsDistinct-append_apart (x ∷ xs) ys h v (suc k, l, e) c = IsDistinct-append_apart xs ys h.1 v (k, omega arith, e) c

pub Contains-map : {A B : Type 0} (f : A → B) (xs : List A) (x : A) → Contains xs x → Contains (map f xs) (f x)
Contains-map f xs x (k, l, e) = (k, omega (arith, length-map xs f), get_or-map f xs k x (f x) l ∙ ap f e)

-- what a list of values has came from an element
pub Contains-map_from : {A B : Type 0} (f : A → B) (xs : List A) (y : B) → Contains (map f xs) y → (x : A) × Contains xs x × (f x ≡ y)
Contains-map_from {A} {B} f xs y c =
    let P : B → Type 0 = λ z. (x : A) × Contains xs x × (f x ≡ z) in
    All-contains P (map f xs) y
    (All-map P f xs (All-weaker (Contains xs) (λ x. P (f x)) (λ x h. (x, h, refl)) xs (All-contains_itself xs)))
    c
