-- The lists of a system by their indices: one more at the end of one of them, a map over them.
use Rattle.std.specs.Prelude.{◌≡◌, ◌≢◌, ℕ, zero, suc, ◌+◌, List, [], ◌∷◌, ◌++◌, length, map, All, get_or, refl}
use Rattle.std.proofs.Common.{ap, arith, length-append}
use Rattle.std.proofs.lemmas.List.{map-append}
use Rattle.std.proofs.lemmas.List.Elements.{All-nil, All-cons, All-head, All-tail, All-push}
use Rattle.fort_theory.specs.Sides.{at_index, pushed_at, empty_lists, count_all, IsIndexOf}

-- the list of an index stands at its place, counted from 0
pub at_index-get : {A : Type 0} (i : ℕ) (lists : List (List A)) → at_index (suc i) lists ≡ get_or lists i []
at_index-get i [] = refl
at_index-get zero (xs ∷ lists) = refl
at_index-get (suc i) (xs ∷ lists) = at_index-get i lists

pub at_index-map : {A B : Type 0} (f : A → B) (i : ℕ) (lists : List (List A)) → at_index i (map (map f) lists) ≡ map f (at_index i lists)
at_index-map f zero lists = refl
at_index-map f (suc i) [] = refl
at_index-map f (suc zero) (xs ∷ lists) = refl
at_index-map f (suc (suc i)) (xs ∷ lists) = at_index-map f (suc i) lists

pub length-pushed_at : {A : Type 0} (i : ℕ) (x : A) (lists : List (List A)) → length (pushed_at i x lists) ≡ length lists
length-pushed_at zero x lists = refl
length-pushed_at (suc i) x [] = refl
length-pushed_at (suc zero) x (xs ∷ lists) = refl
length-pushed_at (suc (suc i)) x (xs ∷ lists) = let e = length-pushed_at (suc i) x lists in omega arith

-- the list of the index has one more at its end
pub at_index-pushed_same : {A : Type 0} (i : ℕ) (x : A) (lists : List (List A)) → IsIndexOf lists i → at_index i (pushed_at i x lists) ≡ at_index i lists ++ x ∷ []
at_index-pushed_same zero x lists is = absurd (let l = is.low in omega arith)
at_index-pushed_same (suc i) x [] is = absurd (let h = is.high in omega arith)
at_index-pushed_same (suc zero) x (xs ∷ lists) is = refl
at_index-pushed_same (suc (suc i)) x (xs ∷ lists) is =
    at_index-pushed_same (suc i) x lists (record { low = omega arith; high = let h = is.high in omega arith })

-- the others are as they were
pub at_index-pushed_other : {A : Type 0} (i j : ℕ) (x : A) (lists : List (List A)) → i ≢ j → at_index j (pushed_at i x lists) ≡ at_index j lists
at_index-pushed_other zero j x lists other = refl
at_index-pushed_other (suc i) j x [] other = refl
at_index-pushed_other (suc zero) zero x (xs ∷ lists) other = refl
at_index-pushed_other (suc zero) (suc zero) x (xs ∷ lists) other = absurd (other refl)
at_index-pushed_other (suc zero) (suc (suc j)) x (xs ∷ lists) other = refl
at_index-pushed_other (suc (suc i)) zero x (xs ∷ lists) other = refl
at_index-pushed_other (suc (suc i)) (suc zero) x (xs ∷ lists) other = refl
at_index-pushed_other (suc (suc i)) (suc (suc j)) x (xs ∷ lists) other = at_index-pushed_other (suc i) (suc j) x lists (λ e. other (ap suc e))

pub map-pushed_at : {A B : Type 0} (f : A → B) (i : ℕ) (x : A) (lists : List (List A)) → map (map f) (pushed_at i x lists) ≡ pushed_at i (f x) (map (map f) lists)
map-pushed_at f zero x lists = refl
map-pushed_at f (suc i) x [] = refl
map-pushed_at f (suc zero) x (xs ∷ lists) = ap (λ ys. ys ∷ map (map f) lists) (map-append f xs (x ∷ []))
map-pushed_at f (suc (suc i)) x (xs ∷ lists) = ap (λ ls. map f xs ∷ ls) (map-pushed_at f (suc i) x lists)

pub count_all-pushed_at : {A : Type 0} (i : ℕ) (x : A) (lists : List (List A)) → IsIndexOf lists i → count_all (pushed_at i x lists) ≡ count_all lists + 1
count_all-pushed_at zero x lists is = absurd (let l = is.low in omega arith)
count_all-pushed_at (suc i) x [] is = absurd (let h = is.high in omega arith)
count_all-pushed_at (suc zero) x (xs ∷ lists) is = let e = length-append xs (x ∷ []) in omega arith
count_all-pushed_at (suc (suc i)) x (xs ∷ lists) is =
    let e = count_all-pushed_at (suc i) x lists (record { low = omega arith; high = let h = is.high in omega arith }) in omega arith

-- what all of them have, and the new one, all have behind it
pub All-pushed_at : {A : Type 0} (P : A → Type 0) (i : ℕ) (x : A) (lists : List (List A)) → All (All P) lists → P x → All (All P) (pushed_at i x lists)
All-pushed_at P zero x lists all here = all
All-pushed_at P (suc i) x [] all here = all
All-pushed_at P (suc zero) x (xs ∷ lists) all here =
    All-cons (All P) (xs ++ x ∷ []) lists (All-push P xs x (All-head (All P) xs lists all) here) (All-tail (All P) xs lists all)
All-pushed_at P (suc (suc i)) x (xs ∷ lists) all here =
    All-cons (All P) xs (pushed_at (suc i) x lists) (All-head (All P) xs lists all) (All-pushed_at P (suc i) x lists (All-tail (All P) xs lists all) here)

pub All-at_index : {A : Type 0} (P : A → Type 0) (i : ℕ) (lists : List (List A)) → All (All P) lists → All P (at_index i lists)
All-at_index P zero lists all = All-nil P
All-at_index P (suc i) [] all = All-nil P
All-at_index P (suc zero) (xs ∷ lists) all = All-head (All P) xs lists all
All-at_index P (suc (suc i)) (xs ∷ lists) all = All-at_index P (suc i) lists (All-tail (All P) xs lists all)

pub All-empty_lists : {A : Type 0} (P : A → Type 0) (n : ℕ) → All (All P) (empty_lists n)
All-empty_lists P zero = All-nil (All P)
All-empty_lists P (suc n) = All-cons (All P) [] (empty_lists n) (All-nil P) (All-empty_lists P n)

pub length-empty_lists : (A : Type 0) (n : ℕ) → length (empty_lists {A = A} n) ≡ n
length-empty_lists A zero = refl
length-empty_lists A (suc n) = let e = length-empty_lists A n in omega arith
