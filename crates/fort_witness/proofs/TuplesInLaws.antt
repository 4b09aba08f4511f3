-- The tuples in a tuple: those in its children and then itself; each stands behind its children.
use Rattle.std.proofs.Common.{◌≡◌, ℕ, zero, suc, ◌≤◌, List, [], ◌∷◌, ◌++◌, append_assoc, refl, ap, sym, ◌∙◌, arith, subst, ⊎_elim}
use Rattle.std.specs.Prelude.{Contains}
use Rattle.std.specs.List.{flat_map}
use Rattle.std.proofs.lemmas.List.{append-nil}
use Rattle.std.proofs.lemmas.List.Elements.{Contains-append_left, Contains-append_right, Contains-append_cases, Contains-push, Contains-push_cases}
use Rattle.fort_theory.proofs.Members.{Contains-head, Contains-behind, Contains-cons_cases, Contains-none}
use Rattle.fort_theory.specs.EachOnce.{AreEachOnce}
use Rattle.fort_theory.proofs.EachOnceLaws.{AreEachOnce-there}
use Rattle.fort_tables.specs.Tuples.{Tuple, tabulate, kid_count, kid, kids, level}
use Rattle.fort_tables.proofs.TupleLaws.{length-tabulate, get_or-tabulate, level_kid, no_kid}
use Rattle.fort_tables.specs.TupleNodes.{tuples_within, tuples_in}

flat_map_same : {A B : Type 0} (f g : A → List B) (xs : List A) → ((x : A) → Contains xs x → f x ≡ g x) → flat_map f xs ≡ flat_map g xs
flat_map_same f g [] h = refl
flat_map_same f g (x ∷ xs) h =
    ap (λ ys. ys ++ flat_map f xs) (h x (Contains-head x xs))
    ∙ ap (λ ys. g x ++ ys) (flat_map_same f g xs (λ z c. h z (Contains-behind x xs z c)))

flat_map_has : {A B : Type 0} (f : A → List B) (xs : List A) (x : A) (y : B) → Contains xs x → Contains (f x) y → Contains (flat_map f xs) y
flat_map_has f [] x y c d = absurd (Contains-none x c)
flat_map_has f (z ∷ xs) x y c d =
    ⊎_elim
    (λ e. Contains-append_left (f z) (flat_map f xs) y (subst (λ w. Contains (f w) y) (sym e) d))
    (λ m. Contains-append_right (f z) (flat_map f xs) y (flat_map_has f xs x y m d))
    (Contains-cons_cases z xs x c)

flat_map_from : {A B : Type 0} (f : A → List B) (xs : List A) (y : B) → Contains (flat_map f xs) y → (x : A) × Contains xs x × Contains (f x) y
flat_map_from f [] y c = absurd (Contains-none y c)
flat_map_from f (z ∷ xs) y c =
    ⊎_elim
    (λ b. (z, Contains-head z xs, b))
    (λ b. let r = flat_map_from f xs y b in (r.0, Contains-behind z xs r.0 r.1, r.2))
    (Contains-append_cases (f z) (flat_map f xs) y c)

level_of_child : (t x : Tuple) (n : ℕ) → level t ≤ suc n → Contains (kids t) x → level x ≤ n
level_of_child t x n h (k, l, e) =
    let at : kid t k ≡ x = sym (get_or-tabulate (kid_count t) (kid t) k x (omega (arith, length-tabulate (kid_count t) (kid t)))) ∙ e in
    subst (λ (u : Tuple). level u ≤ n) at (level_kid t k n h)

no_child : (t x : Tuple) → level t ≤ 0 → Contains (kids t) x → ⊥
no_child t x h (k, l, e) = omega (arith, length-tabulate (kid_count t) (kid t), no_kid t h)

within_enough : (n m : ℕ) (t : Tuple) → level t ≤ n → level t ≤ m → tuples_within n t ≡ tuples_within m t
within_enough zero zero t h k = refl
within_enough zero (suc m) t h k = ap (λ c. flat_map (tuples_within m) (tabulate c (kid t)) ++ t ∷ []) (sym (no_kid t h))
within_enough (suc n) zero t h k = ap (λ c. flat_map (tuples_within n) (tabulate c (kid t)) ++ t ∷ []) (no_kid t k)
within_enough (suc n) (suc m) t h k =
    ap (λ (ts : List Tuple). ts ++ t ∷ [])
    (flat_map_same (tuples_within n) (tuples_within m) (kids t) (λ x c. within_enough n m x (level_of_child t x n h c) (level_of_child t x m k c)))

pub tuples_in-step : (t : Tuple) → tuples_in t ≡ flat_map tuples_in (kids t) ++ t ∷ []
tuples_in-step t =
    within_enough (level t) (suc (level t)) t (omega arith) (omega arith)
    ∙ ap (λ (ts : List Tuple). ts ++ t ∷ [])
    (flat_map_same (tuples_within (level t)) tuples_in (kids t) (λ x c. within_enough (level t) (level x) x (level_of_child t x (level t) (omega arith) c) (omega arith)))

itself_within : (n : ℕ) (t : Tuple) → Contains (tuples_within n t) t
itself_within zero t = Contains-head t []
itself_within (suc n) t = Contains-push (flat_map (tuples_within n) (kids t)) t

-- the children of each stand before it, or were seen
abbrev pub FollowChildren : List Tuple → List Tuple → Type 0
FollowChildren seen [] = Unit {0}
FollowChildren seen (x ∷ xs) = ((y : Tuple) → Contains (kids x) y → Contains seen y) × FollowChildren (seen ++ x ∷ []) xs

follow_append : (seen xs ys : List Tuple) → FollowChildren seen xs → FollowChildren (seen ++ xs) ys → FollowChildren seen (xs ++ ys)
follow_append seen [] ys h k = subst (λ (s : List Tuple). FollowChildren s ys) (append-nil seen) k
follow_append seen (x ∷ xs) ys h k = (h.0, follow_append (seen ++ x ∷ []) xs ys h.1 (subst (λ (s : List Tuple). FollowChildren s ys) (sym (append_assoc seen (x ∷ []) xs)) k))

follow_all : (f : Tuple → List Tuple) (us seen : List Tuple) → ((u : Tuple) → Contains us u → (s : List Tuple) → FollowChildren s (f u)) → FollowChildren seen (flat_map f us)
follow_all f [] seen h = tt
follow_all f (u ∷ us) seen h =
    follow_append seen (f u) (flat_map f us) (h u (Contains-head u us) seen) (follow_all f us (seen ++ f u) (λ v c. h v (Contains-behind u us v c)))

follow_within : (n : ℕ) (t : Tuple) (seen : List Tuple) → level t ≤ n → FollowChildren seen (tuples_within n t)
follow_within zero t seen h = ((λ y c. absurd (no_child t y h c)), tt)
follow_within (suc n) t seen h =
    let below = flat_map (tuples_within n) (kids t) in
    follow_append seen below (t ∷ [])
    (follow_all (tuples_within n) (kids t) seen (λ u c s. follow_within n u s (level_of_child t u n h c)))
    ((λ y c. Contains-append_right seen below y (flat_map_has (tuples_within n) (kids t) y y c (itself_within n y))), tt)

children_before : (seen front : List Tuple) (x : Tuple) (back : List Tuple) → FollowChildren seen (front ++ x ∷ back) → (y : Tuple) → Contains (kids x) y → Contains (seen ++ front) y
children_before seen [] x back h y c = Contains-append_left seen [] y (h.0 y c)
children_before seen (z ∷ front) x back h y c = subst (λ (s : List Tuple). Contains s y) (append_assoc seen (z ∷ []) front) (children_before (seen ++ z ∷ []) front x back h.1 y c)

-- where the tuples in one are cut at a place, the children of the tuple there come before it
pub children_seen : (t : Tuple) (front : List Tuple) (x : Tuple) (back : List Tuple) → front ++ x ∷ back ≡ tuples_in t → (y : Tuple) → Contains (kids x) y → Contains front y
children_seen t front x back e = children_before [] front x back (subst (FollowChildren []) (sym e) (follow_within (level t) t [] (omega arith)))

-- where the children of each are there, so are all tuples in one
all_within : (ts : List Tuple) → ((x y : Tuple) → Contains ts x → Contains (kids x) y → Contains ts y) → (n : ℕ) (t : Tuple) → Contains ts t → (y : Tuple) → Contains (tuples_within n t) y → Contains ts y
all_within ts h zero t c y d =
    ⊎_elim (λ e. subst (λ (u : Tuple). Contains ts u) e c) (λ m. absurd (Contains-none y m)) (Contains-cons_cases t [] y d)
all_within ts h (suc n) t c y d =
    ⊎_elim
    (λ m. let r = flat_map_from (tuples_within n) (kids t) y m in all_within ts h n r.0 (h t r.0 c r.1) y r.2)
    (λ e. subst (λ (u : Tuple). Contains ts u) e c)
    (Contains-push_cases (flat_map (tuples_within n) (kids t)) t y d)

pub all_in : (ts : List Tuple) → ((x y : Tuple) → Contains ts x → Contains (kids x) y → Contains ts y) → (t : Tuple) → Contains ts t → (y : Tuple) → Contains (tuples_in t) y → Contains ts y
all_in ts h t = all_within ts h (level t) t

-- more values that are there already
pub AreEachOnce-there_all : {A : Type 0} (xs ys zs : List A) → AreEachOnce xs ys → ((z : A) → Contains zs z → Contains ys z) → AreEachOnce (xs ++ zs) ys
AreEachOnce-there_all {A} xs ys [] once h = subst (λ (us : List A). AreEachOnce us ys) (sym (append-nil xs)) once
AreEachOnce-there_all {A} xs ys (z ∷ zs) once h =
    subst (λ (us : List A). AreEachOnce us ys) (append_assoc xs (z ∷ []) zs)
    (AreEachOnce-there_all (xs ++ z ∷ []) ys zs (AreEachOnce-there xs ys z once (h z (Contains-head z zs))) (λ w c. h w (Contains-behind z zs w c)))
