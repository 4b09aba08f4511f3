-- A list for each number below a bound, one behind the other: members, order, equality, an element at its place.
use Rattle.std.proofs.Common.{◌≡◌, ℕ, zero, suc, ◌+◌, ◌<◌, ◌≤◌, List, [], ◌∷◌, ◌++◌, length, get_or, ap, sym, ◌∙◌, arith, subst, ⊎_elim, length-append}
use Rattle.std.specs.Prelude.{Contains}
use Rattle.std.specs.List.{AllPairs, flat_map}
use Rattle.std.proofs.lemmas.Bool.{cases_lt}
use Rattle.std.proofs.lemmas.List.{get_or_append_left, get_or-append-add}
use Rattle.std.proofs.lemmas.List.Elements.{Contains-append_left, Contains-append_right, Contains-append_cases}
use Rattle.fort_theory.proofs.Members.{Contains-none, Contains-head, Contains-behind, Contains-cons_cases}
use Rattle.fort_tables.specs.Laid.{joined_below}
use Rattle.fort_tables.proofs.OrderedLists.{AllPairs-none, AllPairs-head, AllPairs-tail, AllPairs-append}
use Rattle.std.proofs.lemmas.List.Elements.{All-contains}

-- members
pub joined_has : {A : Type 0} (n : ℕ) (g : ℕ → List A) (k : ℕ) (x : A) → k < n → Contains (g k) x → Contains (joined_below n g) x
joined_has zero g k x l c = absurd (omega arith)
joined_has (suc n) g k x l c =
    ⊎_elim
    (λ (o : k < n). Contains-append_left (joined_below n g) (g n) x (joined_has n g k x o c))
    (λ (o : n ≤ k). let same : k ≡ n = omega arith in Contains-append_right (joined_below n g) (g n) x (subst (λ m. Contains (g m) x) same c))
    (cases_lt k n)

pub joined_from : {A : Type 0} (n : ℕ) (g : ℕ → List A) (x : A) → Contains (joined_below n g) x → (k : ℕ) × (k < n) × Contains (g k) x
joined_from zero g x c = absurd (Contains-none x c)
joined_from (suc n) g x c =
    ⊎_elim
    (λ b. let r = joined_from n g x b in (r.0, omega (arith, r.1), r.2))
    (λ b. (n, omega arith, b))
    (Contains-append_cases (joined_below n g) (g n) x c)

-- order
pub joined_in_order : {A : Type 0} (R : A → A → Type 0) (n : ℕ) (g : ℕ → List A) → ((k : ℕ) → k < n → AllPairs R (g k))
    → ((k l : ℕ) (x y : A) → k < l → l < n → Contains (g k) x → Contains (g l) y → R x y) → AllPairs R (joined_below n g)
joined_in_order R zero g h b = AllPairs-none R
joined_in_order R (suc n) g h b =
    AllPairs-append R (joined_below n g) (g n)
    (joined_in_order R n g (λ k l. h k (omega arith)) (λ k l x y o m. b k l x y o (omega arith)))
    (h n (omega arith))
    (λ x y c d. let r = joined_from n g x c in b r.0 n x y r.1 (omega arith) r.2 d)

-- the same for a list of lists
pub flat_map_has : {A B : Type 0} (f : A → List B) (xs : List A) (x : A) (y : B) → Contains xs x → Contains (f x) y → Contains (flat_map f xs) y
flat_map_has f [] x y c d = absurd (Contains-none x c)
flat_map_has f (z ∷ xs) x y c d =
    ⊎_elim
    (λ e. Contains-append_left (f z) (flat_map f xs) y (subst (λ w. Contains (f w) y) (sym e) d))
    (λ m. Contains-append_right (f z) (flat_map f xs) y (flat_map_has f xs x y m d))
    (Contains-cons_cases z xs x c)

pub flat_map_from : {A B : Type 0} (f : A → List B) (xs : List A) (y : B) → Contains (flat_map f xs) y → (x : A) × Contains xs x × Contains (f x) y
flat_map_from f [] y c = absurd (Contains-none y c)
flat_map_from f (z ∷ xs) y c =
    ⊎_elim
    (λ b. (z, Contains-head z xs, b))
    (λ b. let r = flat_map_from f xs y b in (r.0, Contains-behind z xs r.0 r.1, r.2))
    (Contains-append_cases (f z) (flat_map f xs) y c)

pub flat_map_in_order : {A B : Type 0} (R : A → A → Type 0) (S : B → B → Type 0) (f : A → List B) (xs : List A) → AllPairs R xs
    → ((x : A) → Contains xs x → AllPairs S (f x)) → ((x z : A) (u v : B) → R x z → Contains (f x) u → Contains (f z) v → S u v) → AllPairs S (flat_map f xs)
flat_map_in_order R S f [] h k b = AllPairs-none S
flat_map_in_order R S f (x ∷ xs) h k b =
    AllPairs-append S (f x) (flat_map f xs)
    (k x (Contains-head x xs))
    (flat_map_in_order R S f xs (AllPairs-tail R x xs h) (λ z c. k z (Contains-behind x xs z c)) b)
    (λ u v c d. let r = flat_map_from f xs v d in b x r.0 u v (All-contains (R x) xs r.0 (AllPairs-head R x xs h) r.1) c r.2)

-- one list's elements
pub joined_long : {A : Type 0} (n : ℕ) (g : ℕ → List A) (k : ℕ) → k < n → length (joined_below k g) + length (g k) ≤ length (joined_below n g)
joined_long zero g k l = absurd (omega arith)
joined_long (suc n) g k l =
    ⊎_elim
    (λ (o : k < n). omega (arith, joined_long n g k o, length-append (joined_below n g) (g n)))
    (λ (o : n ≤ k).
    let same : k ≡ n = omega arith in
    omega (arith, length-append (joined_below n g) (g n), ap (λ i. length (joined_below i g)) same, ap (λ i. length (g i)) same))
    (cases_lt k n)

pub get_or-joined : {A : Type 0} (n : ℕ) (g : ℕ → List A) (k p : ℕ) (d : A) → k < n → p < length (g k)
    → get_or (joined_below n g) (length (joined_below k g) + p) d ≡ get_or (g k) p d
get_or-joined zero g k p d l m = absurd (omega arith)
get_or-joined (suc n) g k p d l m =
    ⊎_elim
    (λ (o : k < n).
    get_or_append_left (joined_below n g) (g n) d (length (joined_below k g) + p) (omega (arith, joined_long n g k o))
    ∙ get_or-joined n g k p d o m)
    (λ (o : n ≤ k).
    let same : n ≡ k = omega arith in
    ap (λ i. get_or (joined_below n g ++ g n) (length (joined_below i g) + p) d) (sym same)
    ∙ (get_or-append-add (joined_below n g) (g n) p d ∙ ap (λ i. get_or (g i) p d) same))
    (cases_lt k n)
