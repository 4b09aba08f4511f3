-- Searches below a number and through choices: a search is true exactly where something passes.
use Rattle.std.proofs.Common.{◌≡◌, ℕ, zero, suc, ◌+◌, ◌<◌, ◌≤◌, List, [], ◌∷◌, length, get_or, Bool, true, false, ◌&&◌, ◌||◌, ⊎_elim, refl, ap, sym, arith, subst}
use Rattle.std.proofs.lemmas.Bool.{cases_lt, or_cases}
use Rattle.fort_tables.specs.Projections.{some_below, some_choice}

pub both : (a b : Bool) → a ≡ true → b ≡ true → (a && b) ≡ true
both a b h k = grind arith

pub left : (a b : Bool) → (a && b) ≡ true → a ≡ true
left true b h = refl
left false b h = absurd cc

pub right : (a b : Bool) → (a && b) ≡ true → b ≡ true
right true b h = h
right false b h = absurd cc

pub either_left : (a b : Bool) → a ≡ true → (a || b) ≡ true
either_left true b h = refl
either_left false b h = absurd cc

pub either_right : (a b : Bool) → b ≡ true → (a || b) ≡ true
either_right true b h = refl
either_right false b h = h

pub same_truth : (a b : Bool) → (a ≡ true → b ≡ true) → (b ≡ true → a ≡ true) → a ≡ b
same_truth true true h k = refl
same_truth true false h k = sym (h refl)
same_truth false true h k = k refl
same_truth false false h k = refl

pub found_below : (n : ℕ) (p : ℕ → Bool) → some_below n p ≡ true → (k : ℕ) × (k < n) × (p k ≡ true)
found_below zero p h = absurd cc
found_below (suc n) p h = ⊎_elim (λ e. let r = found_below n p e in (r.0, omega (arith, r.1), r.2)) (λ e. (n, omega arith, e)) (or_cases (some_below n p) (p n) h)

pub below_found : (n : ℕ) (p : ℕ → Bool) (k : ℕ) → k < n → p k ≡ true → some_below n p ≡ true
below_found zero p k l h = absurd (omega arith)
below_found (suc n) p k l h = ⊎_elim
    (λ (m : k < n). either_left (some_below n p) (p n) (below_found n p k m h))
    (λ (m : n ≤ k). let e : k ≡ n = omega arith in either_right (some_below n p) (p n) (subst (λ (i : ℕ). p i ≡ true) e h))
    (cases_lt k n)

-- each number of the list is below m and among its place's options
abbrev pub AreOptions : ℕ → (ℕ → ℕ → Bool) → ℕ → List ℕ → Type 0
AreOptions m may j ks = (i : ℕ) → i < length ks → (get_or ks i 0 < m) × (may (j + i) (get_or ks i 0) ≡ true)

options_first : (m : ℕ) (may : ℕ → ℕ → Bool) (j k : ℕ) (ks : List ℕ) → k < m → may j k ≡ true → AreOptions m may (suc j) ks → AreOptions m may j (k ∷ ks)
options_first m may j k ks l h r zero b = (l, let e : j ≡ j + 0 = omega arith in subst (λ (i : ℕ). may i k ≡ true) e h)
options_first m may j k ks l h r (suc i) b = let s = r i (omega arith) in
    (s.0, let e : suc j + i ≡ j + suc i = omega arith in subst (λ (a : ℕ). may a (get_or ks i 0) ≡ true) e s.1)

options_later : (m : ℕ) (may : ℕ → ℕ → Bool) (j k : ℕ) (ks : List ℕ) → AreOptions m may j (k ∷ ks) → AreOptions m may (suc j) ks
options_later m may j k ks h i b = let s = h (suc i) (omega arith) in
    (s.0, let e : j + suc i ≡ suc j + i = omega arith in subst (λ (a : ℕ). may a (get_or ks i 0) ≡ true) e s.1)

options_now : (m : ℕ) (may : ℕ → ℕ → Bool) (j k : ℕ) (ks : List ℕ) → AreOptions m may j (k ∷ ks) → (k < m) × (may j k ≡ true)
options_now m may j k ks h = let s = h 0 (omega arith) in
    (s.0, let e : j + 0 ≡ j = omega arith in subst (λ (a : ℕ). may a k ≡ true) e s.1)

pub found_choice : (m : ℕ) (may : ℕ → ℕ → Bool) (j n : ℕ) (p : List ℕ → Bool) → some_choice m may j n p ≡ true → (ks : List ℕ) × (length ks ≡ n) × AreOptions m may j ks × (p ks ≡ true)
found_choice m may j zero p h = ([], refl, (λ i l. absurd (omega arith)), h)
found_choice m may j (suc n) p h =
    let rest : ℕ → Bool = λ k. some_choice m may (suc j) n (λ ks. p (k ∷ ks)) in
    let r = found_below m (λ k. may j k && rest k) h in
    let k = r.0 in
    let s = found_choice m may (suc j) n (λ ks. p (k ∷ ks)) (right (may j k) (rest k) r.2) in
    (k ∷ s.0, ap suc s.1, options_first m may j k s.0 r.1 (left (may j k) (rest k) r.2) s.2, s.3)

pub choice_found : (m : ℕ) (may : ℕ → ℕ → Bool) (j n : ℕ) (p : List ℕ → Bool) (ks : List ℕ) → length ks ≡ n → AreOptions m may j ks → p ks ≡ true → some_choice m may j n p ≡ true
choice_found m may j zero p [] l h e = e
choice_found m may j zero p (k ∷ ks) l h e = absurd (omega arith)
choice_found m may j (suc n) p [] l h e = absurd (omega arith)
choice_found m may j (suc n) p (k ∷ ks) l h e =
    let rest : ℕ → Bool = λ i. some_choice m may (suc j) n (λ is. p (i ∷ is)) in
    let now = options_now m may j k ks h in
    below_found m (λ i. may j i && rest i) k now.0
    (both (may j k) (rest k) now.1 (choice_found m may (suc j) n (λ is. p (k ∷ is)) ks (omega arith) (options_later m may j k ks h) e))

pub options_from_zero : (m : ℕ) (may : ℕ → ℕ → Bool) (ks : List ℕ) → ((i : ℕ) → i < length ks → (get_or ks i 0 < m) × (may i (get_or ks i 0) ≡ true)) → AreOptions m may 0 ks
options_from_zero m may ks h i l = let e : i ≡ 0 + i = omega arith in ((h i l).0, subst (λ (a : ℕ). may a (get_or ks i 0) ≡ true) e (h i l).1)

pub options_at_zero : (m : ℕ) (may : ℕ → ℕ → Bool) (ks : List ℕ) → AreOptions m may 0 ks → (i : ℕ) → i < length ks → (get_or ks i 0 < m) × (may i (get_or ks i 0) ≡ true)
options_at_zero m may ks h i l = let e : 0 + i ≡ i = omega arith in ((h i l).0, subst (λ (a : ℕ). may a (get_or ks i 0) ≡ true) e (h i l).1)
