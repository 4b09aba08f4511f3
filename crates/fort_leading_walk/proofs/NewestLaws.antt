-- Where the newest state is among the leaders of some places.
use Rattle.std.proofs.Common.{◌≡◌, ℕ, zero, suc, ◌+◌, ◌-◌, ◌<◌, ◌≤◌, List, [], ◌∷◌, length, drop, get_or, Bool, true, false, ◌||◌, ◌==◌, nat_lt, refl, ap, sym, ◌∙◌, arith, ⊎_elim, drop-cons}
use Rattle.std.specs.List.{list_any}
use Rattle.std.proofs.lemmas.Bool.{cases_lt, lt-ltb}
use Rattle.std.proofs.lemmas.Bool.Decides.{nat_tests}
use Rattle.std.proofs.lemmas.List.{get_or-drop, length-drop, drop-drop}
use Rattle.std.proofs.lemmas.List.Folds.{list_any_at}
use Rattle.fort_tables.proofs.EqualTests.{test_from_apart}
use Rattle.fort_leading_walk.specs.Choices.{IsLastIn, is_among, is_in_some, IsUntil}

pub at_place : {A : Type 0} (xs : List A) (i : ℕ) (d : A) → i < length xs → drop i xs ≡ get_or xs i d ∷ drop (i + 1) xs
at_place xs i d h = let e : suc i ≡ i + 1 = omega arith in drop-cons xs i d h ∙ ap (λ n. get_or xs i d ∷ drop n xs) e

pub neither : (a b : Bool) → (a || b) ≡ false → (a ≡ false) × (b ≡ false)
neither true b h = absurd cc
neither false b h = (refl, h)

or_false : (b : Bool) → b ≡ (b || false)
or_false true = refl
or_false false = refl

-- the test of the last state finds the newest one
pub last_among : (newest : ℕ) (qs : List ℕ) → IsLastIn newest qs → 0 < length qs → (get_or qs (length qs - 1) 0 == newest) ≡ is_among newest qs
last_among newest [] last l = absurd (omega arith)
last_among newest (q ∷ []) last l = or_false (q == newest)
last_among newest (q ∷ r ∷ qs) last l =
    let e : length (q ∷ r ∷ qs) - 1 ≡ suc (length (r ∷ qs) - 1) = omega arith in
    let other : (q == newest) ≡ false = test_from_apart q newest (last 0 (omega arith)) in
    ap (λ n. get_or (q ∷ r ∷ qs) n 0 == newest) e
    ∙ (last_among newest (r ∷ qs) (λ k h. last (suc k) (omega arith)) (omega arith)
    ∙ sym (ap (λ b. b || is_among newest (r ∷ qs)) other))

none_drop : {A : Type 0} (p : A → Bool) (xs : List A) (n : ℕ) → list_any p xs ≡ false → list_any p (drop n xs) ≡ false
none_drop p xs zero h = h
none_drop p [] (suc n) h = refl
none_drop p (x ∷ xs) (suc n) h = none_drop p xs n (neither (p x) (list_any p xs) h).1

in_none_behind : (newest : ℕ) (lists : List (List ℕ)) (until j : ℕ) → is_in_some newest (drop until lists) ≡ false → until ≤ j → is_in_some newest (drop j lists) ≡ false
in_none_behind newest lists until j none l =
    let e : j ≡ until + (j - until) = omega arith in
    ap (λ n. is_in_some newest (drop n lists)) e
    ∙ (ap (is_in_some newest) (sym (drop-drop (j - until) until lists)) ∙ none_drop (is_among newest) (drop until lists) (j - until) none)

in_some_before : (newest : ℕ) (lists : List (List ℕ)) (until j : ℕ) → until ≤ length lists → is_among newest (get_or lists (until - 1) []) ≡ true → j < until → is_in_some newest (drop j lists) ≡ true
in_some_before newest lists until j l here b =
    let e : j + (until - 1 - j) ≡ until - 1 = omega arith in
    let place = get_or-drop j lists (until - 1 - j) [] ∙ ap (λ n. get_or lists n []) e in
    list_any_at (is_among newest) (drop j lists) (until - 1 - j) [] (omega (arith, length-drop j lists)) (ap (is_among newest) place ∙ here)

not_below : (j until : ℕ) → until ≤ j → nat_lt j until ≡ false
not_below j until l = grind (arith, nat_tests)

pub until_at : (newest : ℕ) (lists : List (List ℕ)) (until : ℕ) → until ≤ length lists → is_in_some newest (drop until lists) ≡ false → (0 < until → is_among newest (get_or lists (until - 1) []) ≡ true) → IsUntil newest lists until
until_at newest lists until l none some = λ j.
    ⊎_elim (λ b. in_some_before newest lists until j l (some (omega arith)) b ∙ sym (lt-ltb j until b))
    (λ b. in_none_behind newest lists until j none b ∙ sym (not_below j until b))
    (cases_lt j until)

-- one place less
pub none_one_less : (newest : ℕ) (lists : List (List ℕ)) (until : ℕ) → 0 < until → until ≤ length lists → is_in_some newest (drop until lists) ≡ false → is_among newest (get_or lists (until - 1) []) ≡ false → is_in_some newest (drop (until - 1) lists) ≡ false
none_one_less newest lists until some l none other =
    let e : until - 1 + 1 ≡ until = omega arith in
    let front = get_or lists (until - 1) [] in
    ap (is_in_some newest) (at_place lists (until - 1) [] (omega arith))
    ∙ (ap (λ n. is_among newest front || is_in_some newest (drop n lists)) e
    ∙ (ap (λ b. b || is_in_some newest (drop until lists)) other ∙ none))
