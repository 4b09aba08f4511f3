-- Pure states, found one after another.
use Rattle.std.proofs.Common.{◌≡◌, ℕ, suc, ◌+◌, ◌<◌, ◌≤◌, ◌==◌, ◌^◌, ◌*◌, ◌%◌, Result, Err, nat_cmp, List, [], ◌∷◌, ◌++◌, length, get_or, Bool, true, false, ⊎_elim, refl, ap, sym, ◌∙◌, arith, eq-eqb}
use Rattle.std.proofs.lemmas.Bool.{cases_lt, eqb-true, or_cases}
use Rattle.std.proofs.lemmas.List.Folds.{list_any_at}
use Rattle.std.specs.List.{list_any}
use Rattle.std.proofs.lemmas.List.{length_push, get_or_push, get_or_append_left}
use Rattle.std.proofs.lemmas.List.Sorted.{searched}
use Rattle.std.proofs.Math.Pow.{pow-lt}
use Rattle.std.specs.List.Sorted.{IsBinarySearchResult}
use Rattle.std.specs.Slice.Scan.{HoldsNowhere}
use Rattle.fort_tables.specs.Tables.{Table}
use Rattle.fort_tables.proofs.EqualTests.{test_from_apart}
use Rattle.fort_tables.specs.Projections.{ArePureBelow, ArePure, is_pure}
use Rattle.fort_projections.specs.Choices.{IsNext}

by_truth : (b : Bool) (A : Type 0) → (b ≡ true → A) → (b ≡ false → A) → A
by_truth true A h k = h refl
by_truth false A h k = k refl

true_isnt_false : (A : Type 0) (b : Bool) → b ≡ true → b ≡ false → A
true_isnt_false A true h k = absurd cc
true_isnt_false A false h k = absurd cc

-- a number that is in the list has a place there
place_in : (q : ℕ) (xs : List ℕ) → list_any (λ k. k == q) xs ≡ true → (i : ℕ) × (i < length xs) × (get_or xs i 0 ≡ q)
place_in q [] h = absurd cc
place_in q (x ∷ xs) h = ⊎_elim
    (λ (e : (x == q) ≡ true). (0, omega arith, eqb-true x q e))
    (λ e. let r = place_in q xs e in (suc r.0, omega (arith, r.1), r.2))
    (or_cases (x == q) (list_any (λ k. k == q) xs) h)

in_at : (q : ℕ) (xs : List ℕ) (i : ℕ) → i < length xs → get_or xs i 0 ≡ q → list_any (λ k. k == q) xs ≡ true
in_at q xs i l e = list_any_at (λ k. k == q) xs i 0 l (eq-eqb (get_or xs i 0) q e)

-- the list's next number is the next pure state
pub next_listed : (body : Table) (c : ℕ) (states : List ℕ) (from place : ℕ) → ArePure body c states → ((k : ℕ) → k < place → get_or states k 0 < from) → ((k : ℕ) → place ≤ k → k < length states → from ≤ get_or states k 0) → place < length states → IsNext (is_pure body c) from (get_or states place 0)
next_listed body c states from place h below above l = record {
  low = above place (omega arith) l;
  hit = (h.each place l).1;
  before = λ q a b. by_truth (is_pure body c q) (is_pure body c q ≡ false)
      (λ p.
      let at = place_in q states (h.all q (omega (arith, (h.each place l).0)) p) in
      absurd (⊎_elim (λ (m : at.0 < place). omega (arith, below at.0 m, at.2))
      (λ (m : place ≤ at.0). ⊎_elim (λ (o : place < at.0). omega (arith, h.ascending place at.0 o at.1, at.2))
      (λ (o : at.0 ≤ place). let same : at.0 ≡ place = omega arith in omega (arith, at.2, ap (λ i. get_or states i 0) same))
      (cases_lt place at.0))
      (cases_lt at.0 place)))
      (λ p. p);
}

pub none_listed : (body : Table) (c : ℕ) (states : List ℕ) (from place : ℕ) → ArePure body c states → ((k : ℕ) → k < place → get_or states k 0 < from) → length states ≤ place → HoldsNowhere (is_pure body c) from (length body.presences)
none_listed body c states from place h below l q a b = by_truth (is_pure body c q) (is_pure body c q ≡ false)
    (λ p.
    let at = place_in q states (h.all q b p) in
    absurd (omega (arith, below at.0 (omega (arith, at.1)), at.2)))
    (λ p. p)

-- the place that a binary search gives, there or not
pub searched_below : (xs : List ℕ) (x place : ℕ) (r : Result ℕ ℕ) → IsBinarySearchResult (λ y. nat_cmp y x) xs r → r ≡ Err place → ((i j : ℕ) → i < j → j < length xs → get_or xs i 0 < get_or xs j 0)
    → ((k : ℕ) → k < place → get_or xs k 0 < x) × ((k : ℕ) → place ≤ k → k < length xs → x ≤ get_or xs k 0)
searched_below xs x place r h e up =
    let weak : (i j : ℕ) → i ≤ j → j < length xs → get_or xs i 0 ≤ get_or xs j 0 = λ i j l m.
    ⊎_elim (λ (n : i < j). omega (arith, up i j n m)) (λ (n : j ≤ i). let same : i ≡ j = omega arith in omega (arith, ap (λ k. get_or xs k 0) same)) (cases_lt i j) in
    let s = rw e at (searched xs x r h weak) in
    (s.1, λ k l m. omega (arith, s.2 k l m))

-- one more state
pub pure_none : (body : Table) (c : ℕ) → ArePureBelow body c 0 []
pure_none body c = record { each = λ i l. absurd (omega arith); all = λ q l. absurd (omega arith); ascending = λ i j l m. absurd (omega arith) }

pub pure_left : (body : Table) (c n : ℕ) (states : List ℕ) → ArePureBelow body c n states → is_pure body c n ≡ false → ArePureBelow body c (n + 1) states
pure_left body c n states h p = record {
  each = λ i l. (omega (arith, (h.each i l).0), (h.each i l).1);
  all = λ q l r. ⊎_elim (λ (m : q < n). h.all q m r)
      (λ (m : n ≤ q). let same : q ≡ n = omega arith in true_isnt_false _ (is_pure body c q) r (ap (is_pure body c) same ∙ p)) (cases_lt q n);
  ascending = h.ascending;
}

pub pure_push : (body : Table) (c n : ℕ) (states : List ℕ) → ArePureBelow body c n states → is_pure body c n ≡ true → ArePureBelow body c (n + 1) (states ++ n ∷ [])
pure_push body c n states h p =
    let all = states ++ n ∷ [] in
    let len : length all ≡ suc (length states) = omega (arith, length_push states n) in
    let old : (i : ℕ) → i < length states → get_or all i 0 ≡ get_or states i 0 = λ i l. get_or_append_left states (n ∷ []) 0 i l in
    let new : (i : ℕ) → length states ≡ i → get_or all i 0 ≡ n = λ i e. get_or_push states n 0 i e in
    record {
      each = λ i l. ⊎_elim
          (λ (m : i < length states). (omega (arith, old i m, (h.each i m).0), ap (is_pure body c) (old i m) ∙ (h.each i m).1))
          (λ (m : length states ≤ i). let e = new i (omega arith) in (omega (arith, e), ap (is_pure body c) e ∙ p))
          (cases_lt i (length states));
      all = λ q l r. ⊎_elim
          (λ (m : q < n). let s = place_in q states (h.all q m r) in in_at q all s.0 (omega (arith, s.1)) (old s.0 s.1 ∙ s.2))
          (λ (m : n ≤ q). in_at q all (length states) (omega arith) (new (length states) refl ∙ (let e : n ≡ q = omega arith in e)))
          (cases_lt q n);
      ascending = λ i j l m. ⊎_elim
          (λ (o : j < length states). omega (arith, old i (omega arith), old j o, h.ascending i j l o))
          (λ (o : length states ≤ j). let s : i < length states = omega arith in omega (arith, old i s, (h.each i s).0, new j (omega arith)))
          (cases_lt j (length states));
    }

-- the presence of one column alone, as the program computes it
pub alone_is : (c : ℕ) → c < 16 → 1 * 2 ^ c % 65536 ≡ 2 ^ c
alone_is c l = let e : 2 ^ c < 2 ^ 16 = pow-lt l in omega arith

pub pure_tested : (body : Table) (c q n : ℕ) → c < body.columns → body.columns ≤ 16 → n ≡ get_or body.presences q 0 → n ≡ 1 * 2 ^ c % 65536 → is_pure body c q ≡ true
pure_tested body c q n low narrow e t = eq-eqb (get_or body.presences q 0) (2 ^ c) (sym e ∙ (t ∙ alone_is c (omega arith)))

pub impure_tested : (body : Table) (c q n : ℕ) → c < body.columns → body.columns ≤ 16 → n ≡ get_or body.presences q 0 → (n ≡ 1 * 2 ^ c % 65536 → ⊥) → is_pure body c q ≡ false
impure_tested body c q n low narrow e t = test_from_apart (get_or body.presences q 0) (2 ^ c) (λ s. t (e ∙ (s ∙ sym (alone_is c (omega arith)))))
