-- The search for an accepted state in the set of a label.
use Rattle.std.proofs.Common.{◌≡◌, ℕ, zero, suc, ◌+◌, ◌/◌, ◌%◌, ◌<◌, ◌≤◌, min, List, take, length, Bool, true, false, ◌&&◌, ◌||◌, ◌==◌, refl, ap, sym, ◌∙◌, arith, ⊎_elim}
use Rattle.std.proofs.lemmas.Bool.{cases_lt}
use Rattle.std.proofs.lemmas.List.{take_all, get_or-take}
use Rattle.std.specs.Int.{bit_at}
use Rattle.fort_tables.specs.BitRows.{words_for}
use Rattle.fort_tables.specs.Projections.{some_below, has_state}

-- as many words as the states need have the bits of the whole row
pub front_state : (w : List ℕ) (m n q : ℕ) → m ≡ min (length w) (words_for n + 2) → q < n → has_state (take m w) q ≡ has_state w q
front_state w m n q e l = ⊎_elim
    (λ (s : length w < words_for n + 2). ap (λ xs. has_state xs q) (take_all m w (omega arith)))
    (λ (s : words_for n + 2 ≤ length w). let less : (128 + q) / 64 < m = omega arith in ap (λ x. bit_at x ((128 + q) % 64) == 1) (get_or-take m w ((128 + q) / 64) 0 less))
    (cases_lt (length w) (words_for n + 2))

pub none_below : (n : ℕ) (p : ℕ → Bool) → ((k : ℕ) → k < n → p k ≡ false) → some_below n p ≡ false
none_below zero p h = refl
none_below (suc n) p h =
    let a = none_below n p (λ k l. h k (omega arith)) in
    let b = h n (omega arith) in
    λ i. a i || b i

and_false : (a b : Bool) → b ≡ false → (a && b) ≡ false
and_false true b e = e
and_false false b e = refl

-- states that the front of the row hasn't are not accepted
pub none_to : (w set : List ℕ) (accepting : ℕ → Bool) (n from to : ℕ) → ((q : ℕ) → q < n → has_state set q ≡ has_state w q) → ((q : ℕ) → q < from → (has_state w q && accepting q) ≡ false)
    → ((q : ℕ) → from ≤ q → q < to → has_state set q ≡ false) → (q : ℕ) → q < to → q < n → (has_state w q && accepting q) ≡ false
none_to w set accepting n from to same low none q l m = ⊎_elim
    (λ (s : q < from). low q s)
    (λ (s : from ≤ q). ap (λ b. b && accepting q) (sym (same q m) ∙ none q s l))
    (cases_lt q from)

-- nor is the next one that it has
pub none_past : (w set : List ℕ) (accepting : ℕ → Bool) (n from k : ℕ) → ((q : ℕ) → q < n → has_state set q ≡ has_state w q) → ((q : ℕ) → q < from → (has_state w q && accepting q) ≡ false)
    → ((q : ℕ) → from ≤ q → q < k → has_state set q ≡ false) → k < n → accepting k ≡ false → (q : ℕ) → q < k + 1 → (has_state w q && accepting q) ≡ false
none_past w set accepting n from k same low none l not q m = ⊎_elim
    (λ (s : q < k). none_to w set accepting n from k same low none q s (omega arith))
    (λ (s : k ≤ q). let e : q ≡ k = omega arith in and_false (has_state w q) (accepting q) (ap accepting e ∙ not))
    (cases_lt q k)
