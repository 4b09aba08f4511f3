-- Lists of known lengths, one behind the other, tell each of them; a row of leaders tells which leaders there are.
use Rattle.std.proofs.Common.{◌≡◌, ℕ, zero, suc, ◌<◌, ◌≤◌, List, ◌++◌, length, take, drop, Bool, true, ◌&&◌, ◌==◌, ⊎_elim, refl, ap, sym, ◌∙◌, arith, eq-eqb}
use Rattle.std.proofs.lemmas.Bool.{cases_lt, eqb-true}
use Rattle.std.proofs.lemmas.List.{length-append}
use Rattle.std.proofs.Math.Seq.{take-append_seam, drop-append_seam}
use Rattle.fort_tables.specs.BitRows.{has_bit}
use Rattle.fort_tables.specs.Laid.{joined_below}
use Rattle.fort_tables.proofs.BitRowLaws.{has_bit-bit_row, words_enough}
use Rattle.fort_tables.proofs.SearchLaws.{both, left, right, found_below, below_found}
use Rattle.fort_operand_keys.specs.ProjectionKeys.{some_led, leader_row}

-- two lists of as many elements, each with one behind it
pub first_same : {A : Type 0} (xs ys us vs : List A) → length xs ≡ length ys → xs ++ us ≡ ys ++ vs → xs ≡ ys
first_same xs ys us vs long same = sym (take-append_seam xs us) ∙ ((λ z. take (long z) (same z)) ∙ take-append_seam ys vs)

pub second_same : {A : Type 0} (xs ys us vs : List A) → length xs ≡ length ys → xs ++ us ≡ ys ++ vs → us ≡ vs
second_same xs ys us vs long same = sym (drop-append_seam xs us) ∙ ((λ z. drop (long z) (same z)) ∙ drop-append_seam ys vs)

joined_long : {A : Type 0} (n : ℕ) (g h : ℕ → List A) → ((k : ℕ) → length (g k) ≡ length (h k)) → length (joined_below n g) ≡ length (joined_below n h)
joined_long zero g h long = refl
joined_long (suc n) g h long = omega (arith, length-append (joined_below n g) (g n), length-append (joined_below n h) (h n), joined_long n g h long, long n)

-- lists of known lengths, one behind the other
pub joined_same : {A : Type 0} (n : ℕ) (g h : ℕ → List A) → ((k : ℕ) → length (g k) ≡ length (h k)) → joined_below n g ≡ joined_below n h → (k : ℕ) → k < n → g k ≡ h k
joined_same zero g h long same k l = absurd (omega arith)
joined_same (suc n) g h long same k l =
    let front = joined_long n g h long in
    ⊎_elim
    (λ (o : k < n). joined_same n g h long (first_same (joined_below n g) (joined_below n h) (g n) (h n) front same) k o)
    (λ (o : n ≤ k).
    let e : k ≡ n = omega arith in
    ap g e ∙ (second_same (joined_below n g) (joined_below n h) (g n) (h n) front same ∙ ap h (sym e)))
    (cases_lt k n)

-- a state below n that passes, with this leader
pub record HasLed (n : ℕ) (leader : ℕ → ℕ) (passes : ℕ → Bool) (r : ℕ) : Type 0 where
  pub state : ℕ
  pub within : state < n
  pub does : passes state ≡ true
  pub leader_is : leader state ≡ r

-- Result: with equal rows, each leader of a state that passes by the one is that of a state that passes by the other
pub led_in_row : (n : ℕ) (leader : ℕ → ℕ) (p r : ℕ → Bool) → leader_row n leader p ≡ leader_row n leader r → (q : ℕ) → q < n → leader q < n → p q ≡ true → HasLed n leader r (leader q)
led_in_row n leader p r same q l low h =
    let m = leader q in
    let bit : some_led n leader p m ≡ some_led n leader r m =
    sym (has_bit-bit_row n (some_led n leader p) m (words_enough n m low)) ∙ (ap (λ w. has_bit w m) same ∙ has_bit-bit_row n (some_led n leader r) m (words_enough n m low)) in
    let there : some_led n leader p m ≡ true = below_found n (λ k. p k && (leader k == m)) q l (both (p q) (leader q == m) h (eq-eqb (leader q) m refl)) in
    let s = found_below n (λ k. r k && (leader k == m)) (sym bit ∙ there) in
    record {
      state = s.0;
      within = s.1;
      does = left (r s.0) (leader s.0 == m) s.2;
      leader_is = eqb-true (leader s.0) m (right (r s.0) (leader s.0 == m) s.2);
    }
