-- How many numbers below a number pass a test.
use Rattle.std.proofs.Common.{◌≡◌, ℕ, zero, suc, ◌<◌, ◌≤◌, Bool, true, false, if◌then◌else◌, ⊎_elim, refl, ap, arith, subst}
use Rattle.std.proofs.lemmas.Bool.{cases_lt}
use Rattle.fort_tables.specs.Ranks.{count_below}

abbrev bit_of : Bool → ℕ
bit_of b = if b then 1 else 0

bit_small : (b : Bool) → bit_of b ≤ 1
bit_small true = omega arith
bit_small false = omega arith

bit_true : (b : Bool) → b ≡ true → bit_of b ≡ 1
bit_true true h = refl
bit_true false h = absurd cc

bit_full : (b : Bool) → 1 ≤ bit_of b → b ≡ true
bit_full true h = refl
bit_full false h = absurd (omega arith)

bit_more : (a b : Bool) → (a ≡ true → b ≡ true) → bit_of a ≤ bit_of b
bit_more true b h = omega (arith, bit_true b (h refl))
bit_more false b h = omega arith

pub count_below_at_most : (n : ℕ) (p : ℕ → Bool) → count_below n p ≤ n
count_below_at_most zero p = omega arith
count_below_at_most (suc n) p = omega (arith, count_below_at_most n p, bit_small (p n))

-- where as many pass as there are, all pass
pub count_below_all : (n : ℕ) (p : ℕ → Bool) → n ≤ count_below n p → (k : ℕ) → k < n → p k ≡ true
count_below_all zero p h k l = absurd (omega arith)
count_below_all (suc n) p h k l = ⊎_elim
    (λ (m : k < n). count_below_all n p (omega (arith, bit_small (p n))) k m)
    (λ (m : n ≤ k). let e : n ≡ k = omega arith in subst (λ (i : ℕ). p i ≡ true) e (bit_full (p n) (omega (arith, count_below_at_most n p))))
    (cases_lt k n)

pub count_below_more : (n : ℕ) (p q : ℕ → Bool) → ((k : ℕ) → k < n → p k ≡ true → q k ≡ true) → count_below n p ≤ count_below n q
count_below_more zero p q h = omega arith
count_below_more (suc n) p q h = omega (arith, count_below_more n p q (λ k l. h k (omega arith)), bit_more (p n) (q n) (h n (omega arith)))

-- one more passes
pub count_below_one_more : (n : ℕ) (p q : ℕ → Bool) (i : ℕ) → i < n → p i ≡ false → q i ≡ true → ((k : ℕ) → k < n → p k ≡ true → q k ≡ true) → count_below n p < count_below n q
count_below_one_more zero p q i l a b h = absurd (omega arith)
count_below_one_more (suc n) p q i l a b h = ⊎_elim
    (λ (m : i < n). omega (arith, count_below_one_more n p q i m a b (λ k d. h k (omega arith)), bit_more (p n) (q n) (h n (omega arith))))
    (λ (m : n ≤ i).
    let e : i ≡ n = omega arith in
    let x : bit_of (p n) ≡ 0 = ap bit_of (subst (λ (k : ℕ). p k ≡ false) e a) in
    let y : bit_of (q n) ≡ 1 = ap bit_of (subst (λ (k : ℕ). q k ≡ true) e b) in
    omega (arith, count_below_more n p q (λ k d. h k (omega arith)), x, y))
    (cases_lt i n)
