-- Results for the crates above, on bits of rows of words: which ones a row of given bits has, what setting one does, and that rows with equal bits are equal.
use Rattle.std.proofs.Common.{◌≡◌, ◌≢◌, ℕ, zero, suc, ◌+◌, ◌*◌, ◌/◌, ◌%◌, ◌^◌, ◌<◌, ◌≤◌, List, [], ◌∷◌, length, drop, get_or, set, bit_or, w64, Bool, true, false, ◌||◌, ◌==◌, if◌then◌else◌, refl, ap, sym, ◌∙◌, arith, eq-eqb, get_or-set_same, get_or-set_other, ⊎_elim}
use Rattle.std.proofs.Math.Nat.{pow-suc}
use Rattle.std.proofs.lemmas.Bool.{cases_eq}
use Rattle.std.proofs.lemmas.List.{ext_get_or, get_or_past}
use Rattle.std.proofs.lemmas.Nat.Bits.{bit_at_lowest, bit_at-suc, bit_at-lt, bit_at-zero, same_from_bits_below, bit_at_set_same, bit_at_set_other}
use Rattle.std.specs.Int.{bit_at}
use Rattle.fort_tables.specs.BitRows.{AreWords, has_bit, word_of, bit_row, words_for}
use Rattle.fort_tables.proofs.TupleLaws.{length-tabulate, get_or-tabulate, tabulate_same}
use Rattle.fort_tables.proofs.EqualTests.{test_from_apart}

bit_number : (b : Bool) → (if b then 1 else 0) < 2
bit_number true = omega arith
bit_number false = omega arith

bit_test : (b : Bool) → ((if b then 1 else 0) == 1) ≡ b
bit_test true = refl
bit_test false = refl

-- the bits of one word
pub word_small : (n : ℕ) (p : ℕ → Bool) → word_of n p < 2 ^ n
word_small zero p = omega arith
word_small (suc n) p = omega (arith, word_small n (λ i. p (suc i)), bit_number (p 0), pow-suc 2 n)

pub bit_at-word_of : (n : ℕ) (p : ℕ → Bool) (i : ℕ) → i < n → bit_at (word_of n p) i ≡ (if p i then 1 else 0)
bit_at-word_of zero p i h = absurd (omega arith)
bit_at-word_of (suc n) p zero h =
    let b = bit_number (p 0) in
    let w = word_of n (λ i. p (suc i)) in
    let x : ((if p 0 then 1 else 0) + 2 * w) % 2 ≡ (if p 0 then 1 else 0) = omega (arith, b) in
    bit_at_lowest (word_of (suc n) p) ∙ x
bit_at-word_of (suc n) p (suc i) h =
    let b = bit_number (p 0) in
    let w = word_of n (λ i. p (suc i)) in
    let x : ((if p 0 then 1 else 0) + 2 * w) / 2 ≡ w = omega (arith, b) in
    bit_at-suc (word_of (suc n) p) i ∙ (ap (λ y. bit_at y i) x ∙ bit_at-word_of n (λ i. p (suc i)) i (omega arith))

word_same : (n : ℕ) (p r : ℕ → Bool) → ((i : ℕ) → i < n → p i ≡ r i) → word_of n p ≡ word_of n r
word_same zero p r h = refl
word_same (suc n) p r h =
    let a = h 0 (omega arith) in
    let b = word_same n (λ i. p (suc i)) (λ i. r (suc i)) (λ i l. h (suc i) (omega arith)) in
    λ z. (if a z then 1 else 0) + 2 * b z

-- a bit behind the first word
pub has_bit-later : (a : ℕ) (w : List ℕ) (q : ℕ) → has_bit (a ∷ w) (64 + q) ≡ has_bit w q
has_bit-later a w q =
    let i : (64 + q) / 64 ≡ suc (q / 64) = omega arith in
    let j : (64 + q) % 64 ≡ q % 64 = omega arith in
    ap (λ k. bit_at (get_or (a ∷ w) k 0) ((64 + q) % 64) == 1) i ∙ ap (λ k. bit_at (get_or w (q / 64) 0) k == 1) j

pub has_bit-past : (w : List ℕ) (q : ℕ) → length w ≤ q / 64 → has_bit w q ≡ false
has_bit-past w q h = ap (λ x. bit_at x (q % 64) == 1) (get_or_past w (q / 64) 0 h) ∙ ap (λ x. x == 1) (bit_at-zero (q % 64))

pub has_bit-drop : (k : ℕ) (w : List ℕ) (q : ℕ) → has_bit (drop k w) q ≡ has_bit w (64 * k + q)
has_bit-drop zero w q = let e : q ≡ 64 * 0 + q = omega arith in ap (has_bit w) e
has_bit-drop (suc k) [] q =
    let none : List ℕ = [] in
    has_bit-past none q (omega arith) ∙ sym (has_bit-past none (64 * suc k + q) (omega arith))
has_bit-drop (suc k) (a ∷ w) q =
    let e : 64 + (64 * k + q) ≡ 64 * suc k + q = omega arith in
    has_bit-drop k w q ∙ (sym (has_bit-later a w (64 * k + q)) ∙ ap (has_bit (a ∷ w)) e)

pub words_enough : (n q : ℕ) → q < n → q < 64 * words_for n
words_enough n q h = omega arith

-- the bits of a row of bits
pub length-bit_row : (n : ℕ) (p : ℕ → Bool) → length (bit_row n p) ≡ words_for n
length-bit_row n p = length-tabulate (words_for n) (λ i. word_of 64 (λ b. p (64 * i + b)))

pub has_bit-bit_row : (n : ℕ) (p : ℕ → Bool) (q : ℕ) → q < 64 * words_for n → has_bit (bit_row n p) q ≡ p q
has_bit-bit_row n p q l =
    let i : q / 64 < words_for n = omega arith in
    let r : q % 64 < 64 = omega arith in
    let s : 64 * (q / 64) + q % 64 ≡ q = omega arith in
    ap (λ w. bit_at w (q % 64) == 1) (get_or-tabulate (words_for n) (λ i. word_of 64 (λ b. p (64 * i + b))) (q / 64) 0 i)
    ∙ (ap (λ x. x == 1) (bit_at-word_of 64 (λ b. p (64 * (q / 64) + b)) (q % 64) r)
    ∙ (bit_test (p (64 * (q / 64) + q % 64)) ∙ ap p s))

pub has_bit-bit_row_past : (n : ℕ) (p : ℕ → Bool) (q : ℕ) → 64 * words_for n ≤ q → has_bit (bit_row n p) q ≡ false
has_bit-bit_row_past n p q h = has_bit-past (bit_row n p) q (omega (arith, length-bit_row n p))

pub bit_row_same : (n : ℕ) (p r : ℕ → Bool) → ((q : ℕ) → q < 64 * words_for n → p q ≡ r q) → bit_row n p ≡ bit_row n r
bit_row_same n p r h = tabulate_same (words_for n) _ _ (λ i l. word_same 64 (λ b. p (64 * i + b)) (λ b. r (64 * i + b)) (λ b m. h (64 * i + b) (omega arith)))

-- a bit is 1 or 0
bit_value : (x y : ℕ) → x < 2 → y < 2 → (x == 1) ≡ (y == 1) → x ≡ y
bit_value zero zero l m h = refl
bit_value zero (suc zero) l m h = absurd cc
bit_value zero (suc (suc y)) l m h = absurd (omega arith)
bit_value (suc zero) zero l m h = absurd cc
bit_value (suc zero) (suc zero) l m h = refl
bit_value (suc zero) (suc (suc y)) l m h = absurd (omega arith)
bit_value (suc (suc x)) y l m h = absurd (omega arith)

pub AreWords-bit_row : (n : ℕ) (p : ℕ → Bool) → AreWords (bit_row n p)
AreWords-bit_row n p i l =
    let m : i < words_for n = omega (arith, length-bit_row n p) in
    let small = word_small 64 (λ b. p (64 * i + b)) in
    omega (arith, get_or-tabulate (words_for n) (λ i. word_of 64 (λ b. p (64 * i + b))) i 0 m)

-- rows of as many words with equal bits are equal
pub same_from_bits : (v w : List ℕ) → length v ≡ length w → AreWords v → AreWords w → ((q : ℕ) → q < 64 * length v → has_bit v q ≡ has_bit w q) → v ≡ w
same_from_bits v w e small also h =
    ext_get_or 0 v w e
    (λ i l. same_from_bits_below 64 (get_or v i 0) (get_or w i 0) (small i l) (also i (omega arith))
    (λ j m.
    let q = 64 * i + j in
    let d : q / 64 ≡ i = omega arith in
    let r : q % 64 ≡ j = omega arith in
    let t : (bit_at (get_or v i 0) j == 1) ≡ (bit_at (get_or w i 0) j == 1) =
    (λ z. bit_at (get_or v (sym d z) 0) (sym r z) == 1) ∙ (h q (omega arith) ∙ (λ z. bit_at (get_or w (d z) 0) (r z) == 1)) in
    bit_value (bit_at (get_or v i 0) j) (bit_at (get_or w i 0) j) (bit_at-lt (get_or v i 0) j) (bit_at-lt (get_or w i 0) j) t))

-- words with these bits are the row of bits
pub bit_row_is : (n : ℕ) (p : ℕ → Bool) (w : List ℕ) → length w ≡ words_for n → AreWords w → ((q : ℕ) → q < 64 * words_for n → has_bit w q ≡ p q) → w ≡ bit_row n p
bit_row_is n p w e small h =
    same_from_bits w (bit_row n p) (e ∙ sym (length-bit_row n p)) small (AreWords-bit_row n p)
    (λ q l. let m : q < 64 * words_for n = omega arith in h q m ∙ sym (has_bit-bit_row n p q m))

-- one bit set
pub has_bit-set : (w : List ℕ) (q i : ℕ) → q / 64 < length w → has_bit (set w (q / 64) (bit_or (get_or w (q / 64) 0) (1 * 2 ^ (q % 64) % 18446744073709551616))) i ≡ (q == i || has_bit w i)
has_bit-set w q i l =
    let a = q / 64 in
    let new = bit_or (get_or w a 0) (1 * 2 ^ (q % 64) % 18446744073709551616) in
    let small : q % 64 < 64 = omega arith in
    ⊎_elim
    (λ (e : i / 64 ≡ a).
    let at : get_or (set w a new) (i / 64) 0 ≡ new = ap (λ k. get_or (set w a new) k 0) e ∙ get_or-set_same w a new 0 l in
    ⊎_elim
    (λ (f : i % 64 ≡ q % 64).
    let same : q ≡ i = omega (arith, e, f) in
    ap (λ x. bit_at x (i % 64) == 1) at
    ∙ (ap (λ k. bit_at new k == 1) f
    ∙ (ap (λ x. x == 1) (bit_at_set_same w64 (get_or w a 0) (q % 64) small)
    ∙ sym (ap (λ b. b || has_bit w i) (eq-eqb q i same)))))
    (λ (f : i % 64 ≢ q % 64).
    let other : q ≡ i → ⊥ = λ s. f (ap (λ k. k % 64) (sym s)) in
    ap (λ x. bit_at x (i % 64) == 1) at
    ∙ (ap (λ x. x == 1) (bit_at_set_other w64 (get_or w a 0) (q % 64) small (i % 64) f)
    ∙ (ap (λ k. bit_at (get_or w k 0) (i % 64) == 1) (sym e)
    ∙ sym (ap (λ b. b || has_bit w i) (test_from_apart q i other)))))
    (cases_eq (i % 64) (q % 64)))
    (λ (e : i / 64 ≢ a).
    let other : q ≡ i → ⊥ = λ s. e (ap (λ k. k / 64) (sym s)) in
    ap (λ x. bit_at x (i % 64) == 1) (get_or-set_other w a (i / 64) new 0 e)
    ∙ sym (ap (λ b. b || has_bit w i) (test_from_apart q i other)))
    (cases_eq (i / 64) a)
