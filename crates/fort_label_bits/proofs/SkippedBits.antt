-- The bits of a label that are off up to the lowest one that is on in a word.
use Rattle.std.proofs.Common.{◌≡◌, ℕ, zero, suc, ◌+◌, ◌-◌, ◌*◌, ◌/◌, ◌%◌, ◌^◌, ◌<◌, ◌≤◌, ◌==◌, w64, List, get_or, ap, sym, ◌∙◌, arith}
use Rattle.std.proofs.lemmas.Nat.{pow-add}
use Rattle.std.proofs.lemmas.Nat.Bits.{bit_at-trailing_zeros, bit_at-zero}
use Rattle.std.proofs.Math.Nat.{div-div-eq-div-mul}
use Rattle.std.specs.Int.{bit_at, trailing_zeros}
use Rattle.std.specs.Slice.Scan.{HoldsNowhere}
use Rattle.fort_tables.specs.BitRows.{has_bit}
use Rattle.fort_tables.proofs.BitRowLaws.{has_bit-drop}
use Rattle.fort_label_bits.specs.RowBits.{bit_of}

bit_at-shift : (n s i : ℕ) → bit_at (n / 2 ^ s) i ≡ bit_at n (s + i)
bit_at-shift n s i = ap (λ m. m % 2) (div-div-eq-div-mul n (2 ^ s) (2 ^ i) ∙ ap (λ m. n / m) (sym (pow-add 2 s i)))

has_bit-in : (w : List ℕ) (k r : ℕ) → r < 64 → has_bit w (64 * k + r) ≡ (bit_at (get_or w k 0) r == 1)
has_bit-in w k r l =
    let a : (64 * k + r) / 64 ≡ k = omega arith in
    let b : (64 * k + r) % 64 ≡ r = omega arith in
    ap (λ x. bit_at (get_or w x 0) ((64 * k + r) % 64) == 1) a ∙ ap (λ x. bit_at (get_or w k 0) x == 1) b

below_lowest : (n i : ℕ) → n < 2 ^ 64 → i < trailing_zeros w64 n → bit_at n i ≡ 0
below_lowest zero i l h = bit_at-zero i
below_lowest (suc n) i l h = (bit_at-trailing_zeros w64 (suc n) (omega arith) l).2 i h

pub none_skipped : (w : List ℕ) (bit n m : ℕ) → n < 2 ^ 64 → n ≡ get_or w (1 + bit / 64) 0 / 2 ^ (bit % 64) → m ≤ trailing_zeros w64 n → m ≤ 64 - bit % 64
    → HoldsNowhere (λ k. bit_of k w) bit (bit + m)
none_skipped w bit n m small e a b k l h =
    let word = get_or w (1 + bit / 64) 0 in
    let s = bit % 64 in
    let j = k - bit in
    let at : 64 * 1 + k ≡ 64 * (1 + bit / 64) + (bit % 64 + (k - bit)) = omega arith in
    let inside : bit % 64 + (k - bit) < 64 = omega (arith, h, b, l) in
    let low : k - bit < trailing_zeros w64 n = omega (arith, h, a, l) in
    has_bit-drop 1 w k
    ∙ (ap (has_bit w) at
    ∙ (has_bit-in w (1 + bit / 64) (s + j) inside
    ∙ (ap (λ x. x == 1) (sym (bit_at-shift word s j)) ∙ (ap (λ x. bit_at x j == 1) (sym e) ∙ ap (λ x. x == 1) (below_lowest n j small low)))))
