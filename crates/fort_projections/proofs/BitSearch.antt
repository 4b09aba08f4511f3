-- The first set bit from a place on, found in a word that is shifted down.
use Rattle.std.proofs.Common.{◌≡◌, ℕ, ◌+◌, ◌-◌, ◌*◌, ◌/◌, ◌%◌, ◌^◌, ◌<◌, ◌≤◌, ◌==◌, w64, List, length, get_or, Bool, ⊎_elim, ap, sym, ◌∙◌, arith, eq-eqb, subst}
use Rattle.std.proofs.lemmas.Bool.{cases_lt}
use Rattle.std.proofs.lemmas.List.{get_or_past}
use Rattle.std.proofs.lemmas.Nat.{pow-add}
use Rattle.std.proofs.lemmas.Nat.Bits.{bit_at-trailing_zeros, bit_at-zero, bit_at_above}
use Rattle.std.proofs.Math.Nat.{div-div-eq-div-mul, div-le_self}
use Rattle.std.specs.Int.{bit_at, trailing_zeros}
use Rattle.std.specs.Slice.Scan.{HoldsNowhere}
use Rattle.fort_tables.specs.BitRows.{has_bit}
use Rattle.fort_projections.specs.Choices.{IsNext}

bit_at-shift : (n s i : ℕ) → bit_at (n / 2 ^ s) i ≡ bit_at n (s + i)
bit_at-shift n s i = ap (λ m. m % 2) (div-div-eq-div-mul n (2 ^ s) (2 ^ i) ∙ ap (λ m. n / m) (sym (pow-add 2 s i)))

-- bit r of word k
has_bit-in : (w : List ℕ) (k r : ℕ) → r < 64 → has_bit w (64 * k + r) ≡ (bit_at (get_or w k 0) r == 1)
has_bit-in w k r l =
    let a : (64 * k + r) / 64 ≡ k = omega arith in
    let b : (64 * k + r) % 64 ≡ r = omega arith in
    ap (λ x. bit_at (get_or w x 0) ((64 * k + r) % 64) == 1) a ∙ ap (λ x. bit_at (get_or w k 0) x == 1) b

shifted_bit : (w : List ℕ) (k s n i : ℕ) → n ≡ get_or w k 0 / 2 ^ s → s + i < 64 → has_bit w (64 * k + s + i) ≡ (bit_at n i == 1)
shifted_bit w k s n i e l =
    let a : 64 * k + s + i ≡ 64 * k + (s + i) = omega arith in
    ap (has_bit w) a ∙ (has_bit-in w k (s + i) l ∙ (ap (λ x. x == 1) (sym (bit_at-shift (get_or w k 0) s i)) ∙ ap (λ m. bit_at m i == 1) (sym e)))

-- the lowest bit of a word that isn't 0 is within the word
pub inside_word : (w : List ℕ) (k s n : ℕ) → s < 64 → get_or w k 0 < 2 ^ 64 → n ≡ get_or w k 0 / 2 ^ s → (n ≡ 0 → ⊥) → s + trailing_zeros w64 n < 64
inside_word w k s n l small e some =
    let word = get_or w k 0 in
    let less : n ≤ word = subst (λ (m : ℕ). m ≤ word) (sym e) (div-le_self word (2 ^ s)) in
    let pos : 0 < n = omega (arith, some) in
    let low : n < 2 ^ 64 = omega arith in
    let t = bit_at-trailing_zeros w64 n pos low in
    let z = trailing_zeros w64 n in
    ⊎_elim
    (λ (h : s + z < 64). h)
    (λ (h : 64 ≤ s + z).
    let one : bit_at n z ≡ 1 = t.1 in
    let none : bit_at n z ≡ 0 = ap (λ m. bit_at m z) e ∙ (bit_at-shift word s z ∙ bit_at_above word 64 (s + z) small h) in
    absurd (omega (arith, one, none)))
    (cases_lt (s + z) 64)

-- a word that isn't 0 has its lowest bit as the next one
pub hit_in_word : (w : List ℕ) (k s n : ℕ) → s < 64 → get_or w k 0 < 2 ^ 64 → n ≡ get_or w k 0 / 2 ^ s → (n ≡ 0 → ⊥) → IsNext (has_bit w) (64 * k + s) (64 * k + s + trailing_zeros w64 n)
hit_in_word w k s n l small e some =
    let word = get_or w k 0 in
    let less : n ≤ word = subst (λ (m : ℕ). m ≤ word) (sym e) (div-le_self word (2 ^ s)) in
    let pos : 0 < n = omega (arith, some) in
    let low : n < 2 ^ 64 = omega arith in
    let t = bit_at-trailing_zeros w64 n pos low in
    let z = trailing_zeros w64 n in
    let inside = inside_word w k s n l small e some in
    record {
      low = omega arith;
      hit = shifted_bit w k s n z e inside ∙ eq-eqb (bit_at n z) 1 t.1;
      before = λ i a b.
          let j = i - (64 * k + s) in
          let at : i ≡ 64 * k + s + j = omega arith in
          let m : j < z = omega arith in
          ap (has_bit w) at ∙ (shifted_bit w k s n j e (omega (arith, inside, m)) ∙ ap (λ x. x == 1) (t.2 j m));
    }

-- a word that is 0 has none
pub none_in_word : (w : List ℕ) (k s n : ℕ) → n ≡ get_or w k 0 / 2 ^ s → n ≡ 0 → HoldsNowhere (has_bit w) (64 * k + s) (64 * k + 64)
none_in_word w k s n e z i a b =
    let j = i - (64 * k + s) in
    let at : i ≡ 64 * k + s + j = omega arith in
    ap (has_bit w) at ∙ (shifted_bit w k s n j e (omega arith) ∙ (ap (λ m. bit_at m j == 1) z ∙ ap (λ x. x == 1) (bit_at-zero j)))

-- nothing up to a place, and the next one from there
pub next_later : (p : ℕ → Bool) (from at k : ℕ) → from ≤ at → HoldsNowhere p from at → IsNext p at k → IsNext p from k
next_later p from at k l none h = record {
  low = omega (arith, h.low);
  hit = h.hit;
  before = λ i a b. ⊎_elim (λ (m : i < at). none i a m) (λ (m : at ≤ i). h.before i m b) (cases_lt i at);
}

-- behind the last word there is none
pub within_words : (w : List ℕ) (k s n : ℕ) → n ≡ get_or w k 0 / 2 ^ s → (n ≡ 0 → ⊥) → k < length w
within_words w k s n e some =
    ⊎_elim (λ (h : k < length w). h)
    (λ (h : length w ≤ k).
    let z : n ≡ 0 / 2 ^ s = e ∙ ap (λ m. m / 2 ^ s) (get_or_past w k 0 h) in
    absurd (some (omega (arith, z, div-le_self 0 (2 ^ s)))))
    (cases_lt k (length w))
