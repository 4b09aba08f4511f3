-- A bit of a label under a mask is on where it is on in both; so labels that are equal under a mask have equal bits where the mask's are on.
use Rattle.std.proofs.Common.{◌≡◌, ℕ, zero, suc, ◌+◌, ◌/◌, ◌%◌, ◌<◌, min, List, [], ◌∷◌, ◌++◌, length, take, drop, get_or, bit_and, Bool, true, false, ◌&&◌, ◌==◌, refl, ap, sym, ◌∙◌, arith}
use Rattle.std.specs.Int.{bit_at}
use Rattle.std.specs.Int.Bits.{and_zero_l, and_zero_r}
use Rattle.std.proofs.lemmas.Nat.Bits.{bit_at_and, bit_at-lt}
use Rattle.fort_tables.specs.BitRows.{has_bit}
use Rattle.fort_mark_keys.specs.MaskedWords.{masked}

-- the words of the two, and 0 behind the shorter one
word-masked : (v w : List ℕ) (i : ℕ) → get_or (masked v w) i 0 ≡ bit_and (get_or v i 0) (get_or w i 0)
word-masked [] w i = sym (and_zero_l (get_or w i 0))
word-masked (a ∷ v) [] i = sym (and_zero_r (get_or (a ∷ v) i 0))
word-masked (a ∷ v) (b ∷ w) zero = refl
word-masked (a ∷ v) (b ∷ w) (suc i) = word-masked v w i

-- word after word
masked-next : (v w : List ℕ) (k : ℕ) → k < length v → k < length w
    → masked (take (suc k) v) (take (suc k) w) ≡ masked (take k v) (take k w) ++ bit_and (get_or v k 0) (get_or w k 0) ∷ []
masked-next [] w k l m = absurd (omega arith)
masked-next (a ∷ v) [] k l m = absurd (omega arith)
masked-next (a ∷ v) (b ∷ w) zero l m = refl
masked-next (a ∷ v) (b ∷ w) (suc k) l m = ap (λ xs. bit_and a b ∷ xs) (masked-next v w k (omega arith) (omega arith))

pub masked-more : (v w : List ℕ) (k : ℕ) → k < length v → k < length w
    → masked (take (k + 1) v) (take (k + 1) w) ≡ masked (take k v) (take k w) ++ bit_and (get_or v k 0) (get_or w k 0) ∷ []
masked-more v w k l m = let e : k + 1 ≡ suc k = omega arith in ap (λ n. masked (take n v) (take n w)) e ∙ masked-next v w k l m

-- of two bits
both-one : (x y : ℕ) → x < 2 → y < 2 → (min x y == 1) ≡ ((x == 1) && (y == 1))
both-one zero zero l m = refl
both-one zero (suc zero) l m = refl
both-one zero (suc (suc y)) l m = absurd (omega arith)
both-one (suc zero) zero l m = refl
both-one (suc zero) (suc zero) l m = refl
both-one (suc zero) (suc (suc y)) l m = absurd (omega arith)
both-one (suc (suc x)) y l m = absurd (omega arith)

pub has_bit-masked : (v w : List ℕ) (q : ℕ) → has_bit (masked v w) q ≡ (has_bit v q && has_bit w q)
has_bit-masked v w q =
    let a = get_or v (q / 64) 0 in
    let b = get_or w (q / 64) 0 in
    ap (λ x. bit_at x (q % 64) == 1) (word-masked v w (q / 64))
    ∙ (ap (λ x. x == 1) (bit_at_and a b (q % 64)) ∙ both-one (bit_at a (q % 64)) (bit_at b (q % 64)) (bit_at-lt a (q % 64)) (bit_at-lt b (q % 64)))

drop-masked : (v w : List ℕ) → drop 1 (masked v w) ≡ masked (drop 1 v) (drop 1 w)
drop-masked [] w = refl
drop-masked (a ∷ []) [] = refl
drop-masked (a ∷ b ∷ v) [] = refl
drop-masked (a ∷ v) (b ∷ w) = refl

seen-bit : (x b c : Bool) → x ≡ true → (x && b) ≡ (x && c) → b ≡ c
seen-bit true b c e h = h
seen-bit false b c e h = absurd cc

-- Result: where labels are equal under a mask, each bit that the mask has is the same in both
pub bit-seen : (mask w v : List ℕ) (q : ℕ) → masked mask w ≡ masked mask v → has_bit (drop 1 mask) q ≡ true → has_bit (drop 1 w) q ≡ has_bit (drop 1 v) q
bit-seen mask w v q e on =
    let under : (x : List ℕ) → has_bit (drop 1 (masked mask x)) q ≡ (has_bit (drop 1 mask) q && has_bit (drop 1 x) q) =
    λ x. ap (λ y. has_bit y q) (drop-masked mask x) ∙ has_bit-masked (drop 1 mask) (drop 1 x) q in
    seen-bit (has_bit (drop 1 mask) q) (has_bit (drop 1 w) q) (has_bit (drop 1 v) q) on (sym (under w) ∙ (ap (λ y. has_bit (drop 1 y) q) e ∙ under v))
