-- Digits in a base, their number, and the digits of a number.
use Rattle.std.proofs.Common.{◌≡◌, ℕ, zero, suc, ◌+◌, ◌*◌, ◌/◌, ◌%◌, ◌^◌, ◌<◌, ◌≤◌, List, [], ◌∷◌, ◌++◌, length, take, get_or, refl, ap, sym, ◌∙◌, arith, subst}
use Rattle.std.proofs.Math.Nat.{pow-zero, pow-suc, mod-lt, one-le-pow, div-lt_iff_lt-mul, pow-le-pow_right}
use Rattle.std.proofs.lemmas.Nat.{div-mul-add, mod-mul-add, div-add-mod'}
use Rattle.std.proofs.lemmas.List.{take_more, length-take-le}
use Rattle.std.specs.Int.Digits.{number_from_digits, number_from_digits_after, AllBelowBase}
use Rattle.std.proofs.lemmas.Int.Digits.{number_lt, number_more}
use Rattle.fort_tuple_symbols.specs.DigitNumbers.{digits_at}

-- what stands before the digits counts as many times as there are numbers of so many digits
after_value : (b n : ℕ) (ds : List ℕ) → number_from_digits_after b n ds ≡ n * b ^ length ds + number_from_digits b ds
after_value b n [] =
    let p : b ^ length {A = ℕ} [] ≡ 1 = pow-zero b in
    let q = ap (λ x. n * x) p in
    omega (arith, q)
after_value b n (d ∷ ds) =
    let p : b ^ length (d ∷ ds) ≡ b ^ length ds * b = pow-suc b (length ds) in
    let one = after_value b (n * b + d) ds in
    let two = after_value b (0 * b + d) ds in
    let q = ap (λ x. n * x) p in
    omega (arith, one, two, q)

number_first : (b d : ℕ) (ds : List ℕ) → number_from_digits b (d ∷ ds) ≡ d * b ^ length ds + number_from_digits b ds
number_first b d ds =
    let e : 0 * b + d ≡ d = omega arith in
    after_value b (0 * b + d) ds ∙ ap (λ x. x * b ^ length ds + number_from_digits b ds) e

pub length-digits_at : (b c n : ℕ) → length (digits_at b c n) ≡ c
length-digits_at b zero n = refl
length-digits_at b (suc c) n = ap suc (length-digits_at b c (n % b ^ c))

pub pow_some : (b c : ℕ) → 0 < b → 0 < b ^ c
pow_some b c h = omega (arith, one-le-pow c b h)

pub digits_at-below : (b c n : ℕ) → 0 < b → n < b ^ c → AllBelowBase b (digits_at b c n)
digits_at-below b zero n h l = tt
digits_at-below b (suc c) n h l =
    let p = b ^ c in
    let e : b ^ suc c ≡ b * p = pow-suc b c ∙ omega arith in
    let m : n < b * p = omega (arith, l, e) in
    ((div-lt_iff_lt-mul {x = n} {y = b} (pow_some b c h)).1 m, digits_at-below b c (n % p) h (mod-lt n (pow_some b c h)))

-- digits are those of their number
pub digits_of_number : (b : ℕ) (ds : List ℕ) → AllBelowBase b ds → digits_at b (length ds) (number_from_digits b ds) ≡ ds
digits_of_number b [] h = refl
digits_of_number b (d ∷ ds) h =
    let p = b ^ length ds in
    let m = number_from_digits b ds in
    let l : m < p = number_lt b ds h.1 in
    let v = number_first b d ds in
    let first : number_from_digits b (d ∷ ds) / p ≡ d = ap (λ x. x / p) v ∙ div-mul-add d p m l in
    let rest : number_from_digits b (d ∷ ds) % p ≡ m = ap (λ x. x % p) v ∙ mod-mul-add d p m l in
    let same = digits_of_number b ds h.1 in
    ap (λ x. x ∷ digits_at b (length ds) (number_from_digits b (d ∷ ds) % p)) first
    ∙ ap (λ es. d ∷ es) (ap (digits_at b (length ds)) rest ∙ same)

-- and a number is that of its digits
pub number_of_digits : (b c n : ℕ) → 0 < b → n < b ^ c → number_from_digits b (digits_at b c n) ≡ n
number_of_digits b zero n h l = omega (arith, l, pow-zero b)
number_of_digits b (suc c) n h l =
    let p = b ^ c in
    let es = digits_at b c (n % p) in
    let few : n % p < p = mod-lt n (pow_some b c h) in
    number_first b (n / p) es
    ∙ (ap (λ k. n / p * b ^ k + number_from_digits b es) (length-digits_at b c (n % p))
    ∙ (ap (λ k. n / p * p + k) (number_of_digits b c (n % p) h few) ∙ div-add-mod' n p))

-- one more digit
pub below_push : (b : ℕ) (ds : List ℕ) (d : ℕ) → AllBelowBase b ds → d < b → AllBelowBase b (ds ++ d ∷ [])
below_push b [] d h l = (l, tt)
below_push b (x ∷ ds) d h l = (h.0, below_push b ds d h.1 l)

pub below_more : (b : ℕ) (ds : List ℕ) (i : ℕ) → i < length ds → AllBelowBase b (take i ds) → get_or ds i 0 < b → AllBelowBase b (take (i + 1) ds)
below_more b ds i l h d = subst (AllBelowBase b) (sym (take_more ds i 0 l)) (below_push b (take i ds) (get_or ds i 0) h d)

pub below_at : (b : ℕ) (ds : List ℕ) (i : ℕ) → AllBelowBase b ds → i < length ds → get_or ds i 0 < b
below_at b [] i h l = absurd (omega arith)
below_at b (d ∷ ds) zero h l = h.0
below_at b (d ∷ ds) (suc i) h l = below_at b ds i h.1 (omega arith)

pub number_fits : (b : ℕ) (ds : List ℕ) (i : ℕ) → i < length ds → AllBelowBase b (take i ds) → get_or ds i 0 < b → b ^ length ds ≤ 2 ^ 26 → number_from_digits b (take i ds) * b + get_or ds i 0 < 2 ^ 26
number_fits b ds i l h d few =
    let some : 0 < b = omega arith in
    let wide : length (take (i + 1) ds) ≤ length ds = omega (arith, length-take-le (i + 1) ds (omega arith)) in
    let rises = pow-le-pow_right {n = b} some wide in
    omega (arith, number_more b ds i l, number_lt b (take (i + 1) ds) (below_more b ds i l h d), rises, few)
