-- The numbers of tuple symbols: their columns again, one more column, how far they go.
use Rattle.std.proofs.Common.{◌≡◌, ℕ, zero, suc, ◌+◌, ◌-◌, ◌*◌, ◌/◌, ◌%◌, ◌^◌, ◌<◌, ◌≤◌, [], ◌∷◌, ◌++◌, take, drop, length, get_or, Option, None, Some, refl, ap, ◌∙◌, arith, length-append}
use Rattle.std.proofs.Math.Nat.{mul-le-mul_left, mul-le-mul_right, pow-succ', pow-zero, mod-lt}
use Rattle.std.proofs.lemmas.Nat.{mod-mul-add, div-mul-add, pow-add}
use Rattle.std.proofs.lemmas.List.{take_more, take-append-drop, length-drop}
use Rattle.std.specs.List.{insert}
use Rattle.fort_theory.specs.Signatures.{Signature}
use Rattle.fort_tables.specs.Tuples.{TupleSymbol, AreSymbols}
use Rattle.fort_tuple_symbols.proofs.DigitNumberLaws.{pow_some}
use Rattle.fort_tuple_symbols.specs.Columns.{column_of, digit_of}
use Rattle.fort_tuple_symbols.specs.SymbolNumbers.{columns_at}
use Rattle.fort_tuple_symbols.proofs.SymbolNumberLaws.{column_again}
use Rattle.fort_target_lists.specs.Places.{number_of}

-- how far the numbers go
pub below_digits : (d b m p : ℕ) → d < b → m < p → d * p + m < b * p
below_digits d b m p l h = let s = mul-le-mul_right {m = suc d} {n = b} p l in omega (arith, s, h)

pub digit_below : (sig : Signature) (base : ℕ) (x : Option ℕ) (f : TupleSymbol) → base ≡ suc (length sig) → AreSymbols sig (x ∷ f) → digit_of x < base
digit_below sig base None f e h = omega arith
digit_below sig base (Some g) f e h = omega (arith, h.0)

pub later_symbols : (sig : Signature) (x : Option ℕ) (f : TupleSymbol) → AreSymbols sig (x ∷ f) → AreSymbols sig f
later_symbols sig None f h = h
later_symbols sig (Some g) f h = h.1

pub number_below : (sig : Signature) (base : ℕ) (f : TupleSymbol) → base ≡ suc (length sig) → AreSymbols sig f → number_of base f < base ^ length f
number_below sig base [] e h = omega (arith, pow-zero base)
number_below sig base (x ∷ f) e h =
    omega (
      arith,
      pow-succ' base (length f),
      below_digits (digit_of x) base (number_of base f) (base ^ length f) (digit_below sig base x f e h) (number_below sig base f e (later_symbols sig x f h)),
    )

-- the last columns that a number has
columns_over : (sig : Signature) (base : ℕ) (f : TupleSymbol) (m : ℕ) → base ≡ suc (length sig) → AreSymbols sig f → columns_at base (length f) (m * base ^ length f + number_of base f) ≡ f
columns_over sig base [] m e h = refl
columns_over sig base (x ∷ f) m e h =
    let d = digit_of x in
    let p = base ^ length f in
    let n = number_of base f in
    let later = later_symbols sig x f h in
    let whole : m * base ^ suc (length f) + (d * p + n) ≡ (m * base + d) * p + n = omega (arith, ap (λ q. m * q) (pow-succ' base (length f))) in
    let high : ((m * base + d) * p + n) / p ≡ m * base + d = div-mul-add (m * base + d) p n (number_below sig base f e later) in
    let first : column_of (((m * base + d) * p + n) / p % base) ≡ x =
    ap (λ q. column_of (q % base)) high ∙ (ap column_of (mod-mul-add m base d (digit_below sig base x f e h)) ∙ column_again x) in
    let rest = columns_over sig base f (m * base + d) e later in
    ap (λ q. column_of (q / p % base) ∷ columns_at base (length f) q) whole ∙ (λ i. first i ∷ rest i)

-- the columns that a tuple symbol's number has are its own
pub columns_again : (sig : Signature) (base : ℕ) (f : TupleSymbol) → base ≡ suc (length sig) → AreSymbols sig f → columns_at base (length f) (number_of base f) ≡ f
columns_again sig base f e h =
    let z : number_of base f ≡ 0 * base ^ length f + number_of base f = omega arith in
    ap (columns_at base (length f)) z ∙ columns_over sig base f 0 e h

-- a number's columns are symbols
symbols_more : (sig : Signature) (d : ℕ) (f : TupleSymbol) → d < suc (length sig) → AreSymbols sig f → AreSymbols sig (column_of d ∷ f)
symbols_more sig zero f l h = h
symbols_more sig (suc g) f l h = (omega arith, h)

pub symbols_at : (sig : Signature) (base n number : ℕ) → base ≡ suc (length sig) → AreSymbols sig (columns_at base n number)
symbols_at sig base zero number e = tt
symbols_at sig base (suc n) number e =
    symbols_more sig (number / base ^ n % base) (columns_at base n number) (omega (arith, e, mod-lt (number / base ^ n) {m = base} (omega arith))) (symbols_at sig base n number e)

-- one tuple symbol behind another
number_of-append : (base : ℕ) (xs ys : TupleSymbol) → number_of base (xs ++ ys) ≡ number_of base xs * base ^ length ys + number_of base ys
number_of-append base [] ys = omega arith
number_of-append base (x ∷ xs) ys =
    let d = digit_of x in
    let m : d * base ^ length (xs ++ ys) ≡ d * (base ^ length xs * base ^ length ys) =
    ap (λ n. d * base ^ n) (length-append xs ys) ∙ ap (λ q. d * q) (pow-add base (length xs) (length ys)) in
    omega (arith, m, number_of-append base xs ys)

pub number_of-take : (base : ℕ) (f : TupleSymbol) (k : ℕ) → k < length f → number_of base (take (k + 1) f) ≡ number_of base (take k f) * base + digit_of (get_or f k None)
number_of-take base f k l =
    let x = get_or f k None in
    let a = ap (number_of base) (take_more f k None l) ∙ number_of-append base (take k f) (x ∷ []) in
    let one : base ^ 1 ≡ base = omega (arith, pow-succ' base 0, ap (λ q. base * q) (pow-zero base)) in
    omega (arith, a, ap (λ q. number_of base (take k f) * q) one, ap (λ q. digit_of x * q) (pow-zero base))

pub number_of-front : (base : ℕ) (f : TupleSymbol) (k : ℕ) → 0 < base → number_of base (take k f) ≤ number_of base f
number_of-front base f k l =
    let n = number_of base (take k f) in
    let more : n * 1 ≤ n * base ^ length (drop k f) = mul-le-mul_left {m = 1} {n = base ^ length (drop k f)} n (pow_some base (length (drop k f)) l) in
    omega (arith, more, ap (number_of base) (take-append-drop k f), number_of-append base (take k f) (drop k f))

-- a symbol in one more column
pub number_of-insert : (base : ℕ) (f : TupleSymbol) (c g : ℕ) → c ≤ length f → number_of base (insert f c (Some g)) ≡ number_of base (insert f c None) + suc g * base ^ (length f - c)
number_of-insert base f c g l =
    let xs = take c f in
    let ys = drop c f in
    let p = base ^ length ys in
    let a = number_of-append base xs (Some g ∷ ys) in
    let b = number_of-append base xs (None ∷ ys) in
    let w = ap (λ n. suc g * base ^ n) (length-drop c f) in
    omega (arith, a, b, w)
