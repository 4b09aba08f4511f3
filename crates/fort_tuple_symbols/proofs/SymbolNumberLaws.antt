-- The columns of a number: of 0, of its quotient by the base, and of the next number.
use Rattle.std.proofs.Common.{◌≡◌, ℕ, zero, suc, ◌+◌, ◌*◌, ◌/◌, ◌%◌, ◌^◌, ◌<◌, ◌≤◌, List, [], ◌∷◌, ◌++◌, length, take, drop, replicate, get_or, Option, None, Some, refl, ap, sym, ◌∙◌, arith}
use Rattle.std.proofs.Math.Nat.{zero-div, zero-mod, pow-zero, pow-succ', div-one, div-div-eq-div-mul, mod-lt}
use Rattle.std.proofs.lemmas.Nat.{div-mul-add, mod-mul-add, div-add-mod'}
use Rattle.std.proofs.lemmas.List.{length-append, length-map, map-append, take_at, drop_at}
use Rattle.fort_tables.specs.Tuples.{TupleSymbol}
use Rattle.fort_tuple_symbols.specs.Columns.{column_of, digit_of, symbol_of}
use Rattle.fort_tuple_symbols.specs.SymbolNumbers.{columns_at}

-- those of 0
pub columns_first : (base n : ℕ) → 0 < base → columns_at base n 0 ≡ replicate n None
columns_first base zero some = refl
columns_first base (suc n) some =
    let z : 0 / base ^ n % base ≡ 0 = ap (λ q. q % base) (zero-div (base ^ n)) ∙ zero-mod base in
    ap (λ d. column_of d ∷ columns_at base n 0) z ∙ ap (λ (f : TupleSymbol). None ∷ f) (columns_first base n some)

-- the last one is that of the remainder by the base, and the others are those of the quotient
pub columns_last : (base k n : ℕ) → columns_at base (suc k) n ≡ columns_at base k (n / base) ++ column_of (n % base) ∷ []
columns_last base zero n = ap (λ q. column_of (q % base) ∷ []) (ap (λ p. n / p) (pow-zero base) ∙ div-one n)
columns_last base (suc k) n =
    let q : n / base ^ suc k ≡ n / base / base ^ k = ap (λ p. n / p) (pow-succ' base k) ∙ sym (div-div-eq-div-mul n base (base ^ k)) in
    ap (λ p. column_of (p % base) ∷ columns_at base (suc k) n) q ∙ ap (λ (f : TupleSymbol). column_of (n / base / base ^ k % base) ∷ f) (columns_last base k n)

pub length-columns_at : (base n number : ℕ) → length (columns_at base n number) ≡ n
length-columns_at base zero number = refl
length-columns_at base (suc n) number = ap suc (length-columns_at base n number)

-- a column and its digit
pub digit_again : (d : ℕ) → digit_of (column_of d) ≡ d
digit_again zero = refl
digit_again (suc g) = refl

pub column_again : (x : Option ℕ) → column_of (digit_of x) ≡ x
column_again None = refl
column_again (Some g) = refl

-- the last digit, and the others
same_ends : (f g : TupleSymbol) (x y : Option ℕ) → length f ≡ length g → f ++ x ∷ [] ≡ g ++ y ∷ [] → (f ≡ g) × (x ≡ y)
same_ends f g x y l e =
    let front : f ≡ g = sym (take_at f (x ∷ []) (length g) l) ∙ (ap (take (length g)) e ∙ take_at g (y ∷ []) (length g) refl) in
    let end : x ∷ [] ≡ y ∷ [] = sym (drop_at f (x ∷ []) (length g) l) ∙ (ap (drop (length g)) e ∙ drop_at g (y ∷ []) (length g) refl) in
    (front, ap (λ (h : TupleSymbol). get_or h 0 None) end)

length-ends : (all ds : List ℕ) (x : ℕ) → all ≡ ds ++ x ∷ [] → length all ≡ suc (length ds)
length-ends all ds x ends = omega (arith, ap length ends, length-append ds (x ∷ []))

ends_of : (base : ℕ) (all ds : List ℕ) (x n : ℕ) → all ≡ ds ++ x ∷ [] → symbol_of all ≡ columns_at base (length all) n
    → (symbol_of ds ≡ columns_at base (length ds) (n / base)) × (x ≡ n % base)
ends_of base all ds x n ends is =
    let both =
    same_ends (symbol_of ds) (columns_at base (length ds) (n / base)) (column_of x) (column_of (n % base)) (length-map ds column_of ∙ sym (length-columns_at base (length ds) (n / base)))
    (sym (map-append column_of ds (x ∷ []))
    ∙ (ap symbol_of (sym ends) ∙ (is ∙ (ap (λ k. columns_at base k n) (length-ends all ds x ends) ∙ columns_last base (length ds) n)))) in
    (both.0, sym (digit_again x) ∙ (ap digit_of both.1 ∙ digit_again (n % base)))

ends_make : (base m : ℕ) (ds : List ℕ) (x k n : ℕ) → m ≡ suc k → symbol_of ds ≡ columns_at base k (n / base) → n % base ≡ x → symbol_of (ds ++ x ∷ []) ≡ columns_at base m n
ends_make base m ds x k n long front end =
    map-append column_of ds (x ∷ [])
    ∙ (ap (λ (f : TupleSymbol). f ++ column_of x ∷ []) front
    ∙ (ap (λ d. columns_at base k (n / base) ++ column_of d ∷ []) (sym end)
    ∙ (sym (columns_last base k n) ∙ ap (λ j. columns_at base j n) (sym long))))

-- the next number where the last digit can be raised
pub next_raised : (base : ℕ) (all ds : List ℕ) (x : ℕ) → x + 1 < base → all ≡ ds ++ x ∷ [] → (n : ℕ) → symbol_of all ≡ columns_at base (length all) n
    → symbol_of (ds ++ (x + 1) ∷ []) ≡ columns_at base (length all) (n + 1)
next_raised base all ds x low ends n is =
    let was = ends_of base all ds x n ends is in
    let more : n + 1 ≡ n / base * base + (x + 1) = omega (arith, div-add-mod' n base, was.1) in
    let high : n / base ≡ (n + 1) / base = sym (ap (λ k. k / base) more ∙ div-mul-add (n / base) base (x + 1) low) in
    let rest : (n + 1) % base ≡ x + 1 = ap (λ k. k % base) more ∙ mod-mul-add (n / base) base (x + 1) low in
    ends_make base (length all) ds (x + 1) (length ds) (n + 1) (length-ends all ds x ends) (was.0 ∙ ap (columns_at base (length ds)) high) rest

-- and where it begins again
pub next_carried : (base : ℕ) (all ds es : List ℕ) (x : ℕ) → 0 < base → base ≤ x + 1 → all ≡ ds ++ x ∷ []
    → ((m : ℕ) → symbol_of ds ≡ columns_at base (length ds) m → symbol_of es ≡ columns_at base (length ds) (m + 1))
    → (n : ℕ) → symbol_of all ≡ columns_at base (length all) n → symbol_of (es ++ 0 ∷ []) ≡ columns_at base (length all) (n + 1)
next_carried base all ds es x some high ends next n is =
    let was = ends_of base all ds x n ends is in
    let more : n + 1 ≡ (n / base + 1) * base + 0 = omega (arith, div-add-mod' n base, was.1, mod-lt n {m = base} some) in
    let quotient : n / base + 1 ≡ (n + 1) / base = sym (ap (λ k. k / base) more ∙ div-mul-add (n / base + 1) base 0 some) in
    let rest : (n + 1) % base ≡ 0 = ap (λ k. k % base) more ∙ mod-mul-add (n / base + 1) base 0 some in
    ends_make base (length all) es 0 (length ds) (n + 1) (length-ends all ds x ends) (next (n / base) was.0 ∙ ap (columns_at base (length ds)) quotient) rest

-- where so many columns are known
pub columns_next : (base columns n : ℕ) (f g : TupleSymbol) → f ≡ columns_at base columns n
    → ((k : ℕ) → f ≡ columns_at base (length f) k → g ≡ columns_at base (length f) (k + 1)) → g ≡ columns_at base columns (n + 1)
columns_next base columns n f g is next =
    let wide : length f ≡ columns = ap length is ∙ length-columns_at base columns n in
    next n (is ∙ ap (λ k. columns_at base k n) (sym wide)) ∙ ap (λ k. columns_at base k (n + 1)) wide
