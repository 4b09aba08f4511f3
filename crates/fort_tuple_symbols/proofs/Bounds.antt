-- Bounds on each number of a list, and the digits of columns.
use Rattle.std.proofs.Common.{◌≡◌, ℕ, zero, suc, ◌+◌, ◌≤◌, List, [], ◌∷◌, ◌++◌, map, length, take, drop, set, replicate, get_or, None, Some, refl, ap, ◌∙◌, arith}
use Rattle.std.specs.Int.Digits.{AllBelowBase}
use Rattle.std.proofs.lemmas.List.{length-map}
use Rattle.fort_theory.specs.Signatures.{Signature}
use Rattle.fort_tables.specs.Tuples.{TupleSymbol, AreSymbols, IsTupleSymbol}
use Rattle.fort_tuple_symbols.specs.Columns.{digit_of, symbol_of}
use Rattle.fort_tuple_symbols.specs.DigitNumbers.{AreDigits, AreUpTo}

pub bound-append : (b : ℕ) (xs ys : List ℕ) → ((k : ℕ) → get_or xs k 0 ≤ b) → ((k : ℕ) → get_or ys k 0 ≤ b) → (k : ℕ) → get_or (xs ++ ys) k 0 ≤ b
bound-append b [] ys h g k = g k
bound-append b (x ∷ xs) ys h g zero = h 0
bound-append b (x ∷ xs) ys h g (suc k) = bound-append b xs ys (λ j. h (suc j)) g k

pub bound-drop : (b n : ℕ) (xs : List ℕ) → ((k : ℕ) → get_or xs k 0 ≤ b) → (k : ℕ) → get_or (drop n xs) k 0 ≤ b
bound-drop b zero xs h k = h k
bound-drop b (suc n) [] h k = h k
bound-drop b (suc n) (x ∷ xs) h k = bound-drop b n xs (λ j. h (suc j)) k

pub bound-take : (b n : ℕ) (xs : List ℕ) → ((k : ℕ) → get_or xs k 0 ≤ b) → (k : ℕ) → get_or (take n xs) k 0 ≤ b
bound-take b zero xs h k = omega arith
bound-take b (suc n) [] h k = h k
bound-take b (suc n) (x ∷ xs) h zero = h 0
bound-take b (suc n) (x ∷ xs) h (suc k) = bound-take b n xs (λ j. h (suc j)) k

pub bound-set : (b : ℕ) (xs : List ℕ) (i v : ℕ) → ((k : ℕ) → get_or xs k 0 ≤ b) → v ≤ b → (k : ℕ) → get_or (set xs i v) k 0 ≤ b
bound-set b [] i v h l k = h k
bound-set b (x ∷ xs) zero v h l zero = l
bound-set b (x ∷ xs) zero v h l (suc k) = h (suc k)
bound-set b (x ∷ xs) (suc i) v h l zero = h 0
bound-set b (x ∷ xs) (suc i) v h l (suc k) = bound-set b xs i v (λ j. h (suc j)) l k

pub bound-zeros : (b n k : ℕ) → get_or (replicate n 0) k 0 ≤ b
bound-zeros b zero k = omega arith
bound-zeros b (suc n) zero = omega arith
bound-zeros b (suc n) (suc k) = bound-zeros b n k

pub bound-up_to : (b n : ℕ) (xs : List ℕ) → n ≤ b → AreUpTo n xs → (k : ℕ) → get_or xs k 0 ≤ b
bound-up_to b n [] l h k = omega arith
bound-up_to b n (x ∷ xs) l h zero = omega (arith, h.0)
bound-up_to b n (x ∷ xs) l h (suc k) = bound-up_to b n xs l h.1 k

pub symbol_of-zeros : (n : ℕ) → symbol_of (replicate n 0) ≡ replicate n None
symbol_of-zeros zero = refl
symbol_of-zeros (suc n) = ap (λ f. None ∷ f) (symbol_of-zeros n)

pub symbol_again : (f : TupleSymbol) → symbol_of (map digit_of f) ≡ f
symbol_again [] = refl
symbol_again (None ∷ f) = ap (λ g. None ∷ g) (symbol_again f)
symbol_again (Some x ∷ f) = ap (λ g. Some x ∷ g) (symbol_again f)

digits_below : (sig : Signature) (f : TupleSymbol) → AreSymbols sig f → AllBelowBase (length sig + 1) (map digit_of f)
digits_below sig [] h = tt
digits_below sig (None ∷ f) h = (omega arith, digits_below sig f h)
digits_below sig (Some g ∷ f) h = (omega (arith, h.0), digits_below sig f h.1)

-- the digits of a tuple symbol
pub symbol_digits : (sig : Signature) (n : ℕ) (f : TupleSymbol) → IsTupleSymbol sig n f → AreDigits (length sig + 1) n (map digit_of f)
symbol_digits sig n f h = record { width = length-map f digit_of ∙ h.width; below = digits_below sig f h.symbols }
