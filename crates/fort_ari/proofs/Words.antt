-- Words that are arities, and those that are numbers from 1 to 9.
use Rattle.std.proofs.Common.{◌≡◌, ℕ, ◌+◌, ◌-◌, ◌<◌, ◌≤◌, List, [], ◌∷◌, length, get_or, sym, ap, ◌∙◌, arith}
use Rattle.std.proofs.lemmas.Fmt.{decimal_digit}
use Rattle.fort_grammar.specs.Declarations.{IsArity}
use Rattle.fort_ari.specs.Numbers.{IsNumber}

pub IsArity-at : (word : List ℕ) → length word ≡ 1 → 48 ≤ get_or word 0 0 → get_or word 0 0 ≤ 56 → IsArity word (get_or word 0 0 - 48)
IsArity-at [] l low high = absurd (omega arith)
IsArity-at (b ∷ c ∷ bs) l low high = absurd (omega arith)
IsArity-at (b ∷ []) l low high =
    let small : b - 48 < 10 = omega arith in
    let same : b ≡ 48 + (b - 48) = omega arith in
    (omega arith, ap (λ (d : ℕ). d ∷ []) same ∙ sym (decimal_digit (b - 48) small))

-- an arity is one digit
digit_from_IsArity : (word : List ℕ) (n : ℕ) → IsArity word n → word ≡ (48 + n) ∷ []
digit_from_IsArity word n h = h.1 ∙ decimal_digit n (let low = h.0 in omega arith)

pub length-IsArity : (word : List ℕ) (n : ℕ) → IsArity word n → length word ≡ 1
length-IsArity word n h = ap length (digit_from_IsArity word n h)

pub low_from_IsArity : (word : List ℕ) (n : ℕ) → IsArity word n → 48 ≤ get_or word 0 0
low_from_IsArity word n h = let first = ap (λ (bs : List ℕ). get_or bs 0 0) (digit_from_IsArity word n h) in omega arith

pub high_from_IsArity : (word : List ℕ) (n : ℕ) → IsArity word n → get_or word 0 0 ≤ 56
high_from_IsArity word n h = let low = h.0 in let first = ap (λ (bs : List ℕ). get_or bs 0 0) (digit_from_IsArity word n h) in omega arith

pub IsNumber-at : (word : List ℕ) → length word ≡ 1 → 49 ≤ get_or word 0 0 → get_or word 0 0 ≤ 57 → IsNumber word (get_or word 0 0 - 48)
IsNumber-at [] l low high = absurd (omega arith)
IsNumber-at (b ∷ c ∷ bs) l low high = absurd (omega arith)
IsNumber-at (b ∷ []) l low high =
    let small : b - 48 < 10 = omega arith in
    let same : b ≡ 48 + (b - 48) = omega arith in
    (omega arith, omega arith, ap (λ (d : ℕ). d ∷ []) same ∙ sym (decimal_digit (b - 48) small))

digit_from_IsNumber : (word : List ℕ) (n : ℕ) → IsNumber word n → word ≡ (48 + n) ∷ []
digit_from_IsNumber word n h = h.2 ∙ decimal_digit n (let high = h.1 in omega arith)

pub length-IsNumber : (word : List ℕ) (n : ℕ) → IsNumber word n → length word ≡ 1
length-IsNumber word n h = ap length (digit_from_IsNumber word n h)

pub low_from_IsNumber : (word : List ℕ) (n : ℕ) → IsNumber word n → 49 ≤ get_or word 0 0
low_from_IsNumber word n h = let low = h.0 in let first = ap (λ (bs : List ℕ). get_or bs 0 0) (digit_from_IsNumber word n h) in omega arith

pub high_from_IsNumber : (word : List ℕ) (n : ℕ) → IsNumber word n → get_or word 0 0 ≤ 57
high_from_IsNumber word n h = let high = h.1 in let first = ap (λ (bs : List ℕ). get_or bs 0 0) (digit_from_IsNumber word n h) in omega arith
