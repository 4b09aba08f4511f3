-- To believe: a row of 64-bit words has 64 truths in each word, from the lowest bit of the first word up.
use Rattle.std.specs.Prelude.{ℕ, zero, suc, ◌+◌, ◌*◌, ◌/◌, ◌%◌, ◌^◌, ◌<◌, ◌==◌, List, length, get_or, Bool, if◌then◌else◌}
use Rattle.std.specs.Int.{bit_at}
use Rattle.fort_tables.specs.Tuples.{tabulate}

-- each word has 64 bits
abbrev pub AreWords : List ℕ → Type 0
AreWords w = (i : ℕ) → i < length w → get_or w i 0 < 2 ^ 64

-- how many words n bits need
abbrev pub words_for : ℕ → ℕ
words_for n = (n + 63) / 64

-- bit q
abbrev pub has_bit : List ℕ → ℕ → Bool
has_bit w q = bit_at (get_or w (q / 64) 0) (q % 64) == 1

-- the number whose bit i tells p i, for the first n
abbrev pub word_of : ℕ → (ℕ → Bool) → ℕ
word_of zero p = 0
word_of (suc n) p = (if p 0 then 1 else 0) + 2 * word_of n (λ i. p (suc i))

-- as many words as n bits need, whose bits tell p, those past the n too
abbrev pub bit_row : ℕ → (ℕ → Bool) → List ℕ
bit_row n p = tabulate (words_for n) (λ i. word_of 64 (λ b. p (64 * i + b)))
