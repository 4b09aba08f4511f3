-- What `parse` reads of a text, as the text that `decimal` writes.
use Rattle.std.proofs.Common.{◌≡◌, ◌≢◌, ◌∙◌, ℕ, ◌≤◌, ◌<◌, ◌^◌, List, Bool, true, ap, arith}
use Rattle.std.specs.Prelude.{Option, Some, None, MatchOption, Result, Ok, Err, nat_le, ◌&&◌, if◌then◌else◌}
use Rattle.std.specs.Fmt.{decimal}
use Rattle.std.specs.Str.{bytes_eq}
use Rattle.std.specs.Str.Parse.{AllDigits, ParsesUnsigned, digits_value}
use Rattle.std.proofs.lemmas.Str.Parse.{IsNumeralModel, numerals_by_value, tells_digits}
use Rattle.std.proofs.lemmas.Fmt.{digits_value-decimal, parse-decimal}
use Rattle.std.proofs.lemmas.Slice.Eq.{bytes_eq-Decides}
use Rattle.std.proofs.lemmas.Bool.Decides.{nat_tests}
use Rattle.fort_answers.specs.Requests.{number_in}

-- the text is that of the number n, from low to high, and where the answer is None it is that of no such number
abbrev pub IsNumberIn : ℕ → ℕ → List ℕ → Option ℕ → Type 0
IsNumberIn low high text answer = MatchOption answer ((n : ℕ) → low ≤ n → n ≤ high → text ≢ decimal n) (λ n. (low ≤ n) × (n ≤ high) × (text ≡ decimal n))

own : IsNumeralModel (AllDigits 10) (digits_value 10)
own = numerals_by_value _ tells_digits

-- the text of a number is read as it
reads_back : {E : Type 0} (text : List ℕ) (n : ℕ) (r : Result ℕ E) → n < 2 ^ 32 → text ≡ decimal n → ParsesUnsigned 32 10 text r → r ≡ Ok n
reads_back text n r small e h = parse-decimal 32 n text r small (omega arith) e h

-- a text that is read as m is that of no other number
pub read_as_other : {E : Type 0} (text : List ℕ) (m low high : ℕ) (r : Result ℕ E) → r ≡ Ok m → ParsesUnsigned 32 10 text r → high < 2 ^ 32
    → (low ≤ m → m ≤ high → text ≢ decimal m) → (n : ℕ) → low ≤ n → n ≤ high → text ≢ decimal n
read_as_other text m low high r is h small out n a b e =
    let back : r ≡ Ok n = reads_back text n r (omega arith) e h in
    let same : n ≡ m = cc in
    out (omega arith) (omega arith) (e ∙ ap decimal same)

-- a text that is not read is that of no number
pub read_as_none : {E : Type 0} (text : List ℕ) (low high : ℕ) (r : Result ℕ E) (error : E) → r ≡ Err error → ParsesUnsigned 32 10 text r → high < 2 ^ 32
    → (n : ℕ) → low ≤ n → n ≤ high → text ≢ decimal n
read_as_none text low high r error is h small n a b e =
    let back : r ≡ Ok n = reads_back text n r (omega arith) e h in
    cc

picked : (low high n : ℕ) (is_text : Bool) → low ≤ n → n ≤ high → is_text ≡ true → Some n ≡ (if nat_le low n && (nat_le n high && is_text) then Some n else None)
picked low high n is_text a b e = grind (arith, nat_tests)

passed : (low high n : ℕ) (is_text : Bool) → (low ≤ n → n ≤ high → is_text ≡ true → None ≡ Some n) → None ≡ (if nat_le low n && (nat_le n high && is_text) then Some n else None)
passed low high n is_text h = grind (arith, nat_tests)

-- the relation determines the answer, which is that of the function
pub number_is : (low high : ℕ) (text : List ℕ) (answer : Option ℕ) → high < 2 ^ 64 → IsNumberIn low high text answer → answer ≡ number_in low high text
unfolding number_in
number_is low high text (Some n) small h =
    let value : digits_value 10 text ≡ n = ap (digits_value 10) h.2 ∙ digits_value-decimal own n (omega (arith, h.1)) in
    rw value (picked low high n (bytes_eq text (decimal n)) h.0 h.1 ((bytes_eq-Decides text (decimal n)).1 h.2))
number_is low high text None small h =
    passed low high (digits_value 10 text) (bytes_eq text (decimal (digits_value 10 text)))
    (λ a b e. absurd (h (digits_value 10 text) a b ((bytes_eq-Decides text (decimal (digits_value 10 text))).0 e)))
