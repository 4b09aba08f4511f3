-- Which words of digits are those of numbers.
use Rattle.std.proofs.Common.{◌≡◌, ℕ, zero, suc, ◌<◌, ◌^◌, List, length, get_or, ap, sym, ◌∙◌, arith, subst, decimal}
use Rattle.std.specs.Str.Parse.{AllDigits, digits_value}
use Rattle.std.proofs.lemmas.Str.Parse.{IsNumeralModel, numerals_by_value, tells_digits}
use Rattle.std.proofs.lemmas.Fmt.{decimal-digits_value, digits_decimal, digits_value-decimal, decimal_nonempty, decimal_digit, first_decimal}
use Rattle.fort_certificate_theory.specs.CertificateForms.{IsNumberWord}
use Rattle.fort_sexpr.specs.FormView.{IsDigitWord}

own : IsNumeralModel (AllDigits 10) (digits_value 10)
own = numerals_by_value _ tells_digits

-- digits with no zero in front of others are the word of their value
pub word_of_value : (word : List ℕ) (n : ℕ) → 0 < length word → (get_or word 0 0 ≡ 48 → length word ≡ 1) → IsDigitWord word → digits_value 10 word ≡ n → IsNumberWord word n
word_of_value word n some lead h value = record {
  is = sym (decimal-digits_value own word h.digits some lead (omega (arith, h.small))) ∙ ap decimal value;
  small = omega (arith, value, h.small);
}

-- the word of a number is not empty, and has no zero in front of other digits
pub word_begins : (word : List ℕ) (n : ℕ) → IsNumberWord word n → (0 < length word) × (get_or word 0 0 ≡ 48 → length word ≡ 1)
word_begins word zero h = (omega (arith, ap (λ ws. length ws) h.is, decimal_nonempty 0 (omega arith)), λ _. ap (λ ws. length ws) (h.is ∙ decimal_digit 0 (omega arith)))
word_begins word (suc m) h =
    let small : suc m < 2 ^ 64 = omega (arith, h.small) in
    (omega (arith, ap (λ ws. length ws) h.is, decimal_nonempty (suc m) small), λ e. absurd (omega (arith, first_decimal (suc m) (omega arith) small, ap (λ ws. get_or ws 0 0) h.is, e)))

-- the word of a number is digits that write a number of 32 bits
pub word_has_value : (word : List ℕ) (n : ℕ) → IsNumberWord word n → IsDigitWord word
word_has_value word n h =
    let small : n < 2 ^ 64 = omega (arith, h.small) in
    record {
      digits = subst (AllDigits 10) (sym h.is) (digits_decimal own n small);
      small = omega (arith, ap (digits_value 10) h.is, digits_value-decimal own n small, h.small);
    }
