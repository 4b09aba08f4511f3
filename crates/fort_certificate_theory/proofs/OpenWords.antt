-- Words of a certificate of an open formula: claims, and the symbols of nodes.
use Rattle.std.proofs.Common.{◌≡◌, ℕ, ◌+◌, ◌%◌, ◌^◌, ◌<◌, ◌≤◌, List, [], ◌∷◌, length, get_or, Option, Some, decimal, refl, ap, sym, ◌∙◌, arith}
use Rattle.std.proofs.lemmas.List.{get_or_append_left, length-append}
use Rattle.std.proofs.lemmas.Fmt.{decimal_digit, decimal_by_steps}
use Rattle.fort_certificate_theory.specs.CertificateForms.{IsNumberWord}
use Rattle.fort_certificate_theory.proofs.NumberWords.{number_one}
use Rattle.fort_certificate_theory.specs.OpenCertificates.{Claim, Found, Empty}
use Rattle.fort_certificate_theory.specs.OpenForms.{claim_word, open_version_word, absent_word, IsSymbolWord, AbsentWord, SymbolWord}

pub claim_one : (a b : Claim) → claim_word a ≡ claim_word b → a ≡ b
claim_one Found Found h = refl
claim_one Found Empty h = let e = ap (λ w. get_or w 0 0) h in absurd (omega arith)
claim_one Empty Found h = let e = ap (λ w. get_or w 0 0) h in absurd (omega arith)
claim_one Empty Empty h = refl

pub open_version_number : IsNumberWord open_version_word 4
open_version_number = record { is = sym (decimal_digit 4 (omega arith)); small = omega arith }

record BeginsAsNumber (n : ℕ) (ds : List ℕ) : Type 0 where
  some : 0 < length ds
  digit : 48 ≤ get_or ds 0 0

begins_as_number : (n : ℕ) → n < 2 ^ 64 → BeginsAsNumber n (decimal n)
begins_as_number n l = decimal_by_steps BeginsAsNumber
    (λ n l. record { some = omega arith; digit = omega arith })
    (λ n ds l h. record {
      some = omega (arith, h.some, length-append ds ((48 + n % 10) ∷ []));
      digit = omega (arith, h.digit, get_or_append_left ds ((48 + n % 10) ∷ []) 0 0 h.some);
    })
    n l

-- no number is `-`
pub absent_no_number : (w : List ℕ) (n : ℕ) → w ≡ absent_word → IsNumberWord w n → ⊥
absent_no_number w n e h =
    let first = ap (λ v. get_or v 0 0) (sym e ∙ h.is) in
    omega (arith, first, (begins_as_number n (omega (arith, h.small))).digit)

pub symbol_word_one : (w : List ℕ) (a b : Option ℕ) → IsSymbolWord w a → IsSymbolWord w b → a ≡ b
symbol_word_one w a b (AbsentWord h) (AbsentWord k) = refl
symbol_word_one w a b (AbsentWord h) (SymbolWord {g = m} k) = absurd (absent_no_number w m h k)
symbol_word_one w a b (SymbolWord {g = n} h) (AbsentWord k) = absurd (absent_no_number w n k h)
symbol_word_one w a b (SymbolWord {g = n} h) (SymbolWord {g = m} k) = ap Some (number_one w n m h k)
