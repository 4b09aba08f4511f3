-- Words of numbers, and of versions.
use Rattle.std.proofs.Common.{◌≡◌, ℕ, ◌+◌, ◌%◌, ◌^◌, ◌<◌, ◌≤◌, List, [], ◌∷◌, length, get_or, decimal, refl, ap, sym, ◌∙◌, arith}
use Rattle.std.proofs.lemmas.List.{get_or_append_left, length-append}
use Rattle.std.proofs.lemmas.Fmt.{decimal_digit, decimal_injective, decimal_by_steps}
use Rattle.fort_certificate_theory.specs.CertificateForms.{Version, OfOne, OfSeveral, OfReduced, version_word, IsNumberWord}

record BeginsAsNumber (n : ℕ) (ds : List ℕ) : Type 0 where
  some : 0 < length ds
  digit : get_or ds 0 0 ≤ 57

begins_as_number : (n : ℕ) → n < 2 ^ 64 → BeginsAsNumber n (decimal n)
begins_as_number n l = decimal_by_steps BeginsAsNumber
    (λ n l. record { some = omega arith; digit = omega arith })
    (λ n ds l h. record {
      some = omega (arith, h.some, length-append ds ((48 + n % 10) ∷ []));
      digit = omega (arith, h.digit, get_or_append_left ds ((48 + n % 10) ∷ []) 0 0 h.some);
    })
    n l

pub number_digit : (w : List ℕ) (n : ℕ) → IsNumberWord w n → get_or w 0 0 ≤ 57
number_digit w n h = omega (arith, ap (λ v. get_or v 0 0) h.is, (begins_as_number n (omega (arith, h.small))).digit)

pub number_one : (w : List ℕ) (n m : ℕ) → IsNumberWord w n → IsNumberWord w m → n ≡ m
number_one w n m h k = decimal_injective n m (omega (arith, h.small)) (omega (arith, k.small)) (sym h.is ∙ k.is)

pub version_number : (version : Version) → (n : ℕ) × IsNumberWord (version_word version) n
version_number OfOne = let one : IsNumberWord (version_word OfOne) 1 = record { is = sym (decimal_digit 1 (omega arith)); small = omega arith } in (1, one)
version_number OfSeveral = let two : IsNumberWord (version_word OfSeveral) 2 = record { is = sym (decimal_digit 2 (omega arith)); small = omega arith } in (2, two)
version_number OfReduced = let three : IsNumberWord (version_word OfReduced) 3 = record { is = sym (decimal_digit 3 (omega arith)); small = omega arith } in (3, three)

pub version_one : (a b : Version) → version_word a ≡ version_word b → a ≡ b
version_one OfOne OfOne h = refl
version_one OfSeveral OfSeveral h = refl
version_one OfReduced OfReduced h = refl
version_one a b h = let e = ap (λ w. get_or w 0 0) h in absurd (omega arith)
