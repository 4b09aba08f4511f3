-- The names of a made problem's symbols are names, and no two of them are the same.
use Rattle.std.proofs.Common.{◌≡◌, ℕ, zero, suc, ◌+◌, ◌%◌, ◌^◌, ◌<◌, List, [], ◌∷◌, ◌++◌, map, length, refl, sym, ap, ◌∙◌, arith, inl, inr}
use Rattle.std.specs.Prelude.{IsTrue, Contains, codes, decimal, get_or}
use Rattle.std.specs.List.{range_with_len}
use Rattle.std.proofs.lemmas.Bool.Decides.{nat_tests}
use Rattle.std.proofs.lemmas.Fmt.{decimal_by_steps, decimal_injective, length-decimal-le}
use Rattle.std.proofs.lemmas.List.FromFn.{length-map-range_with_len, map-range_with_len_more}
use Rattle.fort_theory.specs.Signatures.{Signature, symbol, IsName, IsWord, is_word_byte, names_of}
use Rattle.fort_theory.proofs.Members.{Contains-none, Contains-cons_cases}
use Rattle.fort_answers.specs.MadeProblem.{made_constant}

-- ---- digits are a word

push_byte : (xs : List ℕ) (x : ℕ) → IsWord xs → IsTrue (is_word_byte x) → IsWord (xs ++ x ∷ [])
push_byte [] x all here = (here, tt)
push_byte (y ∷ xs) x all here = (all.0, push_byte xs x all.1 here)

is_digit : (d : ℕ) → d < 10 → IsTrue (is_word_byte (48 + d))
is_digit d below = grind (arith, nat_tests)

digits_are_word : (n : ℕ) → n < 2 ^ 64 → IsWord (decimal n)
digits_are_word n small =
    decimal_by_steps (λ k ds. IsWord ds) (λ k below. (is_digit k below, tt))
    (λ k ds high word. push_byte ds (48 + k % 10) word (is_digit (k % 10) (omega arith))) n small

pub constant_is_name : (i : ℕ) → i < 100 → IsName (codes "c" ++ decimal i)
constant_is_name i small = record {
  some = omega arith;
  short = omega (arith, length-decimal-le 2 i (omega arith) (omega arith) (omega arith));
  word = (refl, digits_are_word i (omega arith));
  plain = λ e. cc;
}

pub f_is_name : IsName (codes "f")
f_is_name = record { some = omega arith; short = omega arith; word = (refl, tt); plain = λ e. cc }

-- ---- each name is new

named : (first count : ℕ) (name : List ℕ) → Contains (names_of (map made_constant (range_with_len first count))) name
    → (j : ℕ) × (j < first + count) × (name ≡ codes "c" ++ decimal j)
named first zero name c = absurd (Contains-none name c)
named first (suc n) name c =
    elim (Contains-cons_cases (codes "c" ++ decimal first) (names_of (map made_constant (range_with_len (first + 1) n))) name c) [
      | inl here ↦ (first, omega arith, sym here)
      | inr behind ↦ (let r = named (first + 1) n name behind in (r.0, omega (arith, r.1), r.2))
    ]

pub constant_is_new : (i : ℕ) → i < 2 ^ 64 → Contains (names_of (map made_constant (range_with_len 0 i))) (codes "c" ++ decimal i) → ⊥
constant_is_new i small c =
    let r = named 0 i (codes "c" ++ decimal i) c in
    let named_so = r.2 in
    let same : decimal i ≡ decimal r.0 = cc in
    let number : i ≡ r.0 = decimal_injective i r.0 small (omega (arith, r.1)) same in
    omega (arith, r.1, number)

pub f_is_new : (n : ℕ) → Contains (names_of (map made_constant (range_with_len 0 n))) (codes "f") → ⊥
f_is_new n c = let r = named 0 n (codes "f") c in omega (arith, ap (λ w. get_or w 0 0) r.2)

-- ---- the constants so far

pub count_constants : (i : ℕ) (signature : Signature) → signature ≡ map made_constant (range_with_len 0 i) → length signature ≡ i
count_constants i signature are = ap length are ∙ length-map-range_with_len made_constant 0 i

pub next_constant : (i : ℕ) (name : List ℕ) (old new : Signature) → old ≡ map made_constant (range_with_len 0 i) → name ≡ codes "c" ++ decimal i
    → new ≡ old ++ symbol name 0 ∷ [] → new ≡ map made_constant (range_with_len 0 (i + 1))
next_constant i name old new are named_so is =
    is ∙ ((λ k. are k ++ symbol (named_so k) 0 ∷ []) ∙ sym (map-range_with_len_more made_constant 0 i i (omega arith)))
