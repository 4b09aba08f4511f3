-- Digits in a set of tuple symbols, where places are by number.
use Rattle.std.proofs.Common.{◌≡◌, ℕ, ◌<◌, ◌^◌, List, [], ◌∷◌, ◌++◌, map, length, get_or, Option, None, Some, MatchOption, Result, Ok, Err, OnOk, OnErr, ap, sym, ◌∙◌, arith, subst, ⊎_elim}
use Rattle.std.specs.Int.Digits.{number_from_digits, AllBelowBase}
use Rattle.std.proofs.lemmas.Bool.{cases_lt}
use Rattle.std.proofs.lemmas.Int.Digits.{number_lt}
use Rattle.std.proofs.lemmas.List.{length-map, map-append, get_or-map, length_push, get_or_push, get_or_append_left}
use Rattle.fort_tuple_symbols.specs.DigitNumbers.{AreDigits, digits_at}
use Rattle.fort_tuple_symbols.specs.SymbolSetInside.{AreFewNumbers}
use Rattle.fort_tuple_symbols.proofs.DigitNumberLaws.{length-digits_at, digits_at-below, digits_of_number, number_of_digits}

-- the digits at a place
digits_there : (b c : ℕ) (ns ds : List ℕ) (q : ℕ) → q < length (map (digits_at b c) ns) → get_or (map (digits_at b c) ns) q [] ≡ ds → (q < length ns) × (digits_at b c (get_or ns q 0) ≡ ds)
digits_there b c ns ds q l e =
    let m : q < length ns = omega (arith, l, length-map ns (digits_at b c)) in
    (m, sym (get_or-map (digits_at b c) ns q 0 [] m) ∙ e)

-- other lists than such digits are absent
pub absent_not_digits : (b c : ℕ) (ns ds : List ℕ) → 0 < b → AreFewNumbers b c ns → (AreDigits b c ds → ⊥) → (q : ℕ) → q < length (map (digits_at b c) ns) → get_or (map (digits_at b c) ns) q [] ≡ ds → ⊥
absent_not_digits b c ns ds some few bad q l e =
    let t = digits_there b c ns ds q l e in
    let n = get_or ns q 0 in
    bad (record {
      width = ap length (sym t.1) ∙ length-digits_at b c n;
      below = subst (AllBelowBase b) t.1 (digits_at-below b c n some (few.small q t.0));
    })

-- digits whose number is absent are absent
pub absent_number : (b c : ℕ) (ns ds : List ℕ) (n : ℕ) → 0 < b → AreFewNumbers b c ns → n ≡ number_from_digits b ds → ((q : ℕ) → q < length ns → get_or ns q 0 ≡ n → ⊥) → (q : ℕ) → q < length (map (digits_at b c) ns) → get_or (map (digits_at b c) ns) q [] ≡ ds → ⊥
absent_number b c ns ds n some few is none q l e =
    let t = digits_there b c ns ds q l e in
    none q t.0 (sym (number_of_digits b c (get_or ns q 0) some (few.small q t.0)) ∙ (ap (number_from_digits b) t.1 ∙ sym is))

-- digits have their number
pub digits_back : (b c : ℕ) (ds : List ℕ) (n : ℕ) → AreDigits b c ds → n ≡ number_from_digits b ds → digits_at b c n ≡ ds
digits_back b c ds n d is = ap (digits_at b c) is ∙ (ap (λ k. digits_at b k (number_from_digits b ds)) (sym d.width) ∙ digits_of_number b ds d.below)

-- digits stand where their number does
pub found_number : (b c : ℕ) (ns ds : List ℕ) (n q : ℕ) → AreDigits b c ds → n ≡ number_from_digits b ds → q < length ns → get_or ns q 0 ≡ n → (q < length (map (digits_at b c) ns)) × (get_or (map (digits_at b c) ns) q [] ≡ ds)
found_number b c ns ds n q d is l e = (
  omega (arith, l, length-map ns (digits_at b c)),
  get_or-map (digits_at b c) ns q 0 [] l ∙ (ap (digits_at b c) e ∙ digits_back b c ds n d is),
)

-- what a look-up finds
abbrev pub IsFoundIn : List (List ℕ) → List ℕ → Option ℕ → Type 0
IsFoundIn dss ds r = MatchOption r ((q : ℕ) → q < length dss → get_or dss q [] ≡ ds → ⊥) (λ q. (q < length dss) × (get_or dss q [] ≡ ds))

pub found_by_number : (b c : ℕ) (ns ds : List ℕ) (n : ℕ) (r : Option ℕ) → 0 < b → AreFewNumbers b c ns → AreDigits b c ds → n ≡ number_from_digits b ds → MatchOption r ((q : ℕ) → q < length ns → get_or ns q 0 ≡ n → ⊥) (λ q. (q < length ns) × (get_or ns q 0 ≡ n)) → IsFoundIn (map (digits_at b c) ns) ds r
found_by_number b c ns ds n None some few d is h = absent_number b c ns ds n some few is h
found_by_number b c ns ds n (Some q) some few d is h = found_number b c ns ds n q d is h.0 h.1

pub number_absent : (b c : ℕ) (ns ds : List ℕ) (n : ℕ) → AreDigits b c ds → n ≡ number_from_digits b ds → ((q : ℕ) → q < length (map (digits_at b c) ns) → get_or (map (digits_at b c) ns) q [] ≡ ds → ⊥) → (q : ℕ) → q < length ns → get_or ns q 0 ≡ n → ⊥
number_absent b c ns ds n d is none q l e = let f = found_number b c ns ds n q d is l e in none q f.0 f.1

pub number_small : (b c : ℕ) (ds : List ℕ) (n : ℕ) → AreDigits b c ds → n ≡ number_from_digits b ds → n < b ^ c
number_small b c ds n d is = omega (arith, number_lt b ds d.below, ap (λ k. b ^ k) d.width)

-- one more
pub numbers_pushed : (b c : ℕ) (ns ds : List ℕ) (n : ℕ) → AreDigits b c ds → n ≡ number_from_digits b ds → map (digits_at b c) (ns ++ n ∷ []) ≡ map (digits_at b c) ns ++ ds ∷ []
numbers_pushed b c ns ds n d is = map-append (digits_at b c) ns (n ∷ []) ∙ ap (λ (es : List ℕ). map (digits_at b c) ns ++ es ∷ []) (digits_back b c ds n d is)

pub few_pushed : (b c : ℕ) (ns ds : List ℕ) (n : ℕ) → AreFewNumbers b c ns → AreDigits b c ds → n ≡ number_from_digits b ds → AreFewNumbers b c (ns ++ n ∷ [])
few_pushed b c ns ds n few d is = record {
  few = few.few;
  small = λ q l. ⊎_elim
      (λ m. omega (arith, get_or_append_left ns (n ∷ []) 0 q m, few.small q m))
      (λ m. omega (arith, get_or_push ns n 0 q (omega (arith, length_push ns n)), number_small b c ds n d is))
      (cases_lt q (length ns));
}

-- and after a call that adds one or fails
pub few_after : {A E : Type 0} (r : Result A E) (b c : ℕ) (ns new ds : List ℕ) (n : ℕ) → OnOk r (new ≡ ns ++ n ∷ []) → OnErr r (new ≡ ns) → AreFewNumbers b c ns → AreDigits b c ds → n ≡ number_from_digits b ds → AreFewNumbers b c new
few_after (Ok x) b c ns new ds n ok err few d is = subst (AreFewNumbers b c) (sym ok) (few_pushed b c ns ds n few d is)
few_after (Err x) b c ns new ds n ok err few d is = subst (AreFewNumbers b c) (sym err) few
