-- The test by numbers is the rule's test, for the first's patterns from bit 0 on and for the second's behind them; the facts' bits come last.
use Rattle.std.specs.Prelude.{◌≡◌, ℕ, zero, suc, ◌+◌, ◌<◌, List, [], ◌∷◌, ◌++◌, map, length, drop, Option, None, Some, get_or, Bool, ◌==◌, ◌&&◌, refl}
use Rattle.std.proofs.Common.{sym, ap, ◌∙◌, arith}
use Rattle.fort_theory.specs.Patterns.{Pattern, Patterns, Any, At, NoPattern, MorePatterns}
use Rattle.fort_tables.specs.BitRows.{has_bit}
use Rattle.fort_alike.specs.Alike.{Fact, facts_of}
use Rattle.fort_alike.specs.ListedAtoms.{Mark, OfFirst, OfSecond, OfBoth, ListedAtom}
use Rattle.fort_alike.specs.AtomRules.{marks_of, place, has, all_inside, inside, bit_in}
use Rattle.fort_alike.specs.PatternNumbers.{PatternNumber, AreAt, IsNumberOf, all_at, number_inside}
use Rattle.fort_alike.proofs.BitPlaces.{NoneTwice, place-get_or}

-- the mark at a place of a list that begins with those of some patterns
mark-at : (of : Pattern → Mark) (xs : List Pattern) (ys : List Mark) (k : ℕ) (d : Mark) → k < length xs → get_or (map of xs ++ ys) k d ≡ of (get_or xs k Any)
mark-at of [] ys k d l = absurd (omega arith)
mark-at of (x ∷ xs) ys zero d l = refl
mark-at of (x ∷ xs) ys (suc k) d l = mark-at of xs ys k d (omega arith)

mark-behind : (of : Pattern → Mark) (xs : List Pattern) (ys : List Mark) (k : ℕ) (d : Mark) → get_or (map of xs ++ ys) (length xs + k) d ≡ get_or ys k d
mark-behind of [] ys k d = let e : 0 + k ≡ k = omega arith in ap (λ i. get_or ys i d) e
mark-behind of (x ∷ xs) ys k d =
    let e : suc (length xs) + k ≡ suc (length xs + k) = omega arith in
    ap (λ i. get_or (of x ∷ (map of xs ++ ys)) i d) e ∙ mark-behind of xs ys k d

length-marks : (of : Pattern → Mark) (xs : List Pattern) (ys : List Mark) → length (map of xs ++ ys) ≡ length xs + length ys
length-marks of [] ys = omega arith
length-marks of (x ∷ xs) ys = omega (arith, length-marks of xs ys)

module _ (a : ListedAtom) (once : NoneTwice (marks_of a)) where
  pub first_bit : (k : ℕ) (p : Pattern) (w : List ℕ) → k < length a.lefts → get_or a.lefts k Any ≡ p → has_bit (drop 1 w) (0 + k) ≡ bit_in a (OfFirst p) w
  first_bit k p w l e =
      let ys : List Mark = map OfSecond a.rights ++ map OfBoth (facts_of a.atom.kind) in
      let m : k < length (marks_of a) = omega (arith, length-marks OfFirst a.lefts (map OfSecond a.rights ++ map OfBoth (facts_of a.atom.kind))) in
      let at : get_or (marks_of a) k (OfFirst Any) ≡ OfFirst p = mark-at OfFirst a.lefts ys k (OfFirst Any) l ∙ ap OfFirst e in
      let z : 0 + k ≡ k = omega arith in
      ap (λ i. has_bit (drop 1 w) i) (z ∙ sym (place-get_or (marks_of a) (OfFirst Any) k once m)) ∙ ap (λ n. has (marks_of a) w n) at

  pub second_bit : (k : ℕ) (p : Pattern) (w : List ℕ) → k < length a.rights → get_or a.rights k Any ≡ p
      → has_bit (drop 1 w) (length a.lefts + k) ≡ bit_in a (OfSecond p) w
  second_bit k p w l e =
      let zs : List Mark = map OfBoth (facts_of a.atom.kind) in
      let m : length a.lefts + k < length (marks_of a) =
      omega (
        arith,
        length-marks OfFirst a.lefts (map OfSecond a.rights ++ map OfBoth (facts_of a.atom.kind)),
        length-marks OfSecond a.rights
            (map OfBoth (facts_of a.atom.kind)),
      ) in
      let at : get_or (marks_of a) (length a.lefts + k) (OfFirst Any) ≡ OfSecond p =
      mark-behind OfFirst a.lefts (map OfSecond a.rights ++ map OfBoth (facts_of a.atom.kind)) k (OfFirst Any)
      ∙ (mark-at OfSecond a.rights zs k (OfFirst Any) l ∙ ap OfSecond e) in
      ap (λ i. has_bit (drop 1 w) i) (sym (place-get_or (marks_of a) (OfFirst Any) (length a.lefts + k) once m)) ∙ ap (λ n. has (marks_of a) w n) at

-- the bit of a fact, behind those of all patterns, of which some may stand twice
place-behind_firsts : (xs : List Pattern) (ys : List Mark) (k : Fact) → length xs + place ys (OfBoth k) ≡ place (map OfFirst xs ++ ys) (OfBoth k)
place-behind_firsts [] ys k = omega arith
place-behind_firsts (x ∷ xs) ys k = omega (arith, place-behind_firsts xs ys k)

place-behind_seconds : (xs : List Pattern) (ys : List Mark) (k : Fact) → length xs + place ys (OfBoth k) ≡ place (map OfSecond xs ++ ys) (OfBoth k)
place-behind_seconds [] ys k = omega arith
place-behind_seconds (x ∷ xs) ys k = omega (arith, place-behind_seconds xs ys k)

pub fact_bit : (a : ListedAtom) (k : Fact) (w : List ℕ)
    → has_bit (drop 1 w) (length a.lefts + length a.rights + place (map OfBoth (facts_of a.atom.kind)) (OfBoth k)) ≡ bit_in a (OfBoth k) w
fact_bit a k w =
    let zs : List Mark = map OfBoth (facts_of a.atom.kind) in
    let e : length a.lefts + length a.rights + place zs (OfBoth k) ≡ place (marks_of a) (OfBoth k) =
    omega (arith, place-behind_firsts a.lefts (map OfSecond a.rights ++ zs) k, place-behind_seconds a.rights zs k) in
    ap (λ i. has_bit (drop 1 w) i) e

module _ (bit : Mark → List ℕ → Bool) (of : Pattern → Mark) (listed : List Pattern) (base : ℕ)
    (reads : (k : ℕ) (p : Pattern) (w : List ℕ) → k < length listed → get_or listed k Any ≡ p → has_bit (drop 1 w) (base + k) ≡ bit (of p) w) where
  all_at-all_inside : (ks : List ℕ) (ps : Patterns) (ws : List (List ℕ)) → AreAt listed ks ps → all_at base ks ws ≡ all_inside bit of ws ps
  all_at-all_inside [] NoPattern ws h = refl
  all_at-all_inside [] (MorePatterns p ps) ws h = absurd h
  all_at-all_inside (k ∷ ks) NoPattern ws h = absurd h
  all_at-all_inside (k ∷ ks) (MorePatterns p ps) [] h = refl
  all_at-all_inside (k ∷ ks) (MorePatterns p ps) (w ∷ ws) h =
      ap (λ b. b && all_at base ks ws) (reads k p w h.0 h.1) ∙ ap (λ b. bit (of p) w && b) (all_at-all_inside ks ps ws h.2)

  number_inside-inside : (row : PatternNumber) (p : Pattern) (x : Option ℕ) (ws : List (List ℕ)) → IsNumberOf listed row p
      → number_inside base row x ws ≡ inside bit of x ws p
  number_inside-inside row p None ws h = refl
  number_inside-inside None Any (Some f) ws h = refl
  number_inside-inside None (At g ps) (Some f) ws h = absurd h
  number_inside-inside (Some w) Any (Some f) ws h = absurd h
  number_inside-inside (Some w) (At g ps) (Some f) ws h =
      ap (λ n. (n == f) && all_at base w.1 ws) h.0 ∙ ap (λ b. (g == f) && b) (all_at-all_inside w.1 ps ws h.1)

pub first_row : (a : ListedAtom) → NoneTwice (marks_of a) → (row : PatternNumber) (p : Pattern) (x : Option ℕ) (ws : List (List ℕ)) → IsNumberOf a.lefts row p
    → number_inside 0 row x ws ≡ inside (bit_in a) OfFirst x ws p
first_row a once row p x ws h = number_inside-inside (bit_in a) OfFirst a.lefts 0 (first_bit a once) row p x ws h

pub second_row : (a : ListedAtom) → NoneTwice (marks_of a) → (row : PatternNumber) (p : Pattern) (x : Option ℕ) (ws : List (List ℕ)) → IsNumberOf a.rights row p
    → number_inside (length a.lefts) row x ws ≡ inside (bit_in a) OfSecond x ws p
second_row a once row p x ws h = number_inside-inside (bit_in a) OfSecond a.rights (length a.lefts) (second_bit a once) row p x ws h
