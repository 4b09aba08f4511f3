-- The bits of the arguments of patterns by numbers are those of the patterns that are asked.
use Rattle.std.specs.Prelude.{◌≡◌, ℕ, zero, suc, ◌+◌, ◌-◌, ◌<◌, ◌≤◌, List, [], ◌∷◌, ◌++◌, map, length, Option, None, Some, get_or, slice_get, Bool, true, false, ◌&&◌, ◌||◌, ◌==◌, if◌then◌else◌, refl}
use Rattle.std.specs.List.{list_any}
use Rattle.std.proofs.Common.{sym, ap, subst, ◌∙◌, arith, eq-eqb, ⊎_elim}
use Rattle.std.proofs.lemmas.Bool.{cases_eq, cases_lt}
use Rattle.std.proofs.lemmas.Bool.Decides.{Decides-eqb}
use Rattle.std.proofs.lemmas.List.{get_or-map, length-map, get_or_past, get_or_append_left, get_or-append-add}
use Rattle.fort_theory.specs.Patterns.{Pattern, Patterns, Any, At, NoPattern, MorePatterns}
use Rattle.fort_theory.proofs.Lists.{none-some, some-injective}
use Rattle.fort_tables.proofs.EqualTests.{test_from_apart}
use Rattle.fort_alike.specs.AtomRules.{same_pattern, is_there}
use Rattle.fort_alike.specs.PatternNumbers.{PatternNumber, AreAt, IsNumberOf}
use Rattle.fort_alike.proofs.Bits.{Decides-same_pattern, same_from_iff}
use Rattle.fort_label_bits.specs.NumberedView.{AreNumbersOf}
use Rattle.fort_label_bits.specs.RootPlaces.{root_of}
use Rattle.fort_label_bits.specs.RowBits.{bit_of, HasBits}
use Rattle.fort_label_bits.proofs.RootPlaceLaws.{any_false}
use Rattle.fort_mark_keys.specs.AskedMarks.{is_argument, stands_under, asks_pattern}
use Rattle.fort_mark_keys.specs.AskedPlaces.{argument, is_bit_at, adds_bit, HaveArgumentsWithin, NoneListedTwice}

-- places of arguments are those of listed patterns
place-within : (listed : List Pattern) (ks : List ℕ) (ps : Patterns) (j k : ℕ) → AreAt listed ks ps → slice_get ks j ≡ Some k → k < length listed
place-within listed [] ps j k h e = absurd (none-some e)
place-within listed (m ∷ ks) NoPattern j k h e = absurd h
place-within listed (m ∷ ks) (MorePatterns p ps) zero k h e = subst (λ i. i < length listed) (some-injective e) h.0
place-within listed (m ∷ ks) (MorePatterns p ps) (suc j) k h e = place-within listed ks ps j k h.2 e

at-within : (listed : List Pattern) (ks : List ℕ) (ps : Patterns) (j k : ℕ) (b : Bool) → AreAt listed ks ps → (if b then slice_get ks j else None) ≡ Some k → k < length listed
at-within listed ks ps j k true h e = place-within listed ks ps j k h e
at-within listed ks ps j k false h e = absurd (none-some e)

argument-within : (listed : List Pattern) (row : PatternNumber) (p : Pattern) (x : Option ℕ) (j k : ℕ) → IsNumberOf listed row p → argument x j row ≡ Some k → k < length listed
argument-within listed row p None j k h e = absurd (none-some e)
argument-within listed None p (Some f) j k h e = absurd (none-some e)
argument-within listed (Some w) Any (Some f) j k h e = absurd h
argument-within listed (Some w) (At g ps) (Some f) j k h e = at-within listed w.1 ps j k (w.0 == f) h.1 e

pub HaveArgumentsWithin-numbers : (listed : List Pattern) (rows : List PatternNumber) → AreNumbersOf listed rows → HaveArgumentsWithin rows
HaveArgumentsWithin-numbers listed rows are i x j k l e =
    let m : i < length listed = omega (arith, are.count) in
    let low = argument-within listed (get_or rows i None) (get_or listed i Any) x j k (are.each i m) e in
    omega (arith, low, are.count)

-- a test of the patterns, one by one
list_any-numbers : (f : PatternNumber → Bool) (g : Pattern → Bool) (listed : List Pattern) (rows : List PatternNumber) → length rows ≡ length listed
    → ((i : ℕ) → i < length listed → f (get_or rows i None) ≡ g (get_or listed i Any)) → list_any f rows ≡ list_any g listed
list_any-numbers f g [] [] l h = refl
list_any-numbers f g [] (r ∷ rows) l h = absurd (omega arith)
list_any-numbers f g (p ∷ listed) [] l h = absurd (omega arith)
list_any-numbers f g (p ∷ listed) (r ∷ rows) l h =
    let here : f r ≡ g p = h 0 (omega arith) in
    let rest = list_any-numbers f g listed rows (omega arith) (λ i m. h (suc i) (omega arith)) in
    λ i. here i || rest i

and-false : (b : Bool) → (b && false) ≡ false
and-false true = refl
and-false false = refl

or-false : (b : Bool) → (b || false) ≡ b
or-false true = refl
or-false false = refl

abbrev isnt_any : Pattern → Bool
isnt_any Any = false
isnt_any (At g ps) = true

is_there-number : (listed : List Pattern) (row : PatternNumber) (p : Pattern) → IsNumberOf listed row p → is_there (root_of row) ≡ isnt_any p
is_there-number listed None Any h = refl
is_there-number listed None (At g ps) h = absurd h
is_there-number listed (Some w) Any h = absurd h
is_there-number listed (Some w) (At g ps) h = refl

asks-each : (listed : List Pattern) (x : Option ℕ) (j : ℕ) (p : Pattern) → list_any (λ q. isnt_any p && stands_under x j p q) listed ≡ asks_pattern listed x j p
asks-each listed x j Any = any_false (λ q. false) listed (λ q. refl)
asks-each listed x j (At g ps) = refl

module _ (listed : List Pattern) (rows : List PatternNumber) (are : AreNumbersOf listed rows) (once : NoneListedTwice listed) (base : ℕ) where
  place-one : (i k : ℕ) → i < length listed → k < length listed → get_or listed i Any ≡ get_or listed k Any → i ≡ k
  place-one i k l m e = ⊎_elim
      (λ (b : i < k). absurd (once i k b m e))
      (λ (b : k ≤ i). ⊎_elim (λ (s : i ≡ k). s) (λ (n : i ≡ k → ⊥). absurd (once k i (let c : (i ≡ k) → ⊥ = n in omega arith) l (sym e))) (cases_eq i k))
      (cases_lt i k)

  same-place : (i k : ℕ) → i < length listed → k < length listed → same_pattern (get_or listed i Any) (get_or listed k Any) ≡ (i == k)
  same-place i k l m =
      same_from_iff (same_pattern (get_or listed i Any) (get_or listed k Any)) (i == k) (Decides-same_pattern (get_or listed i Any) (get_or listed k Any)) (Decides-eqb i k)
      ((λ e. place-one i k l m e), (λ e. ap (λ n. get_or listed n Any) e))

  -- the bit of the pattern at a place
  module _ (k : ℕ) (low : k < length listed) where
    abbrev p : Pattern
    p = get_or listed k Any

    bit-one : (i : ℕ) → i < length listed → is_bit_at base rows (base + k) (Some i) ≡ (isnt_any p && same_pattern (get_or listed i Any) p)
    bit-one i l =
        ⊎_elim
        (λ (e : i ≡ k).
        let there : is_there (root_of (get_or rows i None)) ≡ isnt_any p = ap (λ n. is_there (root_of (get_or rows n None))) e ∙ is_there-number listed (get_or rows k None) p (are.each k low) in
        let left : (base + i == base + k) ≡ true = eq-eqb (base + i) (base + k) (ap (λ n. base + n) e) in
        let right : same_pattern (get_or listed i Any) p ≡ true = same-place i k l low ∙ eq-eqb i k e in
        (λ z. there z && left z) ∙ ap (λ b. isnt_any p && b) (sym right))
        (λ (n : i ≡ k → ⊥).
        let left : (base + i == base + k) ≡ false = test_from_apart (base + i) (base + k) (λ e. n (omega (arith, e))) in
        let right : same_pattern (get_or listed i Any) p ≡ false = same-place i k l low ∙ test_from_apart i k n in
        ap (λ b. is_there (root_of (get_or rows i None)) && b) left
        ∙ (and-false (is_there (root_of (get_or rows i None))) ∙ (sym (and-false (isnt_any p)) ∙ ap (λ b. isnt_any p && b) (sym right))))
        (cases_eq i k)

    args-same : (ks : List ℕ) (ps : Patterns) (j : ℕ) → AreAt listed ks ps → is_bit_at base rows (base + k) (slice_get ks j) ≡ (isnt_any p && is_argument p j ps)
    args-same [] NoPattern j h = sym (and-false (isnt_any p))
    args-same [] (MorePatterns q qs) j h = absurd h
    args-same (m ∷ ks) NoPattern j h = absurd h
    args-same (m ∷ ks) (MorePatterns q qs) zero h = bit-one m h.0 ∙ ap (λ r. isnt_any p && same_pattern r p) h.1
    args-same (m ∷ ks) (MorePatterns q qs) (suc j) h = args-same ks qs j h.2

    if-same : (ks : List ℕ) (ps : Patterns) (j : ℕ) (c : Bool) → AreAt listed ks ps
        → is_bit_at base rows (base + k) (if c then slice_get ks j else None) ≡ (isnt_any p && (c && is_argument p j ps))
    if-same ks ps j true h = args-same ks ps j h
    if-same ks ps j false h = sym (and-false (isnt_any p))

    pattern-same : (x : Option ℕ) (j : ℕ) (row : PatternNumber) (q : Pattern) → IsNumberOf listed row q
        → adds_bit base rows x j (base + k) row ≡ (isnt_any p && stands_under x j p q)
    pattern-same None j row q h = sym (and-false (isnt_any p))
    pattern-same (Some f) j None Any h = sym (and-false (isnt_any p))
    pattern-same (Some f) j None (At g ps) h = absurd h
    pattern-same (Some f) j (Some w) Any h = absurd h
    pattern-same (Some f) j (Some w) (At g ps) h =
        if-same w.1 ps j (w.0 == f) h.1 ∙ ap (λ n. isnt_any p && ((n == f) && is_argument p j ps)) h.0

    asked-place : (x : Option ℕ) (j : ℕ) → list_any (adds_bit base rows x j (base + k)) rows ≡ asks_pattern listed x j p
    asked-place x j =
        list_any-numbers (adds_bit base rows x j (base + k)) (λ q. isnt_any p && stands_under x j p q) listed rows are.count
        (λ i l. pattern-same x j (get_or rows i None) (get_or listed i Any) (are.each i l))
        ∙ asks-each listed x j p

  -- no other bit
  bit-outside : (q : ℕ) (o : Option ℕ) → ((k : ℕ) → o ≡ Some k → base + k ≡ q → ⊥) → is_bit_at base rows q o ≡ false
  bit-outside q None h = refl
  bit-outside q (Some k) h =
      ap (λ b. is_there (root_of (get_or rows k None)) && b) (test_from_apart (base + k) q (h k refl)) ∙ and-false (is_there (root_of (get_or rows k None)))

  none-outside : (x : Option ℕ) (j q : ℕ) → ((k : ℕ) → k < length listed → base + k ≡ q → ⊥) → list_any (adds_bit base rows x j q) rows ≡ false
  none-outside x j q h =
      list_any-numbers (adds_bit base rows x j q) (λ p. false) listed rows are.count
      (λ i l. bit-outside q (argument x j (get_or rows i None)) (λ k e. h k (argument-within listed (get_or rows i None) (get_or listed i Any) x j k (are.each i l) e)))
      ∙ any_false (λ p. false) listed (λ p. refl)

  -- Result: with the bits of the arguments a row has those of the patterns that are asked behind the ones that it had
  pub HasBits-arguments : (bits : List Bool) (old new : List ℕ) (x : Option ℕ) (j : ℕ) → length bits ≡ base → HasBits bits old
      → ((q : ℕ) → bit_of q new ≡ (bit_of q old || list_any (adds_bit base rows x j q) rows)) → HasBits (bits ++ map (asks_pattern listed x j) listed) new
  HasBits-arguments bits old new x j size has adds q =
      let asked : List Bool = map (asks_pattern listed x j) listed in
      let whole : bit_of q new ≡ (get_or bits q false || list_any (adds_bit base rows x j q) rows) = adds q ∙ ap (λ b. b || list_any (adds_bit base rows x j q) rows) (has q) in
      ⊎_elim
      (λ (l : q < base).
      whole
      ∙ (ap (λ b. get_or bits q false || b) (none-outside x j q (λ k m e. absurd (omega (arith, l, e))))
      ∙ (or-false (get_or bits q false) ∙ sym (get_or_append_left bits asked false q (omega (arith, l, size))))))
      (λ (l : base ≤ q).
      let past : get_or bits q false ≡ false = get_or_past bits q false (omega (arith, l, size)) in
      let at : length bits + (q - base) ≡ q = omega (arith, l, size) in
      let own : get_or (bits ++ asked) q false ≡ get_or asked (q - base) false = ap (λ n. get_or (bits ++ asked) n false) (sym at) ∙ get_or-append-add bits asked (q - base) false in
      whole
      ∙ (ap (λ b. b || list_any (adds_bit base rows x j q) rows) past
      ∙ (⊎_elim
      (λ (m : q - base < length listed).
      let is : base + (q - base) ≡ q = omega (arith, l) in
      ap (λ n. list_any (adds_bit base rows x j n) rows) (sym is)
      ∙ (asked-place (q - base) m x j ∙ sym (get_or-map (asks_pattern listed x j) listed (q - base) Any false m)))
      (λ (m : length listed ≤ q - base).
      none-outside x j q (λ k n e. absurd (omega (arith, m, n, e)))
      ∙ sym (get_or_past asked (q - base) false (omega (arith, m, length-map listed (asks_pattern listed x j)))))
      (cases_lt (q - base) (length listed))
      ∙ sym own)))
      (cases_lt q base)
