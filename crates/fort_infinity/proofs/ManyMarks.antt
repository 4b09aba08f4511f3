-- What is marked in the two halves of a label's bits, and the words of a label as they are written.
use Rattle.std.proofs.Common.{◌≡◌, ◌≢◌, ℕ, ◌+◌, ◌-◌, ◌*◌, ◌/◌, ◌%◌, ◌<◌, ◌≤◌, ◌==◌, ◌&&◌, ◌||◌, List, [], ◌∷◌, map, take, drop, set, length, get_or, Result, Ok, Err, nat_cmp, Some, Bool, true, false, eq-eqb, ⊎_elim, refl, ap, sym, ◌∙◌, arith, get_or-set_same, get_or-set_other, length-drop}
use Rattle.std.proofs.lemmas.Bool.{cases_lt, eqb-true, lt-ltb, le-ltb}
use Rattle.std.proofs.lemmas.List.{length-map, get_or-map, ext_get_or, length-take-le, get_or-take, get_or_past, get_or-drop, length-set}
use Rattle.std.proofs.lemmas.List.Sorted.{searched}
use Rattle.std.proofs.lemmas.Nat.Bits.{bit_at-zero}
use Rattle.std.specs.Int.{bit_at}
use Rattle.std.specs.List.Sorted.{IsBinarySearchResult}
use Rattle.std.specs.List.{insert}
use Rattle.fort_theory.specs.Signatures.{Signature, arity_of}
use Rattle.fort_tables.specs.Tuples.{TupleSymbol, arity}
use Rattle.fort_tables.specs.Entries.{Entry}
use Rattle.fort_tables.specs.Tables.{Table}
use Rattle.fort_tables.specs.BitRows.{AreWords, has_bit, bit_row, words_for}
use Rattle.fort_tables.proofs.TupleLaws.{arity_from_get}
use Rattle.fort_tables.proofs.BitRowLaws.{has_bit-drop, bit_row_is}
use Rattle.fort_tables.proofs.EqualTests.{test_from_apart}
use Rattle.fort_tables.specs.Projections.{has_state, gives}
use Rattle.fort_tables.proofs.SearchLaws.{same_truth}
use Rattle.fort_tables.specs.Counts.{is_infinite, count_at}
use Rattle.fort_tables.specs.Counts as counts
use Rattle.fort_tables.specs.ManyLabels.{has_many, many_bit, gives_many}
use Rattle.fort_tables.specs.ManyEntries.{IsManyEntry, AreManyChoices}
use Rattle.fort_tables.proofs.CountPlaces.{count_at-ascending, count_at-none}
use Rattle.fort_findings.specs.FindingView.{as_count}
use Rattle.fort_infinity.specs.ManyCounts.{is_many}
use Rattle.fort_findings.specs.declared.count.Count.{Count}

-- equal places are equal numbers
shifted : (n a b : ℕ) → (n + a == n + b) ≡ (a == b)
shifted n a b = same_truth (n + a == n + b) (a == b) (λ e. eq-eqb a b (let h = eqb-true (n + a) (n + b) e in omega arith)) (λ e. eq-eqb (n + a) (n + b) (let h = eqb-true a b e in omega arith))

or_nothing : (a b : Bool) → a ≡ false → (a || b) ≡ b
or_nothing true b h = absurd cc
or_nothing false b h = refl

-- one bit set: that of a state
pub given_marked : (x q : ℕ) (new old : List ℕ) → has_bit new (128 + q) ≡ ((128 + x == 128 + q) || has_bit old (128 + q)) → has_state new q ≡ ((x == q) || has_state old q)
given_marked x q new old h = h ∙ ap (λ b. b || has_bit old (128 + q)) (shifted 128 x q)

pub many_unmarked : (m x q : ℕ) (endless : Bool) (new old : List ℕ) → x < m → endless ≡ false → has_bit new (128 + (m + q)) ≡ ((128 + x == 128 + (m + q)) || has_bit old (128 + (m + q))) → has_many m new q ≡ (((x == q) && endless) || has_many m old q)
many_unmarked m x q endless new old l e h =
    let apart : (128 + x == 128 + (m + q)) ≡ false = test_from_apart (128 + x) (128 + (m + q)) (λ y. absurd (omega arith)) in
    h ∙ (or_nothing (128 + x == 128 + (m + q)) (has_many m old q) apart ∙ sym (ap (λ b. ((x == q) && b) || has_many m old q) e ∙ or_nothing ((x == q) && false) (has_many m old q) (and_false (x == q))))
  where
    and_false : (a : Bool) → (a && false) ≡ false
    and_false true = refl
    and_false false = refl

-- and the second bit
pub given_still : (m x q : ℕ) (new mid old : List ℕ) → q < m → has_bit new (128 + q) ≡ ((128 + (m + x) == 128 + q) || has_bit mid (128 + q)) → has_state mid q ≡ ((x == q) || has_state old q) → has_state new q ≡ ((x == q) || has_state old q)
given_still m x q new mid old l h k =
    let apart : (128 + (m + x) == 128 + q) ≡ false = test_from_apart (128 + (m + x)) (128 + q) (λ y. absurd (omega arith)) in
    h ∙ (or_nothing (128 + (m + x) == 128 + q) (has_state mid q) apart ∙ k)

pub many_marked : (m x q : ℕ) (endless : Bool) (new mid old : List ℕ) → x < m → endless ≡ true → has_bit new (128 + (m + q)) ≡ ((128 + (m + x) == 128 + (m + q)) || has_bit mid (128 + (m + q)))
    → has_bit mid (128 + (m + q)) ≡ ((128 + x == 128 + (m + q)) || has_bit old (128 + (m + q))) → has_many m new q ≡ (((x == q) && endless) || has_many m old q)
many_marked m x q endless new mid old l e h k =
    let apart : (128 + x == 128 + (m + q)) ≡ false = test_from_apart (128 + x) (128 + (m + q)) (λ y. absurd (omega arith)) in
    let same : (128 + (m + x) == 128 + (m + q)) ≡ (x == q) = shifted 128 (m + x) (m + q) ∙ shifted m x q in
    h ∙ ((λ i. same i || (k ∙ or_nothing (128 + x == 128 + (m + q)) (has_many m old q) apart) i) ∙ sym (ap (λ b. b || has_many m old q) (ap (λ b. (x == q) && b) e ∙ and_true (x == q))))
  where
    and_true : (a : Bool) → (a && true) ≡ a
    and_true true = refl
    and_true false = refl

weakly : (xs : List ℕ) → ((i j : ℕ) → i < j → j < length xs → get_or xs i 0 < get_or xs j 0) → (i j : ℕ) → i ≤ j → j < length xs → get_or xs i 0 ≤ get_or xs j 0
weakly xs up i j l m = ⊎_elim (λ (n : i < j). omega (arith, up i j n m)) (λ (n : j ≤ i). let same : i ≡ j = omega arith in omega (arith, ap (λ k. get_or xs k 0) same)) (cases_lt i j)

-- the count beside a state, by the search
pub many_found : (alone : List ℕ) (ns : List Count) (k place : ℕ) (r : Result ℕ ℕ) (d : Count) (b : Bool) → IsBinarySearchResult (λ y. nat_cmp y k) alone r → r ≡ Ok place → ((i j : ℕ) → i < j → j < length alone → get_or alone i 0 < get_or alone j 0) → length ns ≡ length alone
    → b ≡ is_infinite (as_count (get_or ns place d)) → b ≡ is_many alone ns k
many_found alone ns k place r d b h e up sizes at =
    let s = rw e at (searched alone k r h (weakly alone up)) in
    let l : place < length alone = s.0 in
    let m : place < length ns = omega (arith, l, sizes) in
    let there = count_at-ascending alone (map as_count ns) place (as_count d) up l (length-map ns as_count ∙ sizes) in
    at ∙ sym (ap is_infinite (ap (count_at alone (map as_count ns)) (sym s.1) ∙ (there ∙ get_or-map as_count ns place d (as_count d) m)))

pub many_missing : (alone : List ℕ) (ns : List Count) (k place : ℕ) (r : Result ℕ ℕ) → IsBinarySearchResult (λ y. nat_cmp y k) alone r → r ≡ Err place → ((i j : ℕ) → i < j → j < length alone → get_or alone i 0 < get_or alone j 0) → false ≡ is_many alone ns k
many_missing alone ns k place r h e up =
    let s = rw e at (searched alone k r h (weakly alone up)) in
    sym (ap is_infinite (count_at-none alone (map as_count ns) k (λ j l same. ⊎_elim
    (λ (m : j < place). absurd (omega (arith, s.1 j m)))
    (λ (m : place ≤ j). absurd (omega (arith, s.2 j m l)))
    (cases_lt j place))))

-- a count of the list, as the definitions have it
pub infinite_listed : (ns : List Count) (i : ℕ) (d : Count) (b : Bool) → i < length ns → b ≡ is_infinite (as_count (get_or ns i d)) → b ≡ is_infinite (get_or (map as_count ns) i (counts.Finite 0))
infinite_listed ns i d b l h = h ∙ sym (ap is_infinite (get_or-map as_count ns i d (counts.Finite 0) l))

-- a list of states read from labels one by one
pub states_all : (f : List ℕ → ℕ) (labels : List (List ℕ)) (ks states : List ℕ) → length ks ≤ length states → ((k : ℕ) → k < length ks → get_or states k 0 ≡ f (get_or labels (get_or ks k 0) [])) → take (length ks) states ≡ map f (map (λ q. get_or labels q []) ks)
states_all f labels ks states l h =
    let n = length ks in
    let a = length-take-le n states l in
    let b : length (map (λ q. get_or labels q []) ks) ≡ n = length-map ks (λ q. get_or labels q []) in
    let e = length-map (map (λ q. get_or labels q []) ks) f in
    ext_get_or 0 (take n states) (map f (map (λ q. get_or labels q []) ks)) (omega (arith, a, b, e))
    (λ k p. let q : k < n = omega (arith, a) in
    get_or-take n states k 0 q ∙ (h k q ∙ sym (get_or-map f (map (λ q. get_or labels q []) ks) k [] 0 (omega (arith, b)) ∙ ap f (get_or-map (λ q. get_or labels q []) ks k 0 [] q))))

two_words : (w : List ℕ) → 2 ≤ length w → w ≡ get_or w 0 0 ∷ get_or w 1 0 ∷ drop 2 w
two_words [] l = absurd (omega arith)
two_words (a ∷ []) l = absurd (omega arith)
two_words (a ∷ b ∷ w) l = refl

-- Result: words with these first two and these bits are the label
pub label_written : (w : List ℕ) (n a b : ℕ) (p : ℕ → Bool) → length w ≡ words_for n + 2 → AreWords w → get_or w 0 0 ≡ a → get_or w 1 0 ≡ b → ((q : ℕ) → q < 64 * words_for n → has_state w q ≡ p q) → w ≡ a ∷ b ∷ bit_row n p
label_written w n a b p len small first second bits =
    let long : length (drop 2 w) ≡ words_for n = omega (arith, length-drop 2 w) in
    let rest : drop 2 w ≡ bit_row n p = bit_row_is n p (drop 2 w) long
    (λ i l. omega (arith, get_or-drop 2 w i 0, small (2 + i) (omega (arith, len, long))))
    (λ q l. let e : 64 * 2 + q ≡ 128 + q = omega arith in has_bit-drop 2 w q ∙ (ap (has_bit w) e ∙ bits q l)) in
    two_words w (omega arith) ∙ (λ i. first i ∷ second i ∷ rest i)

apart : (i j : ℕ) → i < j → i ≢ j
apart i j l e = omega arith

-- before anything is marked
pub first_set : (xs : List ℕ) (a b : ℕ) → 2 ≤ length xs → get_or (set (set xs 0 a) 1 b) 0 0 ≡ a
first_set xs a b l = get_or-set_other (set xs 0 a) 1 0 b 0 (apart 0 1 (omega arith)) ∙ get_or-set_same xs 0 a 0 (omega arith)

pub second_set : (xs : List ℕ) (a b : ℕ) → 2 ≤ length xs → get_or (set (set xs 0 a) 1 b) 1 0 ≡ b
second_set xs a b l = get_or-set_same (set xs 0 a) 1 b 0 (omega (arith, length-set xs 0 a))

pub none_marked : (xs : List ℕ) (a b q : ℕ) → ((k : ℕ) → k < length xs → get_or xs k 0 ≡ 0) → has_state (set (set xs 0 a) 1 b) q ≡ false
none_marked xs a b q h =
    let at = (128 + q) / 64 in
    let ne : at ≢ 1 = omega arith in
    let no : at ≢ 0 = omega arith in
    let none : get_or xs at 0 ≡ 0 = ⊎_elim (λ (l : at < length xs). h at l) (λ (l : length xs ≤ at). get_or_past xs at 0 l) (cases_lt at (length xs)) in
    ap (λ x. bit_at x ((128 + q) % 64) == 1) (get_or-set_other (set xs 0 a) 1 at b 0 ne ∙ (get_or-set_other xs 0 at a 0 no ∙ none))
    ∙ ap (λ x. x == 1) (bit_at-zero ((128 + q) % 64))

or_false : (a b : Bool) → b ≡ false → (a || b) ≡ a
or_false true b h = refl
or_false false b h = h

-- both halves of the bits
pub bits_written : (body : Table) (c : ℕ) (many : ℕ → Bool) (f : TupleSymbol) (ws : List (List ℕ)) (new old : List ℕ) → ((q : ℕ) → has_state old q ≡ false)
    → ((q : ℕ) → q < length body.presences → has_state new q ≡ (gives body c f ws q || has_state old q)) → ((q : ℕ) → has_many (length body.presences) new q ≡ (gives_many body c many f ws q || has_many (length body.presences) old q))
    → (i : ℕ) → has_state new i ≡ many_bit body c many f ws i
bits_written body c many f ws new old none given endless i =
    let m = length body.presences in
    ⊎_elim
    (λ (l : i < m). given i l ∙ (or_false (gives body c f ws i) (has_state old i) (none i) ∙ sym (rw (lt-ltb i m l) refl)))
    (λ (l : m ≤ i).
    let q = i - m in
    let at : m + q ≡ i = omega arith in
    ap (has_state new) (sym at) ∙ (endless q ∙ (or_false (gives_many body c many f ws q) (has_many m old q) (none (m + q)) ∙ sym (rw (le-ltb i m l) refl))))
    (cases_lt i m)

-- the choices under a symbol
pub choices_made : (body : Table) (c : ℕ) (many : ℕ → Bool) (labels : List (List ℕ)) (e : Entry) (sig : Signature) (g : ℕ) (s f : TupleSymbol) (most : ℕ) → IsManyEntry body c many labels e → sig ≡ body.signature → g < length body.signature → s ≡ e.symbol → f ≡ insert s c (Some g) → arity_of sig g ≡ Some most → AreManyChoices body c many labels e g f most
choices_made body c many labels e sig g s f most made same l p q a = record {
  entry = made;
  within = l;
  symbol = q ∙ ap (λ z. insert z c (Some g)) p;
  arity_is = sym (ap (λ z. arity z g) (sym same) ∙ (arity_from_get sig g most a).0);
}
