-- What stands in the lists of digits and of kids.
use Rattle.std.proofs.Common.{◌≡◌, ℕ, zero, suc, ◌+◌, ◌-◌, ◌<◌, ◌≤◌, ◌⊎◌, List, [], ◌∷◌, map, length, replicate, get_or, Bool, true, false, ◌||◌, ◌==◌, if◌then◌else◌, refl, ap, sym, ◌∙◌, arith, subst, inl, inr, ⊎_elim}
use Rattle.std.specs.List.{flat_map, range_with_len}
use Rattle.std.proofs.lemmas.Bool.{cases_eq}
use Rattle.fort_tables.proofs.EqualTests.{equal_from_test, apart_from_test}
use Rattle.fort_tuple_symbols.specs.DigitNumbers.{AreUpTo}
use Rattle.fort_entry_walk.specs.Walks.{states_with, kid_lists, digit_lists, digits_after}
use Rattle.fort_entry_walk.proofs.InLaws.{In, In-either, In-map, from_map, In-flat_map, from_flat_map}
use Rattle.fort_entry_walk.proofs.DigitLaws.{digits_first}

pub In-range : (a n x : ℕ) → a ≤ x → x < a + n → In x (range_with_len a n)
In-range a zero x l h = absurd (omega arith)
In-range a (suc n) x l h = ⊎_elim (λ e. inl e) (λ m. inr (In-range (a + 1) n x (omega arith) (omega arith))) (here_or_later a x l)
  where
    here_or_later : (a x : ℕ) → a ≤ x → (x ≡ a) ⊎ (a < x)
    here_or_later zero zero h = inl refl
    here_or_later zero (suc x) h = inr (omega arith)
    here_or_later (suc a) zero h = absurd (omega arith)
    here_or_later (suc a) (suc x) h = ⊎_elim (λ e. inl (ap suc e)) (λ m. inr (omega arith)) (here_or_later a x (omega arith))

pub from_range : (a n x : ℕ) → In x (range_with_len a n) → (a ≤ x) × (x < a + n)
from_range a zero x h = absurd h
from_range a (suc n) x h = ⊎_elim (λ e. (omega arith, omega arith)) (λ i. let r = from_range (a + 1) n x i in (omega (arith, r.0), omega (arith, r.1))) h

pub In-states : (ps : List ℕ) (want a n q : ℕ) → a ≤ q → q < a + n → get_or ps q 0 ≡ want → In q (states_with ps want a n)
In-states ps want a zero q l h e = absurd (omega arith)
In-states ps want a (suc n) q l h e =
    let F : Bool → Type 0 = λ b. (get_or ps a 0 == want) ≡ b → In q (if b then a ∷ states_with ps want (a + 1) n else states_with ps want (a + 1) n) in
    let later : (q ≡ a → ⊥) → In q (states_with ps want (a + 1) n) = λ ne. In-states ps want (a + 1) n q (omega arith) (omega arith) e in
    let both : (b : Bool) → F b = λ b. elim b as F [
      | true ↦ (λ t. ⊎_elim (λ s. inl s) (λ s. inr (later s)) (cases_eq q a))
      | false ↦ (λ t. later (λ s. let w : get_or ps a 0 ≡ want = subst (λ i. get_or ps i 0 ≡ want) s e in absurd (apart_from_test (get_or ps a 0) want t w)))
    ] in
    both (get_or ps a 0 == want) refl

pub from_states : (ps : List ℕ) (want a n q : ℕ) → In q (states_with ps want a n) → (a ≤ q) × (q < a + n) × (get_or ps q 0 ≡ want)
from_states ps want a zero q h = absurd h
from_states ps want a (suc n) q h =
    let F : Bool → Type 0 = λ b. (get_or ps a 0 == want) ≡ b → In q (if b then a ∷ states_with ps want (a + 1) n else states_with ps want (a + 1) n) → (a ≤ q) × (q < a + suc n) × (get_or ps q 0 ≡ want) in
    let later : In q (states_with ps want (a + 1) n) → (a ≤ q) × (q < a + suc n) × (get_or ps q 0 ≡ want) = λ i. let r = from_states ps want (a + 1) n q i in (omega (arith, r.0), omega (arith, r.1), r.2) in
    let both : (b : Bool) → F b = λ b. elim b as F [
      | true ↦ (λ t i. ⊎_elim (λ e. (omega arith, omega arith, ap (λ k. get_or ps k 0) e ∙ equal_from_test (get_or ps a 0) want t)) later i)
      | false ↦ (λ t i. later i)
    ] in
    both (get_or ps a 0 == want) refl h

-- kids
abbrev pub KidsFit : List ℕ → ℕ → List ℕ → List ℕ → Type 0
KidsFit ps m [] [] = Unit {0}
KidsFit ps m [] (k ∷ ks) = ⊥
KidsFit ps m (p ∷ ws) [] = ⊥
KidsFit ps m (p ∷ ws) (k ∷ ks) = (k ≤ m) × (get_or ps k 0 ≡ p) × KidsFit ps m ws ks

abbrev pub sees : ℕ → Bool → List ℕ → Bool
sees m has_greatest [] = has_greatest
sees m has_greatest (k ∷ ks) = sees m (has_greatest || (k == m)) ks

pub In-kid_lists : (ps : List ℕ) (m : ℕ) (ws ks : List ℕ) (has_greatest : Bool) → KidsFit ps m ws ks → sees m has_greatest ks ≡ true → In ks (kid_lists ps m ws has_greatest)
In-kid_lists ps m [] [] true h s = inl refl
In-kid_lists ps m [] [] false h s = absurd cc
In-kid_lists ps m [] (k ∷ ks) has_greatest h s = absurd h
In-kid_lists ps m (p ∷ ws) [] has_greatest h s = absurd h
In-kid_lists ps m (p ∷ ws) (k ∷ ks) has_greatest h s =
    In-flat_map (λ q. map (λ r. q ∷ r) (kid_lists ps m ws (has_greatest || (q == m)))) k (k ∷ ks) (states_with ps p 0 (m + 1))
    (In-states ps p 0 (m + 1) k (omega arith) (omega (arith, h.0)) h.1)
    (In-map (λ r. k ∷ r) ks (kid_lists ps m ws (has_greatest || (k == m))) (In-kid_lists ps m ws ks (has_greatest || (k == m)) h.2 s))

pub from_kid_lists : (ps : List ℕ) (m : ℕ) (ws ks : List ℕ) (has_greatest : Bool) → In ks (kid_lists ps m ws has_greatest) → KidsFit ps m ws ks × (sees m has_greatest ks ≡ true)
from_kid_lists ps m [] ks true h = ⊎_elim (λ e. subst (λ (r : List ℕ). KidsFit ps m [] r × (sees m true r ≡ true)) (sym e) (tt, refl)) (λ i. absurd i) h
from_kid_lists ps m [] ks false h = absurd h
from_kid_lists ps m (p ∷ ws) ks has_greatest h =
    let r = from_flat_map (λ q. map (λ r. q ∷ r) (kid_lists ps m ws (has_greatest || (q == m)))) ks (states_with ps p 0 (m + 1)) h in
    let t = from_map (λ k. r.0 ∷ k) ks (kid_lists ps m ws (has_greatest || (r.0 == m))) r.2 in
    let s = from_states ps p 0 (m + 1) r.0 r.1 in
    let i = from_kid_lists ps m ws t.0 (has_greatest || (r.0 == m)) t.1 in
    subst (λ (k : List ℕ). KidsFit ps m (p ∷ ws) k × (sees m has_greatest k ≡ true)) (sym t.2) ((omega (arith, s.1), s.2, i.0), i.1)

-- digits
pub In-digit_lists : (n : ℕ) (ds : List ℕ) → AreUpTo n ds → In ds (digit_lists n (length ds))
In-digit_lists n [] h = inl refl
In-digit_lists n (d ∷ ds) h =
    In-flat_map (λ e. map (λ es. e ∷ es) (digit_lists n (length ds))) d (d ∷ ds) (range_with_len 0 (n + 1))
    (In-range 0 (n + 1) d (omega arith) (omega (arith, h.0)))
    (In-map (λ es. d ∷ es) ds (digit_lists n (length ds)) (In-digit_lists n ds h.1))

abbrev pub IsSomeDigit : List ℕ → Type 0
IsSomeDigit [] = ⊥
IsSomeDigit (zero ∷ ds) = IsSomeDigit ds
IsSomeDigit (suc d ∷ ds) = Unit {0}

no_digit : (c : ℕ) → IsSomeDigit (replicate c 0) → ⊥
no_digit zero h = h
no_digit (suc c) h = no_digit c h

pub In-digits : (n : ℕ) (ds : List ℕ) → AreUpTo n ds → IsSomeDigit ds → In ds (digits_after n (replicate (length ds) 0))
In-digits n ds h some =
    ⊎_elim (λ e. absurd (no_digit (length ds) (subst IsSomeDigit e some))) (λ i. i)
    (subst (λ (l : List (List ℕ)). In ds l) (digits_first n (length ds)) (In-digit_lists n ds h))

pub from_digit_lists : (n c : ℕ) (ds : List ℕ) → In ds (digit_lists n c) → (length ds ≡ c) × AreUpTo n ds
from_digit_lists n zero ds h = ⊎_elim (λ e. subst (λ (es : List ℕ). (length es ≡ 0) × AreUpTo n es) (sym e) (refl, tt)) (λ i. absurd i) h
from_digit_lists n (suc c) ds h =
    let r = from_flat_map (λ e. map (λ es. e ∷ es) (digit_lists n c)) ds (range_with_len 0 (n + 1)) h in
    let t = from_map (λ es. r.0 ∷ es) ds (digit_lists n c) r.2 in
    let i = from_digit_lists n c t.0 t.1 in
    let b = from_range 0 (n + 1) r.0 r.1 in
    subst (λ (es : List ℕ). (length es ≡ suc c) × AreUpTo n es) (sym t.2) (ap suc i.0, (omega (arith, b.1), i.1))

later_digit : (d : ℕ) (ds : List ℕ) → 1 ≤ d → IsSomeDigit (d ∷ ds)
later_digit zero ds h = absurd (omega arith)
later_digit (suc d) ds h = tt

pub some_digits_after : (n c : ℕ) (ds : List ℕ) → In ds (digits_after n (replicate c 0)) → IsSomeDigit ds
some_digits_after n zero ds h = absurd h
some_digits_after n (suc c) ds h =
    ⊎_elim
    (λ i. let t = from_map (λ es. 0 ∷ es) ds (digits_after n (replicate c 0)) i in subst IsSomeDigit (sym t.2) (some_digits_after n c t.0 t.1))
    (λ i. let r = from_flat_map (λ e. map (λ es. e ∷ es) (digit_lists n (length (replicate c 0)))) ds (range_with_len (0 + 1) (n - 0)) i in
    let t = from_map (λ es. r.0 ∷ es) ds (digit_lists n (length (replicate c 0))) r.2 in
    subst IsSomeDigit (sym t.2) (later_digit r.0 t.0 (from_range (0 + 1) (n - 0) r.0 r.1).0))
    (In-either ds (map (λ es. 0 ∷ es) (digits_after n (replicate c 0))) (flat_map (λ e. map (λ es. e ∷ es) (digit_lists n (length (replicate c 0)))) (range_with_len (0 + 1) (n - 0))) h)

pub from_digits : (n c : ℕ) (ds : List ℕ) → In ds (digits_after n (replicate c 0)) → (length ds ≡ c) × AreUpTo n ds × IsSomeDigit ds
from_digits n c ds h =
    let r = from_digit_lists n c ds (subst (λ (l : List (List ℕ)). In ds l) (sym (digits_first n c)) (inr h)) in
    (r.0, r.1, some_digits_after n c ds h)
