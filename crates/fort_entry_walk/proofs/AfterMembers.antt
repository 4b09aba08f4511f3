-- What stands in the lists after a place, and so in the entries after it.
use Rattle.std.proofs.Common.{◌≡◌, ℕ, suc, ◌+◌, ◌-◌, ◌<◌, List, [], ◌∷◌, map, length, get_or, Bool, true, ◌||◌, ◌==◌, if◌then◌else◌, refl, ap, sym, arith, subst, inl, inr, ⊎_elim}
use Rattle.std.specs.List.{flat_map, range_with_len}
use Rattle.std.proofs.lemmas.Bool.{cases_eq}
use Rattle.fort_tables.specs.Entries.{LexBefore}
use Rattle.fort_tables.proofs.EqualTests.{if_equal, if_apart}
use Rattle.fort_tuple_symbols.specs.DigitNumbers.{AreUpTo}
use Rattle.fort_entry_walk.specs.Walks.{states_with, kid_lists, kids_after, digit_lists, digits_after}
use Rattle.fort_entry_walk.proofs.InLaws.{In, In-left, In-right, In-either, In-map, from_map, In-flat_map, from_flat_map}
use Rattle.fort_entry_walk.proofs.KidMembers.{In-range, from_range, In-states, from_states, KidsFit, sees, In-kid_lists, from_kid_lists, In-digit_lists, from_digit_lists}

-- lists after one
pub In-kids_after : (ps : List ℕ) (m : ℕ) (ws from ks : List ℕ) (has_greatest : Bool) → KidsFit ps m ws ks → sees m has_greatest ks ≡ true → LexBefore ◌<◌ from ks → In ks (kids_after ps m ws has_greatest from)
In-kids_after ps m [] from [] has_greatest h s b = absurd (nothing_after from b)
  where
    nothing_after : (from : List ℕ) → LexBefore ◌<◌ from [] → ⊥
    nothing_after [] b = b
    nothing_after (x ∷ from) b = b
In-kids_after ps m [] from (k ∷ ks) has_greatest h s b = absurd h
In-kids_after ps m (p ∷ ws) from [] has_greatest h s b = absurd h
In-kids_after ps m (p ∷ ws) [] (k ∷ ks) has_greatest h s b = absurd b
In-kids_after ps m (p ∷ ws) (x ∷ from) (k ∷ ks) has_greatest h s b =
    let same = if get_or ps x 0 == p then map (λ r. x ∷ r) (kids_after ps m ws (has_greatest || (x == m)) from) else [] in
    let later = flat_map (λ q. map (λ r. q ∷ r) (kid_lists ps m ws (has_greatest || (q == m)))) (states_with ps p (x + 1) (m + 1 - (x + 1))) in
    ⊎_elim
    (λ l. In-right (k ∷ ks) same later
    (In-flat_map (λ q. map (λ r. q ∷ r) (kid_lists ps m ws (has_greatest || (q == m)))) k (k ∷ ks) (states_with ps p (x + 1) (m + 1 - (x + 1)))
    (In-states ps p (x + 1) (m + 1 - (x + 1)) k (omega arith) (omega (arith, h.0)) h.1)
    (In-map (λ r. k ∷ r) ks (kid_lists ps m ws (has_greatest || (k == m))) (In-kid_lists ps m ws ks (has_greatest || (k == m)) h.2 s))))
    (λ e. In-left (k ∷ ks) same later
    (let i : In ks (kids_after ps m ws (has_greatest || (k == m)) from) = In-kids_after ps m ws from ks (has_greatest || (k == m)) h.2 s e.1 in
    let j : In (k ∷ ks) (map (λ r. k ∷ r) (kids_after ps m ws (has_greatest || (k == m)) from)) = In-map (λ r. k ∷ r) ks (kids_after ps m ws (has_greatest || (k == m)) from) i in
    let t : In (k ∷ ks) (if get_or ps k 0 == p then map (λ r. k ∷ r) (kids_after ps m ws (has_greatest || (k == m)) from) else []) =
    subst (λ (l : List (List ℕ)). In (k ∷ ks) l) (sym (if_equal (get_or ps k 0) p _ [] h.1)) j in
    subst (λ (y : ℕ). In (k ∷ ks) (if get_or ps y 0 == p then map (λ r. y ∷ r) (kids_after ps m ws (has_greatest || (y == m)) from) else [])) (sym e.0) t))
    b

pub record AfterKids (ps : List ℕ) (m : ℕ) (ws from ks : List ℕ) (has_greatest : Bool) : Type 0 where
  pub fits : KidsFit ps m ws ks
  pub seen_there : sees m has_greatest ks ≡ true
  pub after : LexBefore ◌<◌ from ks

pub from_kids_after : (ps : List ℕ) (m : ℕ) (ws from ks : List ℕ) (has_greatest : Bool) → AreUpTo m from → In ks (kids_after ps m ws has_greatest from) → AfterKids ps m ws from ks has_greatest
from_kids_after ps m [] from ks has_greatest u h = absurd h
from_kids_after ps m (p ∷ ws) [] ks has_greatest u h = absurd h
from_kids_after ps m (p ∷ ws) (x ∷ from) ks has_greatest u h =
    let same = if get_or ps x 0 == p then map (λ r. x ∷ r) (kids_after ps m ws (has_greatest || (x == m)) from) else [] in
    let later = flat_map (λ q. map (λ r. q ∷ r) (kid_lists ps m ws (has_greatest || (q == m)))) (states_with ps p (x + 1) (m + 1 - (x + 1))) in
    ⊎_elim
    (λ i. ⊎_elim
    (λ e. let j : In ks (map (λ r. x ∷ r) (kids_after ps m ws (has_greatest || (x == m)) from)) = subst (λ (l : List (List ℕ)). In ks l) (if_equal (get_or ps x 0) p _ [] e) i in
    let t = from_map (λ r. x ∷ r) ks (kids_after ps m ws (has_greatest || (x == m)) from) j in
    let r = from_kids_after ps m ws from t.0 (has_greatest || (x == m)) u.1 t.1 in
    subst (λ (k : List ℕ). AfterKids ps m (p ∷ ws) (x ∷ from) k has_greatest) (sym t.2)
    (record { fits = (u.0, e, r.fits); seen_there = r.seen_there; after = inr (refl, r.after) }))
    (λ ne. absurd (subst (λ (l : List (List ℕ)). In ks l) (if_apart (get_or ps x 0) p _ [] ne) i))
    (cases_eq (get_or ps x 0) p))
    (λ i.
    let r = from_flat_map (λ q. map (λ r. q ∷ r) (kid_lists ps m ws (has_greatest || (q == m)))) ks (states_with ps p (x + 1) (m + 1 - (x + 1))) i in
    let t = from_map (λ k. r.0 ∷ k) ks (kid_lists ps m ws (has_greatest || (r.0 == m))) r.2 in
    let s = from_states ps p (x + 1) (m + 1 - (x + 1)) r.0 r.1 in
    let l = from_kid_lists ps m ws t.0 (has_greatest || (r.0 == m)) t.1 in
    subst (λ (k : List ℕ). AfterKids ps m (p ∷ ws) (x ∷ from) k has_greatest) (sym t.2)
    (record { fits = (omega (arith, s.1), s.2, l.0); seen_there = l.1; after = inl (omega (arith, s.0)) }))
    (In-either ks same later h)

-- digits
pub In-digits_after : (n : ℕ) (from ds : List ℕ) → length ds ≡ length from → AreUpTo n ds → LexBefore ◌<◌ from ds → In ds (digits_after n from)
In-digits_after n [] ds l u b = absurd b
In-digits_after n (x ∷ from) [] l u b = absurd b
In-digits_after n (x ∷ from) (d ∷ ds) l u b =
    let same = map (λ es. x ∷ es) (digits_after n from) in
    let later = flat_map (λ e. map (λ es. e ∷ es) (digit_lists n (length from))) (range_with_len (x + 1) (n - x)) in
    let c : length ds ≡ length from = omega arith in
    ⊎_elim
    (λ k. In-right (d ∷ ds) same later
    (In-flat_map (λ e. map (λ es. e ∷ es) (digit_lists n (length from))) d (d ∷ ds) (range_with_len (x + 1) (n - x))
    (In-range (x + 1) (n - x) d (omega arith) (omega (arith, u.0)))
    (In-map (λ es. d ∷ es) ds (digit_lists n (length from)) (subst (λ (k : ℕ). In ds (digit_lists n k)) c (In-digit_lists n ds u.1)))))
    (λ e. In-left (d ∷ ds) same later
    (subst (λ (y : ℕ). In (d ∷ ds) (map (λ es. y ∷ es) (digits_after n from))) (sym e.0) (In-map (λ es. d ∷ es) ds (digits_after n from) (In-digits_after n from ds c u.1 e.1))))
    b

pub record AfterDigits (n : ℕ) (from ds : List ℕ) : Type 0 where
  pub width : length ds ≡ length from
  pub bound : AreUpTo n ds
  pub after : LexBefore ◌<◌ from ds

pub from_digits_after : (n : ℕ) (from ds : List ℕ) → AreUpTo n from → In ds (digits_after n from) → AfterDigits n from ds
from_digits_after n [] ds u h = absurd h
from_digits_after n (x ∷ from) ds u h =
    let same = map (λ es. x ∷ es) (digits_after n from) in
    let later = flat_map (λ e. map (λ es. e ∷ es) (digit_lists n (length from))) (range_with_len (x + 1) (n - x)) in
    ⊎_elim
    (λ i.
    let t = from_map (λ es. x ∷ es) ds (digits_after n from) i in
    let r = from_digits_after n from t.0 u.1 t.1 in
    subst (λ (k : List ℕ). AfterDigits n (x ∷ from) k) (sym t.2) (record { width = ap suc r.width; bound = (u.0, r.bound); after = inr (refl, r.after) }))
    (λ i.
    let r = from_flat_map (λ e. map (λ es. e ∷ es) (digit_lists n (length from))) ds (range_with_len (x + 1) (n - x)) i in
    let t = from_map (λ es. r.0 ∷ es) ds (digit_lists n (length from)) r.2 in
    let b = from_range (x + 1) (n - x) r.0 r.1 in
    let d = from_digit_lists n (length from) t.0 t.1 in
    subst (λ (k : List ℕ). AfterDigits n (x ∷ from) k) (sym t.2) (record { width = ap suc d.0; bound = (omega (arith, b.1, u.0), d.1); after = inl (omega (arith, b.0)) }))
    (In-either ds same later h)
