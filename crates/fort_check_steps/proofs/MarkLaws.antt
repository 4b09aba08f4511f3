-- What an entry tells of each mark, and what the first wrong mark tells.
use Rattle.std.specs.Prelude.{◌≡◌, ℕ, zero, suc, ◌+◌, ◌-◌, ◌^◌, ◌<◌, ◌≤◌, List, [], ◌∷◌, map, length, get_or, Contains, nat_lt, Bool, true, false, Decides, ◌&&◌, ◌==◌, if◌then◌else◌, refl}
use Rattle.std.specs.List.{list_any}
use Rattle.std.proofs.Common.{sym, ap, subst, ◌∙◌, arith, ⊎_elim, true≢false}
use Rattle.std.proofs.lemmas.Bool.{cases_lt}
use Rattle.std.proofs.lemmas.Bool.Decides.{Decides-at, Decides-eqb, Decides-ltb, Decides-like, not_from_Decides}
use Rattle.std.proofs.lemmas.List.{length-map, get_or-map, get_or_default}
use Rattle.fort_theory.proofs.Members.{Contains-Decides, Contains-cons_cases, Contains-head, Contains-behind, Contains-none}
use Rattle.fort_tables.specs.Tuples.{presence}
use Rattle.fort_tables.specs.Entries.{Entry, no_entry}
use Rattle.fort_tables.specs.Tables.{Table, Listed, IsListed, target_in}
use Rattle.fort_tables.proofs.NumberLaws.{listed_target}
use Rattle.fort_tables.proofs.EqualTests.{test_from_apart}
use Rattle.fort_alike.proofs.Bits.{Decides-true, Decides-false, Decides-and_then}
use Rattle.fort_tables.specs.Counts.{Count, Finite, Infinite, is_infinite, IsFiniteBelow, KeepsRule, count_at}
use Rattle.fort_tables.specs.PureStates.{IsPureChild}
use Rattle.fort_certificate_theory.specs.Outcomes.{Fine, Fails}
use Rattle.fort_certificate_theory.specs.CountSteps.{AreRightMarks, IsCountOutcome, IsRight, NotRanked, NotFed}
use Rattle.fort_check_steps.specs.Turned.{TurnedTable, turned_table}
use Rattle.fort_check_steps.specs.Marks.{mark_in, is_below, are_below, held_next, entry_next, starts, IsGiver, kids_at, IsAgainst, IsSeen, IsSeenTo, mark_test, right_at, IsFirstWrong, AreAllHeld, wrong_reason}

infinite_finite : (p s : ℕ) → Infinite p ≡ Finite s → ⊥
infinite_finite p s h = cc

finite_is : (r s : ℕ) → Finite r ≡ Finite s → r ≡ s
finite_is r s h = cc

-- tests of marks
Decides-below : (mark : ℕ → Count) (r k : ℕ) → Decides (is_below (mark k) r) (IsFiniteBelow mark r k)
Decides-below mark r k = by (mark k) refl
  where
    by : (m : Count) → mark k ≡ m → Decides (is_below (mark k) r) (IsFiniteBelow mark r k)
    by (Finite s) e = Decides-at (is_below (mark k) r) (nat_lt s r) (ap (λ m. is_below m r) e)
        (Decides-like (nat_lt s r) (λ l. (s, e, l)) (λ h. let same : h.0 ≡ s = finite_is h.0 s (sym h.1 ∙ e) in omega (arith, h.2, same)) (Decides-ltb s r))
    by (Infinite p) e = Decides-at (is_below (mark k) r) false (ap (λ m. is_below m r) e) (Decides-false (λ h. infinite_finite p h.0 (sym e ∙ h.1)))

Decides-infinite : (mark : ℕ → Count) (p : ℕ) → Decides (is_infinite (mark p)) ((next : ℕ) × (mark p ≡ Infinite next))
Decides-infinite mark p = by (mark p) refl
  where
    by : (m : Count) → mark p ≡ m → Decides (is_infinite (mark p)) ((next : ℕ) × (mark p ≡ Infinite next))
    by (Finite s) e = Decides-at (is_infinite (mark p)) false (ap is_infinite e) (Decides-false (λ h. infinite_finite h.0 s (sym h.1 ∙ e)))
    by (Infinite q) e = Decides-at (is_infinite (mark p)) true (ap is_infinite e) (Decides-true (q, e))

-- all children are below, or one isn't
below_all : (mark : ℕ → Count) (r : ℕ) (ks : List ℕ) → are_below mark r ks ≡ true → (k : ℕ) → Contains ks k → IsFiniteBelow mark r k
below_all mark r [] e k c = absurd (Contains-none k c)
below_all mark r (x ∷ ks) e k c =
    let h = (Decides-and_then (is_below (mark x) r) (are_below mark r ks) (Decides-below mark r x) (λ _. ((λ (u : are_below mark r ks ≡ true). u), (λ u. u)))).0 e in
    ⊎_elim (λ same. subst (IsFiniteBelow mark r) same h.0) (λ later. below_all mark r ks h.1 k later) (Contains-cons_cases x ks k c)

below_not : (mark : ℕ → Count) (r : ℕ) (ks : List ℕ) → are_below mark r ks ≡ false → (k : ℕ) × Contains ks k × (IsFiniteBelow mark r k → ⊥)
below_not mark r [] e = absurd (true≢false e)
below_not mark r (x ∷ ks) e = by (λ h. below_not mark r ks h) (is_below (mark x) r) refl
  where
    by : (are_below mark r ks ≡ false → (k : ℕ) × Contains ks k × (IsFiniteBelow mark r k → ⊥)) → (b : Bool) → is_below (mark x) r ≡ b
        → (k : ℕ) × Contains (x ∷ ks) k × (IsFiniteBelow mark r k → ⊥)
    by later false y = (x, Contains-head x ks, not_from_Decides (is_below (mark x) r) (Decides-below mark r x) y)
    by later true y =
        let rest : are_below mark r ks ≡ false = sym (ap (λ b. b && are_below mark r ks) y) ∙ e in
        let w = later rest in
        (w.0, Contains-behind x ks w.0 w.1, w.2)

module _ (t : Listed) (mark : ℕ → Count) (c q : ℕ) where
  -- before any entry
  pub IsSeen-none : (m : Count) → IsSeen t mark c 0 q m (starts m)
  IsSeen-none (Finite r) = λ k j l. absurd (omega arith)
  IsSeen-none (Infinite p) = λ k l. absurd (omega arith)

  -- one that doesn't give the state
  IsSeen-other : (n : ℕ) (m : Count) (held : Bool) → (IsGiver t c q n → ⊥) → IsSeen t mark c n q m held → IsSeen t mark c (n + 1) q m held
  IsSeen-other n (Finite r) true other h = λ k j l g. ⊎_elim (λ b. h k j b g) (λ b. let same : k ≡ n = omega arith in absurd (other (subst (IsGiver t c q) same g))) (cases_lt k n)
  IsSeen-other n (Finite r) false other h = h
  IsSeen-other n (Infinite p) true other h = h
  IsSeen-other n (Infinite p) false other h = λ k l g. ⊎_elim (λ b. h k b g) (λ b. let same : k ≡ n = omega arith in absurd (other (subst (IsGiver t c q) same g))) (cases_lt k n)

  against : (n r : ℕ) → IsGiver t c q n → are_below mark r (kids_at t n) ≡ false → IsAgainst t mark c q r
  against n r g e = let w = below_not mark r (kids_at t n) e in record { place = n; child = w.0; giver = g; among = w.1; not_below = w.2 }

  -- one that gives it
  IsSeen-giver : (n : ℕ) (m : Count) (held : Bool) → IsGiver t c q n → IsSeen t mark c n q m held → IsSeen t mark c (n + 1) q m (held_next mark m (kids_at t n) held)
  IsSeen-giver n (Finite r) false g h = h
  IsSeen-giver n (Finite r) true g h = by (are_below mark r (kids_at t n)) refl
    where
      by : (b : Bool) → are_below mark r (kids_at t n) ≡ b → IsSeen t mark c (n + 1) q (Finite r) (are_below mark r (kids_at t n))
      by true e = subst (IsSeen t mark c (n + 1) q (Finite r)) (sym e)
          (λ k j l f a. ⊎_elim (λ b. h k j b f a)
          (λ b. let same : k ≡ n = omega arith in below_all mark r (kids_at t n) e j (subst (λ (i : ℕ). Contains (kids_at t i) j) same a))
          (cases_lt k n))
      by false e = subst (IsSeen t mark c (n + 1) q (Finite r)) (sym e) (against n r g e)
  IsSeen-giver n (Infinite p) true g h = h
  IsSeen-giver n (Infinite p) false g h = by (list_any (λ k. k == p) (kids_at t n)) refl
    where
      by : (b : Bool) → list_any (λ k. k == p) (kids_at t n) ≡ b → IsSeen t mark c (n + 1) q (Infinite p) (list_any (λ k. k == p) (kids_at t n))
      by true e = subst (IsSeen t mark c (n + 1) q (Infinite p)) (sym e) (n, g, (Contains-Decides (kids_at t n) p).0 e)
      by false e = subst (IsSeen t mark c (n + 1) q (Infinite p)) (sym e)
          (λ k l f a. ⊎_elim (λ b. h k b f a)
          (λ b. let same : k ≡ n = omega arith in
          not_from_Decides (list_any (λ k. k == p) (kids_at t n)) (Contains-Decides (kids_at t n) p) e (subst (λ (i : ℕ). Contains (kids_at t i) p) same a))
          (cases_lt k n))

  abbrev giver_test : ℕ → Bool
  giver_test n = (presence (get_or t.entries n (no_entry 0)).symbol == 2 ^ c) && (get_or t.targets n 0 == q)

  Decides-giver : (n : ℕ) → n < length t.entries → Decides (giver_test n) (IsGiver t c q n)
  Decides-giver n l = Decides-like (giver_test n) (λ h. record { within = l; alone = h.0; gives = h.1 }) (λ g. (g.alone, g.gives))
      (Decides-and_then (presence (get_or t.entries n (no_entry 0)).symbol == 2 ^ c) (get_or t.targets n 0 == q)
      (Decides-eqb (presence (get_or t.entries n (no_entry 0)).symbol) (2 ^ c)) (λ _. Decides-eqb (get_or t.targets n 0) q))

  -- Result: one more entry
  pub IsSeen-entry : (n : ℕ) (m : Count) (held : Bool) → n < length t.entries → IsSeen t mark c n q m held
      → IsSeen t mark c (n + 1) q m (entry_next mark c q m (get_or t.entries n (no_entry 0)) (get_or t.targets n 0) held)
  IsSeen-entry n m held l h = by (giver_test n) refl
    where
      by : (b : Bool) → giver_test n ≡ b → IsSeen t mark c (n + 1) q m (if giver_test n then held_next mark m (kids_at t n) held else held)
      by true e = subst (λ (b : Bool). IsSeen t mark c (n + 1) q m (if b then held_next mark m (kids_at t n) held else held)) (sym e) (IsSeen-giver n m held ((Decides-giver n l).0 e) h)
      by false e = subst (λ (b : Bool). IsSeen t mark c (n + 1) q m (if b then held_next mark m (kids_at t n) held else held)) (sym e)
          (IsSeen-other n m held (not_from_Decides (giver_test n) (Decides-giver n l) e) h)

-- entries that give a pure state, in the table and by their places
module _ (t : TurnedTable) (lawful : IsListed t.table) (c : ℕ) where
  table : Table
  table = turned_table t

  giver_child : (q k j : ℕ) → IsGiver t.table c q k → Contains (kids_at t.table k) j → IsPureChild (turned_table t) c q j
  giver_child q k j g a =
      let d : Entry = no_entry 0 in
      let e = get_or t.table.entries k d in
      let at : get_or t.table.entries k (no_entry t.table.columns) ≡ e = get_or_default t.table.entries k (no_entry t.table.columns) d g.within in
      record {
        entry = e;
        is_pure = record {
          is_entry = lawful.order.are k d g.within;
          alone = g.alone;
          gives = ap (target_in t.table.entries t.table.targets) (sym at) ∙ (listed_target t.table k lawful (omega (arith, g.within, lawful.count)) ∙ g.gives);
        };
        child = a;
      }

  record IsAmong (q j : ℕ) : Type 0 where
    place : ℕ
    giver : IsGiver t.table c q place
    among : Contains (kids_at t.table place) j

  child_giver : (q j : ℕ) → IsPureChild (turned_table t) c q j → IsAmong q j
  child_giver q j h =
      let e = h.entry in
      let there = lawful.all e h.is_pure.is_entry in
      let k = there.0 in
      let d : Entry = no_entry 0 in
      let is : get_or t.table.entries k d ≡ e = get_or_default t.table.entries k d e there.1 ∙ there.2 in
      let at : get_or t.table.entries k (no_entry t.table.columns) ≡ e = get_or_default t.table.entries k (no_entry t.table.columns) e there.1 ∙ there.2 in
      record {
        place = k;
        giver = record {
          within = there.1;
          alone = ap (λ (x : Entry). presence x.symbol) is ∙ h.is_pure.alone;
          gives = sym (listed_target t.table k lawful (omega (arith, there.1, lawful.count))) ∙ (ap (target_in t.table.entries t.table.targets) at ∙ h.is_pure.gives);
        };
        among = subst (λ (x : Entry). Contains x.kids j) (sym is) h.child;
      }

  module _ (states : List ℕ) (marks : List Count) where
    mark : ℕ → Count
    mark = count_at states marks

    -- after all entries, a mark is right exactly where its test says so
    right_mark : (q : ℕ) (m : Count) (held : Bool) → IsSeen t.table (count_at states marks) c (length t.table.entries) q m held → mark_test (count_at states marks) m held ≡ true
        → KeepsRule (turned_table t) c (count_at states marks) q m
    right_mark q (Finite r) true h e = λ k child. let g = child_giver q k child in h g.place k g.giver.within g.giver g.among
    right_mark q (Finite r) false h e = absurd (true≢false (sym e))
    right_mark q (Infinite p) false h e = absurd (true≢false (sym e))
    right_mark q (Infinite p) true h e =
        let w = (Decides-infinite (count_at states marks) p).0 e in
        record { child = giver_child q h.0 p h.1 h.2; next = w.0; infinite = w.1 }

    wrong_mark : (i : ℕ) (m : Count) (held : Bool) → AreRightMarks (turned_table t) c states marks i → i < length marks → get_or marks i (Finite 0) ≡ m
        → IsSeen t.table (count_at states marks) c (length t.table.entries) (get_or states i 0) m held → mark_test (count_at states marks) m held ≡ false
        → IsCountOutcome (turned_table t) c states marks (Fails i (wrong_reason m))
    wrong_mark i (Finite r) true right l is h e = absurd (true≢false e)
    wrong_mark i (Finite r) false right l is h e = NotRanked i r h.child right l is (giver_child (get_or states i 0) h.place h.child h.giver h.among) h.not_below
    wrong_mark i (Infinite p) false right l is h e =
        NotFed i p right l is (λ k. let g = child_giver (get_or states i 0) p k.child in h g.place g.giver.within g.giver g.among)
    wrong_mark i (Infinite p) true right l is h e =
        NotFed i p right l is (λ k. not_from_Decides (is_infinite (count_at states marks p)) (Decides-infinite (count_at states marks) p) e (k.next, k.infinite))

    right_to : (holds : List Bool) (n : ℕ) → length marks ≡ length states → n ≤ length marks → IsSeenTo t.table c states marks (length t.table.entries) holds
        → ((j : ℕ) → j < n → right_at states marks holds j ≡ true) → AreRightMarks (turned_table t) c states marks n
    right_to holds n e l h all = record {
      count = e;
      within = l;
      right = λ i m. right_mark (get_or states i 0) (mark_in marks i) (get_or holds i false) (h.each i (omega arith)) (all i m);
    }

    -- Result
    pub IsCountOutcome-held : (holds : List Bool) → length marks ≡ length states → IsSeenTo t.table c states marks (length t.table.entries) holds → AreAllHeld states marks holds
        → IsCountOutcome (turned_table t) c states marks Fine
    IsCountOutcome-held holds e h all = IsRight (right_to holds (length marks) e (omega arith) h all)

    -- Result
    pub IsCountOutcome-wrong : (holds : List Bool) (i : ℕ) → length marks ≡ length states → IsSeenTo t.table c states marks (length t.table.entries) holds → IsFirstWrong states marks holds i
        → IsCountOutcome (turned_table t) c states marks (Fails i (wrong_reason (mark_in marks i)))
    IsCountOutcome-wrong holds i e h w =
        wrong_mark i (mark_in marks i) (get_or holds i false) (right_to holds i e (omega (arith, w.within)) h w.before) w.within refl (h.each i (omega (arith, w.within))) w.wrong

-- Result: before any entry
pub IsSeenTo-none : (t : Listed) (c : ℕ) (states : List ℕ) (marks : List Count) (holds : List Bool) → length marks ≡ length states → holds ≡ map starts marks → IsSeenTo t c states marks 0 holds
IsSeenTo-none t c states marks holds e is = record {
  count = ap length is ∙ (length-map marks starts ∙ e);
  each = λ i l.
      let at : get_or holds i false ≡ starts (mark_in marks i) = ap (λ (bs : List Bool). get_or bs i false) is ∙ get_or-map starts marks i (Finite 0) false (omega arith) in
      subst (IsSeen t (count_at states marks) c 0 (get_or states i 0) (mark_in marks i)) (sym at) (IsSeen-none t (count_at states marks) c (get_or states i 0) (mark_in marks i));
}

-- Result: one more entry
pub IsSeenTo-entry : (t : Listed) (c : ℕ) (states : List ℕ) (marks : List Count) (n : ℕ) (old new : List Bool) → n < length t.entries → IsSeenTo t c states marks n old
    → length new ≡ length old
    → ((i : ℕ) → i < length states → get_or new i false
    ≡ entry_next (count_at states marks) c (get_or states i 0) (mark_in marks i) (get_or t.entries n (no_entry 0)) (get_or t.targets n 0) (get_or old i false))
    → IsSeenTo t c states marks (n + 1) new
IsSeenTo-entry t c states marks n old new l h count each = record {
  count = count ∙ h.count;
  each = λ i m. subst (IsSeen t (count_at states marks) c (n + 1) (get_or states i 0) (mark_in marks i)) (sym (each i m))
      (IsSeen-entry t (count_at states marks) c (get_or states i 0) n (mark_in marks i) (get_or old i false) l (h.each i m));
}

-- entries in which the column isn't alone change nothing
pub IsSeenTo-others : (t : Listed) (c : ℕ) (states : List ℕ) (marks : List Count) (n m : ℕ) (holds : List Bool) → n ≤ m → m ≤ length t.entries
    → ((k : ℕ) → n ≤ k → k < m → presence (get_or t.entries k (no_entry 0)).symbol ≡ 2 ^ c → ⊥) → IsSeenTo t c states marks n holds → IsSeenTo t c states marks m holds
IsSeenTo-others t c states marks n m holds low high others h = let e : n + (m - n) ≡ m = omega arith in subst (λ (k : ℕ). IsSeenTo t c states marks k holds) e (steps (m - n) n (omega arith) (omega arith) h)
  where
    steps : (j i : ℕ) → n ≤ i → i + j ≤ m → IsSeenTo t c states marks i holds → IsSeenTo t c states marks (i + j) holds
    steps zero i l r g = let e : i ≡ i + 0 = omega arith in subst (λ (k : ℕ). IsSeenTo t c states marks k holds) e g
    steps (suc j) i l r g =
        let e : i + 1 + j ≡ i + suc j = omega arith in
        let test : (presence (get_or t.entries i (no_entry 0)).symbol == 2 ^ c) ≡ false = test_from_apart (presence (get_or t.entries i (no_entry 0)).symbol) (2 ^ c) (others i l (omega arith)) in
        subst (λ (k : ℕ). IsSeenTo t c states marks k holds) e (steps j (i + 1) (omega arith) (omega arith)
        (IsSeenTo-entry t c states marks i holds holds (omega arith) g refl
        (λ q inside. sym (ap (λ (b : Bool).
        if b && (get_or t.targets i 0 == get_or states q 0) then held_next (count_at states marks) (mark_in marks q) (kids_at t i) (get_or holds q false) else get_or holds q false) test))))
