-- Tuples of states that a congruence joins are interchangeable, and a congruence joins no separated states.
use Rattle.std.proofs.Common.{◌≡◌, ℕ, zero, suc, ◌<◌, List, [], ◌∷◌, map, set, length, get_or, Bool, true, false, ◌==◌, None, Some, refl, ⊎_elim, ap, sym, ◌∙◌, arith, subst}
use Rattle.std.proofs.lemmas.List.{length-map, length-set, map-set, ext_get_or, get_or-set_same, get_or-set_other}
use Rattle.std.proofs.lemmas.Bool.{cases_lt}
use Rattle.fort_theory.specs.Trees.{Tree}
use Rattle.fort_tables.specs.Tuples.{Tuple, root, kid, kids, kid_count, presence, IsTuple, IsPresent, all_absent}
use Rattle.fort_tables.specs.Entries.{entry}
use Rattle.fort_tables.specs.Tables.{Table, IsTable, IsTableEntry, state_of}
use Rattle.fort_tables.proofs.EqualTests.{equal_from_test, apart_from_test}
use Rattle.fort_tables.proofs.TupleLaws.{fold_tuple-step, length-tabulate, get_or-tabulate, IsTuple-kid}
use Rattle.fort_tables.proofs.InsertLaws.{kid-past, presence-all_absent}
use Rattle.fort_tables.proofs.TableLaws.{table_state, IsEntry-states, entry_of}
use Rattle.fort_tables.specs.Interchange.{tuple_at, tuple_with, Interchangeable, AcceptsExactly}
use Rattle.fort_tables.specs.Separation.{entry_with, MayStand, Separated, ByColumns, ByAcceptance, ByEntry, IsCongruence}
use Rattle.fort_tables.proofs.PlaceLaws.{full-tuple_with, IsTuple-tuple_with, tuple_at-root, tuple_with-root, tuple_at-kid, root-tuple_with, kid_count-tuple_with, kid-tuple_with, kid-tuple_with_other}

pub by_test : (X : Type 0) (b : Bool) → (b ≡ true → X) → (b ≡ false → X) → X
by_test X true h k = h refl
by_test X false h k = k refl

pub by_equal : (X : Type 0) (m n : ℕ) → (m ≡ n → X) → ((m ≡ n → ⊥) → X) → X
by_equal X m n h k = by_test X (m == n) (λ e. h (equal_from_test m n e)) (λ e. k (apart_from_test m n e))

-- the children of a tuple with another one below
pub kids-tuple_with : (w : Tuple) (j : ℕ) (p : List ℕ) (t : Tuple) → j < kid_count w → kids (tuple_with w (j ∷ p) t) ≡ set (kids w) j (tuple_with (kid w j) p t)
kids-tuple_with w j p t h =
    let v = tuple_with w (j ∷ p) t in
    let left : length (kids v) ≡ kid_count w = length-tabulate (kid_count v) (kid v) ∙ kid_count-tuple_with w j p t in
    let right : length (set (kids w) j (tuple_with (kid w j) p t)) ≡ kid_count w = length-set (kids w) j (tuple_with (kid w j) p t) ∙ length-tabulate (kid_count w) (kid w) in
    ext_get_or [] (kids v) (set (kids w) j (tuple_with (kid w j) p t)) (left ∙ sym right)
    (λ i l. let m : i < kid_count w = omega (arith, left) in
    let at : get_or (kids v) i [] ≡ kid v i = get_or-tabulate (kid_count v) (kid v) i [] (omega (arith, kid_count-tuple_with w j p t)) in
    at ∙ by_equal (kid v i ≡ get_or (set (kids w) j (tuple_with (kid w j) p t)) i []) i j
    (λ e. ap (kid v) e ∙ (kid-tuple_with w j p t
    ∙ (sym (get_or-set_same (kids w) j (tuple_with (kid w j) p t) [] (omega (arith, length-tabulate (kid_count w) (kid w))))
    ∙ ap (λ k. get_or (set (kids w) j (tuple_with (kid w j) p t)) k []) (sym e))))
    (λ n. kid-tuple_with_other w j i p t n
    ∙ (sym (get_or-tabulate (kid_count w) (kid w) i [] m) ∙ sym (get_or-set_other (kids w) j i (tuple_with (kid w j) p t) [] n))))

-- the entry and the state of a tuple with another one below
pub entry-tuple_with : (table : Table) (w : Tuple) (j : ℕ) (p : List ℕ) (t : Tuple) → j < kid_count w
    → entry_of (state_of table) (tuple_with w (j ∷ p) t) ≡ entry_with (root w) (map (state_of table) (kids w)) j (state_of table (tuple_with (kid w j) p t))
entry-tuple_with table w j p t h =
    ap (λ f. entry f (map (state_of table) (kids (tuple_with w (j ∷ p) t)))) (root-tuple_with w j p t)
    ∙ ap (λ ks. entry (root w) ks) (ap (map (state_of table)) (kids-tuple_with w j p t h) ∙ map-set (state_of table) (kids w) j (tuple_with (kid w j) p t))

pub state-tuple_with : (table : Table) (w : Tuple) (j : ℕ) (p : List ℕ) (t : Tuple) → j < kid_count w
    → state_of table (tuple_with w (j ∷ p) t) ≡ table.target (entry_with (root w) (map (state_of table) (kids w)) j (state_of table (tuple_with (kid w j) p t)))
state-tuple_with table w j p t h =
    fold_tuple-step (λ f ks. table.target (entry f ks)) (tuple_with w (j ∷ p) t) ∙ ap table.target (entry-tuple_with table w j p t h)

pub IsTableEntry-states : (table : Table) → IsTable table → (t : Tuple) → IsTuple table.signature table.columns t → IsTableEntry table (entry_of (state_of table) t)
IsTableEntry-states table is t h =
    IsEntry-states table.signature table.columns table.presences (state_of table) t h
    (λ j l. table_state table is (kid t j) (IsTuple-kid table.signature table.columns t j h l))

-- a place where some column is present is below a child that is there
present_some : (t : Tuple) → IsPresent t → 0 < presence t
present_some [] h = absurd h
present_some (None ∷ t) h = omega (arith, present_some t h)
present_some (Some x ∷ t) h = omega arith

at_absent : (n : ℕ) (p : List ℕ) → tuple_at (all_absent n) p ≡ all_absent n
at_absent zero p = refl
at_absent (suc n) p = ap (λ t. None ∷ t) (at_absent n p)

pub child_there : (w t : Tuple) (j : ℕ) (p : List ℕ) → IsPresent t → presence (tuple_at (kid w j) p) ≡ presence t → j < kid_count w
child_there w t j p h e = ⊎_elim (λ l. l)
    (λ l. absurd (omega (arith, present_some t h, e, ap (λ v. presence (tuple_at v p)) (kid-past w j l), ap presence (at_absent (length w) p), presence-all_absent Tree (length w))))
    (cases_lt j (kid_count w))

-- Result: where a congruence joins the states of two tuples, it joins those of any tuple with the one or the other at a place
pub joined_with : (table : Table) (R : ℕ → ℕ → Type 0) → IsTable table → IsCongruence table R → (p : List ℕ) (w t u : Tuple)
    → IsTuple table.signature table.columns w → IsTuple table.signature table.columns t → IsTuple table.signature table.columns u
    → presence (tuple_at w p) ≡ presence t → presence t ≡ presence u → R (state_of table t) (state_of table u)
    → R (state_of table (tuple_with w p t)) (state_of table (tuple_with w p u))
joined_with table R is cong [] w t u hw ht hu e f r =
    let here : presence w ≡ presence t = ap presence (sym (tuple_at-root w)) ∙ e in
    let one : t ≡ tuple_with w [] t = sym (tuple_with-root w t (hw.width ∙ sym ht.width) here) in
    let other : u ≡ tuple_with w [] u = sym (tuple_with-root w u (hw.width ∙ sym hu.width) (here ∙ f)) in
    subst (λ v. R (state_of table (tuple_with w [] t)) (state_of table v)) other (subst (λ v. R (state_of table v) (state_of table u)) one r)
joined_with table R is cong (j ∷ p) w t u hw ht hu e f r =
    let below : presence (tuple_at (kid w j) p) ≡ presence t = ap presence (sym (tuple_at-kid w j p)) ∙ e in
    let l = child_there w t j p ht.present below in
    let hk = IsTuple-kid table.signature table.columns w j hw l in
    let ks = map (state_of table) (kids w) in
    let ih = joined_with table R is cong p (kid w j) t u hk ht hu below f r in
    let entry_at : (v : Tuple) → IsTuple table.signature table.columns v → IsTableEntry table (entry_with (root w) ks j (state_of table (tuple_with (kid w j) p v))) =
    λ v hv. subst (IsTableEntry table) (entry-tuple_with table w j p v l) (IsTableEntry-states table is (tuple_with w (j ∷ p) v) (IsTuple-tuple_with table.signature table.columns w (j ∷ p) v hw hv)) in
    let stand : MayStand table (root w) ks j (state_of table (tuple_with (kid w j) p t)) (state_of table (tuple_with (kid w j) p u)) =
    record { child = omega (arith, length-map (kids w) (state_of table), length-tabulate (kid_count w) (kid w)); one = entry_at t ht; other = entry_at u hu } in
    let done = cong.entries (root w) ks j (state_of table (tuple_with (kid w j) p t)) (state_of table (tuple_with (kid w j) p u)) stand ih in
    subst (λ q. R (state_of table (tuple_with w (j ∷ p) t)) q) (sym (state-tuple_with table w j p u l))
    (subst (λ q. R q (table.target (entry_with (root w) ks j (state_of table (tuple_with (kid w j) p u))))) (sym (state-tuple_with table w j p t l)) done)

-- Result: tuples whose states a congruence joins are interchangeable
pub interchangeable_from_joined : (table : Table) (C : ℕ → ℕ → Type 0) (R : Tuple → Type 0) → IsTable table → AcceptsExactly table R → IsCongruence table C → (t u : Tuple)
    → IsTuple table.signature table.columns t → IsTuple table.signature table.columns u → C (state_of table t) (state_of table u) → Interchangeable table.signature table.columns R t u
interchangeable_from_joined table C R is accepts cong t u ht hu r =
    let same : presence t ≡ presence u =
    sym (table_state table is t ht).presence_is ∙ (cong.columns (state_of table t) (state_of table u) r ∙ (table_state table is u hu).presence_is) in
    record {
      same_columns = same;
      same = λ w p place.
          let one = accepts (tuple_with w p t) (IsTuple-tuple_with table.signature table.columns w p t place.tuple ht) (full-tuple_with w p t place.full) in
          let other = accepts (tuple_with w p u) (IsTuple-tuple_with table.signature table.columns w p u place.tuple hu) (full-tuple_with w p u place.full) in
          let e = cong.acceptance (state_of table (tuple_with w p t)) (state_of table (tuple_with w p u)) (joined_with table C is cong p w t u place.tuple ht hu place.exactly same r) in
          ((λ x. other.0 (sym e ∙ one.1 x)), (λ y. one.0 (e ∙ other.1 y)));
    }

-- no congruence joins separated states
pub unseparated_from_joined : (table : Table) (C : ℕ → ℕ → Type 0) → IsCongruence table C → {p q : ℕ} → Separated table p q → C p q → ⊥
unseparated_from_joined table C cong {p = p} {q = q} (ByColumns n) r = n (cong.columns p q r)
unseparated_from_joined table C cong {p = p} {q = q} (ByAcceptance n) r = n (cong.acceptance p q r)
unseparated_from_joined table C cong {p = p} {q = q} (ByEntry f ks j stand s) r = unseparated_from_joined table C cong s (cong.entries f ks j p q stand r)
