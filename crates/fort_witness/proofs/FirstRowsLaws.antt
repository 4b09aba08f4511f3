-- The first rows of all entries, one entry after another.
use Rattle.std.proofs.Common.{◌≡◌, ℕ, suc, ◌<◌, ◌≤◌, ◌⊎◌, List, [], ◌∷◌, ◌++◌, length, get_or, true, false, refl, ap, sym, ◌∙◌, arith, subst, inl, inr, ⊎_elim}
use Rattle.std.specs.Prelude.{Bool, Contains, nat_lt}
use Rattle.std.specs.List.{IsDistinct, AllByRecursion}
use Rattle.std.specs.List.Sorted.{IsPermutation}
use Rattle.std.specs.BinaryHeap.{IsHeap}
use Rattle.std.proofs.lemmas.Bool.{cases_lt}
use Rattle.std.proofs.lemmas.List.Elements.{Contains-get_or, recursion_from_All}
use Rattle.std.proofs.lemmas.List.{length-map, get_or-map, ext_get_or}
use Rattle.std.proofs.lemmas.List.Sorted.{Contains-permutation, IsPermutation-sym}
use Rattle.std.proofs.lemmas.Map.Keys.{IsDistinct-cons, IsDistinct-IsPermutation}
use Rattle.fort_theory.proofs.Members.{Contains-cons_cases}
use Rattle.fort_tables.specs.Tuples.{Tuple}
use Rattle.fort_tables.specs.Entries.{Entry, tuples_of}
use Rattle.fort_tables.specs.Tables.{Table, IsTable, IsTableEntry, state_of, same_entry}
use Rattle.fort_tables.proofs.EntryLaws.{entry_from_same, length-tuples_after}
use Rattle.fort_tables.specs.TupleOrder.{Lower}
use Rattle.fort_witness.specs.declared.kept.Kept.{Kept}
use Rattle.fort_witness.specs.declared.head.Head.{Head}
use Rattle.fort_witness.specs.Heads.{head_cmp}
use Rattle.fort_witness.specs.Rounds.{over_states, states_at, tuple_at}
use Rattle.fort_witness.specs.Choices.{lists_of, numbers_from, IsChoice, IsFirstChoice}
use Rattle.fort_witness.specs.Placing.{IsPlaced}
use Rattle.fort_witness.specs.Making.{IsNewRow, Waits, AreOld, AreWaiting}
use Rattle.fort_witness.specs.Solving.{same_head, AreEntries, AreKeptNodes, AreFirstRows}
use Rattle.fort_witness.proofs.ExchangeLaws.{placed_more}
use Rattle.fort_witness.proofs.MakingLaws.{row_made, row_state, new_level}
use Rattle.fort_witness.proofs.StepLaws.{same_flips, cons_back, row_is, full_before, row_from_choice, choice_from_row, first_waits}

-- no rows at first
pub rows_none : (t : Table) (keep h low : ℕ) (ts : List Tuple) (qs : List ℕ) (entries heads : List Head) → heads ≡ []
    → IsDistinct (same_head qs) heads → IsHeap head_cmp heads → AreFirstRows t keep h low ts qs entries 0 heads
rows_none t keep h low ts qs entries heads e d o =
    let none : (x : Head) → Contains heads x → ⊥ = λ x h. omega (arith, h.1, ap (λ (xs : List Head). length xs) e) in
    record {
      coming = record { news = λ i l. absurd (omega arith); rows = λ x h. absurd (none x h); behind = λ x h i l. absurd (omega arith) };
      waiting = λ x n i y l. absurd (omega arith);
      earlier = λ x h. absurd (none x h);
      apart = d;
      ordered = o;
    }

-- an entry whose rows are all placed
pub rows_same : (t : Table) (keep h low : ℕ) (ts : List Tuple) (qs : List ℕ) (entries heads : List Head) (k : ℕ)
    → AreFirstRows t keep h low ts qs entries k heads
    → ((e : Entry) (d : Head) → IsNewRow t ts low e → over_states qs e ≡ (get_or entries k d).row → IsPlaced t keep (ts ++ []) (tuple_at ts e))
    → AreFirstRows t keep h low ts qs entries (suc k) heads
rows_same t keep h low ts qs entries heads k r covered = record {
  coming = r.coming;
  waiting = λ e n i d l m is. ⊎_elim
      (λ b. r.waiting e n i d b m is)
      (λ b. let s : i ≡ k = omega arith in inl (covered e d n (is ∙ ap (λ j. (get_or entries j d).row) s)))
      (cases_lt i k);
  earlier = λ x c. let p = r.earlier x c in (p.0, omega (arith, p.1), p.2, p.3);
  apart = r.apart;
  ordered = r.ordered;
}

pub all_from : {X : Type 0} (p : X → Bool) (b : Bool) (xs : List X) → ((x : X) → Contains xs x → p x ≡ b)
    → AllByRecursion (λ y. p y ≡ b) xs
all_from p b xs f = recursion_from_All (λ y. p y ≡ b) xs (λ k d l. f (get_or xs k d) (Contains-get_or xs k d l))

pub differ : (a b : Entry) → (a ≡ b → ⊥) → same_entry a b ≡ false
differ a b f = by (same_entry a b) refl
  where
    by : (p : Bool) → same_entry a b ≡ p → same_entry a b ≡ false
    by true e = absurd (f (entry_from_same a b e))
    by false e = e

waits_more : (qs : List ℕ) (heads new : List Head) (e : Entry) → ((y : Head) → Contains heads y → Contains new y)
    → Waits qs heads e → Waits qs new e
waits_more qs heads new e f w = record { head = w.head; among = f w.head w.among; entry = w.entry; before = w.before }

-- an entry's first row
pub rows_push : (t : Table) (keep h low end : ℕ) (ts : List Tuple) (qs : List ℕ) (entries heads new : List Head) (k : ℕ) (x y : Head)
    → AreEntries t entries → k < length entries → ((d : Head) → get_or entries k d ≡ y) → length ts ≡ end
    → length ts ≤ length qs → AreFirstRows t keep h low ts qs entries k heads → IsNewRow t ts low x.row
    → state_of t (tuple_at ts x.row) ≡ x.state → x.row.symbol ≡ y.row.symbol → over_states qs x.row ≡ y.row
    → IsFirstChoice qs low end y.row.kids (nat_lt 0 end) 0 x.row.kids true → IsPermutation (x ∷ heads) new
    → (IsHeap head_cmp heads → IsHeap head_cmp new) → AreFirstRows t keep h low ts qs entries (suc k) new
rows_push t keep h low end ts qs entries heads new k x y es inside is size long r n state symbol own first perm heap =
    let back = IsPermutation-sym (x ∷ heads) new perm in
    let split : (z : Head) → Contains new z → (x ≡ z) ⊎ Contains heads z = λ z c. Contains-cons_cases x heads z (Contains-permutation new (x ∷ heads) z back c) in
    let more : (z : Head) → Contains heads z → Contains new z = λ z c. Contains-permutation (x ∷ heads) new z perm (cons_back x heads z c) in
    let here : Contains new x = Contains-permutation (x ∷ heads) new x perm (0, omega arith, refl) in
    let at : (d : Head) → over_states qs x.row ≡ (get_or entries k d).row = λ d. own ∙ ap (λ (z : Head). z.row) (sym (is d)) in
    let apart : (z : Head) → Contains heads z → same_head qs x z ≡ false = λ z c.
    let p = r.earlier z c in
    differ (over_states qs x.row) (over_states qs z.row) (λ e. es.apart p.0 k y p.1 inside (sym (p.3 y) ∙ (sym e ∙ at y))) in
    record {
      coming = record {
        news = r.coming.news;
        rows = λ z c. ⊎_elim (λ e. subst (λ (w : Head). IsNewRow t ts low w.row × (state_of t (tuple_at ts w.row) ≡ w.state)) e (n, state)) (λ o. r.coming.rows z o) (split z c);
        behind = λ z c i l. absurd (omega arith);
      };
      waiting = λ e m i d l b at'. ⊎_elim
          (λ o. ⊎_elim (λ p. inl p) (λ w. inr (waits_more qs heads new e more w)) (r.waiting e m i d o b at'))
          (λ o.
          let s : i ≡ k = omega arith in
          let row : over_states qs e ≡ y.row = at' ∙ (ap (λ j. (get_or entries j d).row) s ∙ ap (λ (z : Head). z.row) (is d)) in
          inr (first_waits t ts qs low end new x y.row e size long symbol first own here m row))
          (cases_lt i k);
      earlier = λ z c. ⊎_elim
          (λ e. (k, omega arith, inside, λ d. ap (λ (w : Head). over_states qs w.row) (sym e) ∙ at d))
          (λ o. let p = r.earlier z o in (p.0, omega (arith, p.1), p.2, p.3))
          (split z c);
      apart = IsDistinct-IsPermutation (same_head qs) (λ a b. same_flips (over_states qs a.row) (over_states qs b.row)) (x ∷ heads) new perm (IsDistinct-cons (same_head qs) x heads (all_from (same_head qs x) false heads apart) r.apart);
      ordered = heap r.ordered;
    }

-- an entry without a choice has no rows
pub none_covered : (t : Table) (keep low end : ℕ) (ts : List Tuple) (qs : List ℕ) (x e : Entry) → length ts ≡ end
    → length ts ≤ length qs → ((ks : List ℕ) → IsChoice qs low end x.kids (nat_lt 0 end) ks → ⊥) → IsNewRow t ts low e
    → over_states qs e ≡ x → IsPlaced t keep (ts ++ []) (tuple_at ts e)
none_covered t keep low end ts qs x e size long none n is =
    absurd (none e.kids (subst (λ (ss : List ℕ). IsChoice qs low end ss (nat_lt 0 end) e.kids) (ap (λ (y : Entry). y.kids) is) (choice_from_row t ts qs low end e size long n)))

-- at the last entry each new row is of one
pub rows_all : (t : Table) (keep h low : ℕ) (ts : List Tuple) (qs : List ℕ) (entries heads : List Head) (d : Head)
    → AreEntries t entries → AreFirstRows t keep h low ts qs entries (length entries) heads
    → ((e : Entry) → IsNewRow t ts low e → IsTableEntry t (over_states qs e)) → AreWaiting t keep low ts [] qs heads
rows_all t keep h low ts qs entries heads d es r entry = record {
  all = λ e n. let p = es.all (over_states qs e) (entry e n) in r.waiting e n p.0 d p.1 p.1 (sym (p.2 d));
}

-- the nodes' tuples and their number
pub nodes_length : (dag : List Entry) → length (tuples_of dag) ≡ length dag
nodes_length dag = omega (arith, length-tuples_after [] dag)

pub own_entry : (qs : List ℕ) (low end : ℕ) (need : Bool) (x r : Entry) → r.symbol ≡ x.symbol
    → IsChoice qs low end x.kids need r.kids → over_states qs r ≡ x
own_entry qs low end need x r e c =
    row_is (over_states qs r) x e
    (ext_get_or 0 (states_at qs r.kids) x.kids (length-map r.kids (λ k. get_or qs k 0) ∙ c.count)
    (λ j l. let m : j < length r.kids = omega (arith, length-map r.kids (λ k. get_or qs k 0)) in get_or-map (λ k. get_or qs k 0) r.kids j 0 0 m ∙ (c.nodes j m).state))

pub rows_full : (t : Table) (keep h low : ℕ) (f : Kept) (entries heads : List Head) (k : ℕ) (y : Head) → IsTable t
    → 0 < keep → AreEntries t entries → k < length entries → ((d : Head) → get_or entries k d ≡ y)
    → AreKeptNodes t keep f → AreOld t keep h low (tuples_of f.dag)
    → keep ≤ length (numbers_from (lists_of f.lists) y.state)
    → AreFirstRows t keep h low (tuples_of f.dag) f.states.items entries k heads
    → AreFirstRows t keep h low (tuples_of f.dag) f.states.items entries (suc k) heads
rows_full t keep h low f entries heads k y is some es inside at n o full r =
    let ts = tuples_of f.dag in
    let qs = f.states.items in
    rows_same t keep h low ts qs entries heads k r
    (λ e d m own.
    let v = tuple_at ts e in
    let row : over_states qs e ≡ y.row = own ∙ ap (λ (z : Head). z.row) (at d) in
    let target : t.target y.row ≡ y.state = subst (λ (z : Head). t.target z.row ≡ z.state) (at d) (es.are k d inside).1 in
    let state : state_of t v ≡ y.state = row_state t ts qs e n.states (row_made t ts e o.places m.row) ∙ (ap t.target row ∙ target) in
    let high = new_level t keep h low ts e some o m in
    placed_more t keep ts [] v (inr (full_before t keep (length t.presences) ts qs (lists_of f.lists) y.state v n.lists (n.count ∙ sym (nodes_length f.dag)) n.states (omega (arith, n.few y.state)) state
    (λ i l. Lower (omega (arith, o.levels i l))))))

pub rows_missing : (t : Table) (keep h low end : ℕ) (f : Kept) (entries heads : List Head) (k : ℕ) (y : Head)
    → ((d : Head) → get_or entries k d ≡ y) → end ≡ length f.dag → AreKeptNodes t keep f
    → ((ks : List ℕ) → IsChoice f.states.items low end y.row.kids (nat_lt 0 end) ks → ⊥)
    → AreFirstRows t keep h low (tuples_of f.dag) f.states.items entries k heads
    → AreFirstRows t keep h low (tuples_of f.dag) f.states.items entries (suc k) heads
rows_missing t keep h low end f entries heads k y at size n none r =
    let ts = tuples_of f.dag in
    let qs = f.states.items in
    rows_same t keep h low ts qs entries heads k r
    (λ e d m own. none_covered t keep low end ts qs y.row e (nodes_length f.dag ∙ sym size) (omega (arith, nodes_length f.dag, n.count)) none m (own ∙ ap (λ (z : Head). z.row) (at d)))

pub rows_found : (t : Table) (keep h low end : ℕ) (f : Kept) (entries heads new : List Head) (k : ℕ) (x y : Head)
    → IsTable t → AreEntries t entries → k < length entries → ((d : Head) → get_or entries k d ≡ y) → end ≡ length f.dag
    → AreKeptNodes t keep f → AreOld t keep h low (tuples_of f.dag) → x.row.symbol ≡ y.row.symbol → x.state ≡ y.state
    → IsFirstChoice f.states.items low end y.row.kids (nat_lt 0 end) 0 x.row.kids true → IsPermutation (x ∷ heads) new
    → (IsHeap head_cmp heads → IsHeap head_cmp new)
    → AreFirstRows t keep h low (tuples_of f.dag) f.states.items entries k heads
    → AreFirstRows t keep h low (tuples_of f.dag) f.states.items entries (suc k) new
rows_found t keep h low end f entries heads new k x y is es inside at size n o symbol state first perm heap r =
    let ts = tuples_of f.dag in
    let qs = f.states.items in
    let long = nodes_length f.dag in
    let te = subst (λ (z : Head). IsTableEntry t z.row × (t.target z.row ≡ z.state)) (at y) (es.are k y inside) in
    let m = row_from_choice t ts qs low end y.row x.row is o.places (long ∙ sym size) n.states te.0 symbol first.0 in
    let own = own_entry qs low end (nat_lt 0 end) y.row x.row symbol first.0 in
    rows_push t keep h low end ts qs entries heads new k x y es inside at (long ∙ sym size) (omega (arith, long, n.count)) r m
    (row_state t ts qs x.row n.states (row_made t ts x.row o.places m.row) ∙ (ap t.target own ∙ (te.1 ∙ sym state)))
    symbol own first perm heap

pub none_distinct : (qs : List ℕ) (heads : List Head) → heads ≡ [] → IsDistinct (same_head qs) heads
unfolding IsDistinct
none_distinct qs [] e = tt
none_distinct qs (x ∷ heads) e = absurd (omega (arith, ap (λ (xs : List Head). length xs) e))
