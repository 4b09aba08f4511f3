-- The turns of the search within a height, and from one height to the next.
use Rattle.std.proofs.Common.{◌≡◌, ℕ, zero, suc, ◌+◌, ◌-◌, ◌<◌, ◌≤◌, List, [], ◌∷◌, ◌++◌, take, drop, length, length-append, get_or, true, false, refl, ap, sym, ◌∙◌, arith, subst, ⊎_elim}
use Rattle.std.specs.Prelude.{All, Contains}
use Rattle.std.proofs.lemmas.List.Elements.{All-from_get_or}
use Rattle.std.specs.List.Sorted.{IsPermutation}
use Rattle.std.specs.BinaryHeap.{IsHeap, IsUpperBound}
use Rattle.std.proofs.lemmas.Bool.{cases_lt}
use Rattle.std.proofs.lemmas.List.{length-take-le, get_or-take, append-nil, get_or-append_right}
use Rattle.std.proofs.lemmas.List.{take-append-drop}
use Rattle.fort_tables.specs.Tuples.{Tuple, level, IsTuple}
use Rattle.fort_tables.specs.Entries.{Entry, picked, tuples_of}
use Rattle.fort_tables.specs.Tables.{Table, IsTable, state_of}
use Rattle.fort_tables.proofs.TableLaws.{table_state}
use Rattle.fort_tables.proofs.EntryLaws.{IsTuple-entry, get_or-picked}
use Rattle.fort_tables.specs.TupleOrder.{TupleBefore}
use Rattle.fort_tables.proofs.KidOrderLaws.{level_rebuilt}
use Rattle.std.proofs.lemmas.List.Sorted.{Contains-permutation, IsPermutation-sym}
use Rattle.fort_witness.specs.declared.head.Head.{Head}
use Rattle.fort_witness.specs.declared.kept.Kept.{Kept}
use Rattle.fort_witness.specs.Heads.{head_cmp}
use Rattle.fort_witness.specs.Rounds.{tuple_at}
use Rattle.fort_witness.specs.Choices.{lists_of, numbers_from}
use Rattle.fort_witness.specs.Answers.{AreSolutions}
use Rattle.fort_witness.specs.Placing.{HasBefore, IsPlaced, ArePlaces, ArePlacedTo, IsRowOver}
use Rattle.fort_witness.specs.Making.{AreOld, AreStatesOf}
use Rattle.fort_witness.specs.Solving.{AreKeptNodes, IsMaking, IsTakenOut}
use Rattle.fort_witness.proofs.MakingLaws.{IsTaken, row_made, new_level, waiting_full, height_done, before_first}
use Rattle.fort_witness.proofs.ExchangeLaws.{exchange}
use Rattle.fort_witness.proofs.StepLaws.{taken, taken_distinct, rows_alike, full_before, all_before}
use Rattle.fort_witness.proofs.FirstRowsLaws.{nodes_length}
use Rattle.fort_witness.proofs.SolutionLaws.{solutions_all, solutions_more}

-- old and new nodes are all nodes
joined : (end : ℕ) (f : Kept) → take end (tuples_of f.dag) ++ drop end (tuples_of f.dag) ≡ tuples_of f.dag
joined end f = take-append-drop end (tuples_of f.dag)

-- what comes out of the heap
pub making_taken : (t : Table) (most h low end : ℕ) (f : Kept) (heads rest : List Head) (x : Head)
    → IsMaking t most h low end f heads → IsPermutation heads (x ∷ rest) → IsUpperBound head_cmp x heads
    → IsTaken (take end f.states.items) heads rest x
making_taken t most h low end f heads rest x m perm top =
    let qs = take end f.states.items in
    let old = take end (tuples_of f.dag) in
    let own : Contains heads x = (taken_own heads rest x perm) in
    taken qs heads rest x perm top m.apart (λ y c. rows_alike t old y.row x.row (m.coming.rows y c).0.row (m.coming.rows x own).0.row)
  where
    taken_own : (heads rest : List Head) (x : Head) → IsPermutation heads (x ∷ rest) → Contains heads x
    taken_own heads rest x perm = Contains-permutation (x ∷ rest) heads x (IsPermutation-sym heads (x ∷ rest) perm) (0, omega arith, refl)

pub old_states : (t : Table) (most h low end : ℕ) (f : Kept) (heads : List Head) → IsMaking t most h low end f heads
    → AreStatesOf t (take end (tuples_of f.dag)) (take end f.states.items)
old_states t most h low end f heads m =
    let ts = tuples_of f.dag in
    let b : end ≤ length ts = omega (arith, m.within, nodes_length f.dag) in
    record {
      at = λ i l.
          let n : i < end = omega (arith, length-take-le end ts b) in
          get_or-take end f.states.items i 0 n ∙ (m.nodes.states.at i (omega arith) ∙ ap (state_of t) (sym (get_or-take end ts i [] n)));
    }

joined_places : (t : Table) (most h low end : ℕ) (f : Kept) (heads : List Head) → IsMaking t most h low end f heads
    → ArePlaces t (take end (tuples_of f.dag) ++ drop end (tuples_of f.dag))
joined_places t most h low end f heads m = subst (ArePlaces t) (sym (joined end f)) m.nodes.places

-- a row's tuple, its level and what comes before it
pub record IsComing (t : Table) (most h low end : ℕ) (f : Kept) (x : Head) : Type 0 where
  pub tuple : IsTuple t.signature t.columns (tuple_at (take end (tuples_of f.dag)) x.row)
  pub level_is : level (tuple_at (take end (tuples_of f.dag)) x.row) ≡ suc h
  pub state : state_of t (tuple_at (take end (tuples_of f.dag)) x.row) ≡ x.state
  pub known : x.state < length t.presences
  pub before : (i : ℕ) → i < length (tuples_of f.dag)
      → TupleBefore (get_or (tuples_of f.dag) i []) (tuple_at (take end (tuples_of f.dag)) x.row)

pub making_coming : (t : Table) (most h low end : ℕ) (f : Kept) (heads : List Head) (x : Head) → IsTable t
    → IsMaking t most h low end f heads → Contains heads x → IsComing t most h low end f x
making_coming t most h low end f heads x is m own =
    let old = take end (tuples_of f.dag) in
    let us = drop end (tuples_of f.dag) in
    let r = m.coming.rows x own in
    let v = tuple_at old x.row in
    let tuple = IsTuple-entry t.signature t.columns old x.row m.old.places.tuples r.0.row in
    let high = new_level t (suc most) h low old x.row (omega arith) m.old r.0 in
    record {
      tuple = tuple;
      level_is = high;
      state = r.1;
      known = omega (arith, (table_state t is v tuple).within, r.1);
      before = subst (λ (ts : List Tuple). (i : ℕ) → i < length ts → TupleBefore (get_or ts i []) v) (joined end f)
          (all_before t (suc most) h low old us (take end f.states.items) heads x m.old (joined_places t most h low end f heads m) m.coming own high);
    }

-- the same of a row that was taken out
pub taken_out : (t : Table) (most h low end : ℕ) (f : Kept) (x : Head) (rest : List Head) (q : IsTakenOut t most h low end f x rest)
    → IsTaken (take end f.states.items) q.heads rest x
taken_out t most h low end f x rest q = making_taken t most h low end f q.heads rest x q.making q.permutation q.top

pub coming_out : (t : Table) (most h low end : ℕ) (f : Kept) (x : Head) (rest : List Head) → IsTable t
    → IsTakenOut t most h low end f x rest → IsComing t most h low end f x
coming_out t most h low end f x rest is q =
    making_coming t most h low end f q.heads x is q.making (taken_out t most h low end f x rest q).own

-- Result: a row whose state is full is left out
pub making_full : (t : Table) (most h low end : ℕ) (f : Kept) (heads rest : List Head) (x : Head) → IsTable t
    → IsMaking t most h low end f heads → IsPermutation heads (x ∷ rest) → IsUpperBound head_cmp x heads
    → IsHeap head_cmp rest → most < length (numbers_from (lists_of f.lists) x.state) → IsMaking t most h low end f rest
making_full t most h low end f heads rest x is m perm top heap full =
    let ts = tuples_of f.dag in
    let qs = take end f.states.items in
    let old = take end ts in
    let us = drop end ts in
    let k = making_taken t most h low end f heads rest x m perm top in
    let c = making_coming t most h low end f heads x is m k.own in
    let some : 0 < suc most = omega arith in
    let b : HasBefore t (suc most) ts (tuple_at old x.row) = full_before t (suc most) (length t.presences) ts f.states.items (lists_of f.lists) x.state (tuple_at old x.row) m.nodes.lists (m.nodes.count ∙ sym (nodes_length f.dag)) m.nodes.states (omega (arith, m.nodes.few x.state)) c.state c.before in
    record {
      nodes = m.nodes;
      within = m.within;
      old = m.old;
      coming = record { news = m.coming.news; rows = λ y a. m.coming.rows y (k.back y a); behind = λ y a. m.coming.behind y (k.back y a) };
      waiting = waiting_full t (suc most) h low old us qs heads rest x some m.old (old_states t most h low end f heads m) m.coming m.waiting k (subst (λ (xs : List Tuple). HasBefore t (suc most) xs (tuple_at old x.row)) (sym (joined end f)) b);
      apart = taken_distinct qs heads rest x perm m.apart;
      ordered = heap;
      few = m.few;
    }

all_within : (dag : List Entry) (ks : List ℕ) → ((j : ℕ) → j < length ks → get_or ks j 0 < length (tuples_of dag))
    → All (λ k. k < length dag) ks
all_within dag ks h = All-from_get_or (λ k. k < length dag) ks 0 (λ j l. omega (arith, h j l, nodes_length dag))

-- Result: at a further accepted row the search ends
pub making_stop : (t : Table) (most h low end height : ℕ) (f : Kept) (heads rest : List Head) (x : Head) → IsTable t
    → IsMaking t most h low end f heads → IsPermutation heads (x ∷ rest) → IsUpperBound head_cmp x heads
    → t.accepting x.state ≡ true → length f.accepted.items ≡ most → h ≤ height
    → AreSolutions t height most f.dag f.accepted.items true
making_stop t most h low end height f heads rest x is m perm top agreed count up =
    let ts = tuples_of f.dag in
    let qs = take end f.states.items in
    let old = take end ts in
    let us = drop end ts in
    let k = making_taken t most h low end f heads rest x m perm top in
    let c = making_coming t most h low end f heads x is m k.own in
    record {
      are = m.nodes.are;
      within = all_within f.dag f.accepted.items m.nodes.accepted.within;
      first = solutions_more t height most ts f.accepted.items (tuple_at old x.row) is m.nodes.places m.nodes.accepted c.before c.tuple (omega (arith, c.level_is)) (ap t.accepting c.state ∙ agreed)
          (λ u tuple b. subst (λ (xs : List Tuple). IsPlaced t (suc most) xs u) (joined end f)
          (before_first t (suc most) h low old us qs heads rest x is (omega arith) m.old (joined_places t most h low end f heads m) m.coming m.waiting k u tuple b))
          count;
    }

-- Result: where no row is left, the nodes are the old ones of the next height
pub making_done : (t : Table) (most h low end : ℕ) (f : Kept) → IsTable t → IsMaking t most h low end f []
    → AreOld t (suc most) (suc h) end (tuples_of f.dag)
making_done t most h low end f is m =
    let ts = tuples_of f.dag in
    let old = take end ts in
    let us = drop end ts in
    let b : end ≤ length ts = omega (arith, m.within, nodes_length f.dag) in
    let size : length old ≡ end = length-take-le end ts b in
    let low_at : (i : ℕ) → i < end → level (get_or ts i []) ≤ h = λ i l. omega (arith, ap level (get_or-take end ts i [] l), m.old.levels i (omega arith)) in
    let high_at : (i : ℕ) → i < length ts → end ≤ i → level (get_or ts i []) ≡ suc h = λ i l e.
    ap (λ (xs : List Tuple). level (get_or xs i [])) (sym (joined end f)) ∙ (ap level (get_or-append_right old us end i [] size e) ∙ m.coming.news (i - end) (omega (arith, length-append old us, ap (λ (xs : List Tuple). length xs) (joined end f)))) in
    record {
      places = m.nodes.places;
      placed = subst (λ (xs : List Tuple). ArePlacedTo t (suc most) (suc h) xs) (joined end f) (height_done t (suc most) h low old us (take end f.states.items) is (omega arith) m.old (joined_places t most h low end f [] m) m.waiting);
      levels = λ i l. ⊎_elim (λ e. omega (arith, low_at i e)) (λ e. omega (arith, high_at i l e)) (cases_lt i end);
      lower = λ i l e. omega (arith, low_at i e);
      top = λ i l e. high_at i l e;
    }

-- a row is at most one level higher than the nodes
row_low : (t : Table) (h : ℕ) (ts : List Tuple) (e : Entry) → ArePlaces t ts
    → ((i : ℕ) → i < length ts → level (get_or ts i []) ≤ h) → IsRowOver t ts e → level (tuple_at ts e) ≤ suc h
row_low t h ts e p low r =
    let m = row_made t ts e p r in
    level_rebuilt t.signature e.symbol (picked ts e.kids) h m.kids_are (λ j l. let b : j < length e.kids = omega (arith, m.count) in omega (arith, ap level (get_or-picked ts e.kids j b), low (get_or e.kids j 0) (m.within j b)))

-- where no row is new, nothing is higher
pub none_higher : (t : Table) (keep h : ℕ) (ts : List Tuple) (d : ℕ) → IsTable t → 0 < keep → ArePlaces t ts
    → ((i : ℕ) → i < length ts → level (get_or ts i []) ≤ h) → ArePlacedTo t keep (suc h) ts
    → ArePlacedTo t keep (suc h + d) ts
none_higher t keep h ts zero is some p low placed = λ v tuple l. placed v tuple (omega arith)
none_higher t keep h ts (suc d) is some p low placed =
    let before = none_higher t keep h ts d is some p low placed in
    let same : ts ++ [] ≡ ts = append-nil ts in
    λ v tuple l. subst (λ (xs : List Tuple). IsPlaced t keep xs v) same
    (exchange t keep (suc h + d) ts [] (λ u. Unit {0}) is some p (subst (ArePlaces t) (sym same) p) before
    (record {
      down = λ a b c z. tt;
      rows = λ e r m z. absurd (omega (arith, row_low t h ts e p low r));
    })
    v tuple (omega arith) tt)

-- Result: at the last height, or where nothing is higher, the accepted nodes are all solutions
pub making_all : (t : Table) (most height : ℕ) (f : Kept) → IsTable t → AreKeptNodes t (suc most) f
    → length f.accepted.items ≤ most
    → ((i : ℕ) → i < length (tuples_of f.dag) → level (get_or (tuples_of f.dag) i []) ≤ suc height)
    → ArePlacedTo t (suc most) (suc height) (tuples_of f.dag) → AreSolutions t height most f.dag f.accepted.items false
making_all t most height f is n few low placed = record {
  are = n.are;
  within = all_within f.dag f.accepted.items n.accepted.within;
  first = solutions_all t height most (tuples_of f.dag) f.accepted.items is n.places n.accepted low placed few;
}
