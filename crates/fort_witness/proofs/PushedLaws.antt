-- A popped row becomes a node.
use Rattle.std.proofs.Common.{◌≡◌, ℕ, suc, ◌<◌, ◌≤◌, ◌⊎◌, List, [], ◌∷◌, ◌++◌, take, drop, length, length-append, get_or, true, false, refl, ap, sym, ◌∙◌, arith, subst, ⊎_elim, if◌then◌else◌}
use Rattle.std.specs.Prelude.{Bool, Contains, ◌&&◌, ◌==◌}
use Rattle.std.specs.List.{IsDistinct}
use Rattle.std.specs.List.Sorted.{IsPermutation}
use Rattle.std.specs.BinaryHeap.{IsHeap, IsUpperBound}
use Rattle.std.proofs.lemmas.Bool.{cases_lt}
use Rattle.std.proofs.lemmas.List.{length-map, get_or-map, length_push, get_or_push, get_or_append_left, take-append-drop, take-append-le, drop-append-le}
use Rattle.fort_tables.specs.Tuples.{Tuple, presence, rebuilt}
use Rattle.fort_tables.specs.Entries.{Entry, StageBefore, IsEntry, AreNodes, picked, node_presences, tuples_of}
use Rattle.fort_tables.specs.Tables.{Table, IsTable, state_of}
use Rattle.fort_tables.proofs.EntryLaws.{tuples_after-push}
use Rattle.fort_tables.proofs.EqualTests.{equal_from_test}
use Rattle.fort_tables.proofs.NodeLaws.{presences-nodes, AreNodes-push}
use Rattle.fort_tables.specs.OperationTruth.{accepts}
use Rattle.fort_witness.specs.declared.head.Head.{Head}
use Rattle.fort_witness.specs.declared.kept.Kept.{Kept}
use Rattle.fort_witness.specs.Heads.{head_cmp}
use Rattle.fort_witness.specs.Rounds.{over_states, tuple_at}
use Rattle.fort_witness.specs.Choices.{lists_of, numbers_from, AreListed, HasOneMore}
use Rattle.fort_witness.specs.Accepted.{AreAccepted}
use Rattle.fort_witness.specs.Placing.{ArePlaces, IsRowOver}
use Rattle.fort_witness.specs.Making.{IsNewRow, AreOld, Waits, AreComing, AreStatesOf, AreWaiting}
use Rattle.fort_witness.specs.Solving.{same_head, IsMaking}
use Rattle.fort_witness.proofs.NextLaws.{same_or_other}
use Rattle.fort_witness.proofs.MakingLaws.{row_made, waiting_node, places_node, coming_node}
use Rattle.fort_witness.proofs.FirstRowsLaws.{nodes_length}
use Rattle.fort_witness.proofs.TurnLaws.{making_taken, making_coming}

-- a row over the first nodes is one over all
picked_front : (ts us : List Tuple) (ks : List ℕ) → ((j : ℕ) → j < length ks → get_or ks j 0 < length ts)
    → picked (ts ++ us) ks ≡ picked ts ks
picked_front ts us [] h = refl
picked_front ts us (k ∷ ks) h =
    ap (λ (t : Tuple). t ∷ picked (ts ++ us) ks) (get_or_append_left ts us [] k (h 0 (omega arith)))
    ∙ ap (λ (vs : List Tuple). get_or ts k [] ∷ vs) (picked_front ts us ks (λ j l. h (suc j) (omega arith)))

row_over_all : (t : Table) (ts us : List Tuple) (e : Entry) → IsRowOver t ts e → IsRowOver t (ts ++ us) e
row_over_all t ts us e r = record {
  symbol = r.symbol;
  count = r.count;
  within = λ j l. omega (arith, r.within j l, length-map ts presence, length-map (ts ++ us) presence, length-append ts us);
  presence = λ j l.
      let k = get_or e.kids j 0 in
      let b : k < length ts = omega (arith, r.within j l, length-map ts presence) in
      get_or-map presence (ts ++ us) k [] 0 (omega (arith, length-append ts us))
      ∙ (ap (λ (x : Tuple). presence x) (get_or_append_left ts us [] k b) ∙ (sym (get_or-map presence ts k [] 0 b) ∙ r.presence j l));
}

pub row_entry : (t : Table) (end : ℕ) (dag : List Entry) (e : Entry) → IsRowOver t (take end (tuples_of dag)) e
    → IsEntry t.signature t.columns (node_presences dag) e
row_entry t end dag e r =
    let ts = tuples_of dag in
    let all : IsRowOver t ts e = subst (λ (xs : List Tuple). IsRowOver t xs e) (take-append-drop end ts) (row_over_all t (take end ts) (drop end ts) e r) in
    subst (λ (ps : List ℕ). IsEntry t.signature t.columns ps e) (presences-nodes dag) all

-- one more tuple, listed where it is accepted
accepted_push : (t : Table) (ts : List Tuple) (acc new : List ℕ) (v : Tuple) (b : Bool) → AreAccepted t ts acc
    → accepts t v ≡ b → new ≡ (if b then acc ++ length ts ∷ [] else acc) → AreAccepted t (ts ++ v ∷ []) new
accepted_push t ts acc new v false a e g =
    let left : (i : ℕ) → i < length ts → get_or (ts ++ v ∷ []) i [] ≡ get_or ts i [] = λ i l. get_or_append_left ts (v ∷ []) [] i l in
    let one : AreAccepted t (ts ++ v ∷ []) acc = record {
      rise = a.rise;
      within = λ j l. omega (arith, a.within j l, length_push ts v);
      accepted = λ j l. ap (accepts t) (left (get_or acc j 0) (a.within j l)) ∙ a.accepted j l;
      all = λ i l f. ⊎_elim
          (λ m. a.all i m (sym (ap (accepts t) (left i m)) ∙ f))
          (λ m. let s : length ts ≡ i = omega (arith, length_push ts v) in let c : true ≡ false = sym f ∙ (ap (accepts t) (get_or_push ts v [] i s) ∙ e) in absurd cc)
          (cases_lt i (length ts));
    } in
    subst (AreAccepted t (ts ++ v ∷ [])) (sym g) one
accepted_push t ts acc new v true a e g =
    let n = length ts in
    let left : (i : ℕ) → i < length ts → get_or (ts ++ v ∷ []) i [] ≡ get_or ts i [] = λ i l. get_or_append_left ts (v ∷ []) [] i l in
    let early : (j : ℕ) → j < length acc → get_or (acc ++ n ∷ []) j 0 ≡ get_or acc j 0 = λ j l. get_or_append_left acc (n ∷ []) 0 j l in
    let last : (j : ℕ) → length acc ≤ j → j < length (acc ++ n ∷ []) → get_or (acc ++ n ∷ []) j 0 ≡ n = λ j l m. let s : length acc ≡ j = omega (arith, length_push acc n) in get_or_push acc n 0 j s in
    let own : get_or (ts ++ v ∷ []) n [] ≡ v = get_or_push ts v [] n refl in
    let one : AreAccepted t (ts ++ v ∷ []) (acc ++ n ∷ []) = record {
      rise = λ i j l m. ⊎_elim
          (λ b. omega (arith, early i (omega arith), early j b, a.rise i j l b))
          (λ b. let c : i < length acc = omega (arith, length_push acc n) in omega (arith, early i c, last j b m, a.within i c))
          (cases_lt j (length acc));
      within = λ j l. ⊎_elim
          (λ b. omega (arith, early j b, a.within j b, length_push ts v))
          (λ b. omega (arith, last j b l, length_push ts v))
          (cases_lt j (length acc));
      accepted = λ j l. ⊎_elim
          (λ b. ap (λ k. accepts t (get_or (ts ++ v ∷ []) k [])) (early j b) ∙ (ap (accepts t) (left (get_or acc j 0) (a.within j b)) ∙ a.accepted j b))
          (λ b. ap (λ k. accepts t (get_or (ts ++ v ∷ []) k [])) (last j b l) ∙ (ap (accepts t) own ∙ e))
          (cases_lt j (length acc));
      all = λ i l f. ⊎_elim
          (λ m. let r = a.all i m (sym (ap (accepts t) (left i m)) ∙ f) in (r.0, omega (arith, r.1, length_push acc n), early r.0 r.1 ∙ r.2))
          (λ m. (length acc, omega (arith, length_push acc n), get_or_push acc n 0 (length acc) refl ∙ omega (arith, length_push ts v)))
          (cases_lt i (length ts));
    } in
    subst (AreAccepted t (ts ++ v ∷ [])) (sym g) one

-- what a push says
pub record IsPushed (f new : Kept) (x : Head) (b : Bool) (n : ℕ) : Type 0 where
  pub dag : new.dag ≡ f.dag ++ x.row ∷ []
  pub states : new.states.items ≡ f.states.items ++ x.state ∷ []
  pub lists : AreListed n (f.states.items ++ x.state ∷ []) (lists_of new.lists)
  pub counts : HasOneMore x.state (lists_of f.lists) (lists_of new.lists)
  pub accepted : new.accepted.items ≡ (if b then f.accepted.items ++ length f.dag ∷ [] else f.accepted.items)

-- the rows to come behind a popped one
pub record AreNext (t : Table) (old : List Tuple) (low : ℕ) (qs : List ℕ) (rest new : List Head) (x : Head) : Type 0 where
  pub more : (y : Head) → Contains rest y → Contains new y
  pub from : (y : Head) → Contains new y
      → Contains rest y ⊎ (StageBefore x.row y.row × (IsNewRow t old low y.row × (state_of t (tuple_at old y.row) ≡ y.state)))
  pub next : (e : Entry) → IsNewRow t old low e → over_states qs x.row ≡ over_states qs e → StageBefore x.row e
      → Waits qs new e
  pub apart : IsDistinct (same_head qs) new
  pub ordered : IsHeap head_cmp new

accepted_few : (acc new : List ℕ) (n most : ℕ) (b : Bool) → length acc ≤ most → (b ≡ true → length acc ≡ most → ⊥)
    → new ≡ (if b then acc ++ n ∷ [] else acc) → length new ≤ most
accepted_few acc new n most false l f e = omega (arith, ap (λ (xs : List ℕ). length xs) e)
accepted_few acc new n most true l f e = ⊎_elim (λ b. omega (arith, ap (λ (xs : List ℕ). length xs) e, length_push acc n)) (λ b. absurd (f refl (omega arith))) (cases_lt (length acc) most)

-- Result: a popped row becomes a node
pub making_node : (t : Table) (most h low end : ℕ) (f new : Kept) (heads rest heads' : List Head) (x : Head) (b : Bool)
    → IsTable t → IsMaking t most h low end f heads → IsPermutation heads (x ∷ rest) → IsUpperBound head_cmp x heads
    → length (numbers_from (lists_of f.lists) x.state) ≤ most → b ≡ t.accepting x.state
    → (b ≡ true → length f.accepted.items ≡ most → ⊥) → IsPushed f new x b (length t.presences)
    → AreNext t (take end (tuples_of f.dag)) low (take end f.states.items) rest heads' x
    → IsMaking t most h low end new heads'
making_node t most h low end f new heads rest heads' x b is m perm top room flag over p n =
    let keep = suc most in
    let ts = tuples_of f.dag in
    let qs = f.states.items in
    let old = take end ts in
    let us = drop end ts in
    let qo = take end qs in
    let some : 0 < keep = omega arith in
    let k = making_taken t most h low end f heads rest x m perm top in
    let c = making_coming t most h low end f heads x is m k.own in
    let r = (m.coming.rows x k.own).0 in
    let v = tuple_at old x.row in
    let whole : old ++ us ≡ ts = take-append-drop end ts in
    let same : rebuilt x.row.symbol (picked ts x.row.kids) ≡ v =
    ap (rebuilt x.row.symbol) (ap (λ (xs : List Tuple). picked xs x.row.kids) (sym whole) ∙ picked_front old us x.row.kids (row_made t old x.row m.old.places r.row).within) in
    let tuples : tuples_of new.dag ≡ ts ++ v ∷ [] = ap (λ (xs : List Entry). tuples_of xs) p.dag ∙ (tuples_after-push [] f.dag x.row ∙ ap (λ (w : Tuple). ts ++ w ∷ []) same) in
    let tl : length ts ≡ length f.dag = nodes_length f.dag in
    let te : end ≤ length ts = omega (arith, m.within) in
    let qe : end ≤ length qs = omega (arith, m.within, m.nodes.count) in
    let old_is : take end (tuples_of new.dag) ≡ old = ap (λ (xs : List Tuple). take end xs) tuples ∙ take-append-le end ts (v ∷ []) te in
    let us_is : drop end (tuples_of new.dag) ≡ us ++ v ∷ [] = ap (λ (xs : List Tuple). drop end xs) tuples ∙ drop-append-le end ts (v ∷ []) te in
    let qo_is : take end new.states.items ≡ qo = ap (λ (xs : List ℕ). take end xs) p.states ∙ take-append-le end qs (x.state ∷ []) qe in
    let joined : ArePlaces t (old ++ us) = subst (ArePlaces t) (sym whole) m.nodes.places in
    let places : ArePlaces t (ts ++ v ∷ []) = subst (λ (xs : List Tuple). ArePlaces t (xs ++ v ∷ [])) whole (places_node t keep h low old us qo heads x some m.old joined m.coming k.own) in
    let states : AreStatesOf t (ts ++ v ∷ []) (qs ++ x.state ∷ []) = record {
      at = λ i l. ⊎_elim
          (λ a. get_or_append_left qs (x.state ∷ []) 0 i (omega (arith, m.nodes.count)) ∙ (m.nodes.states.at i a ∙ ap (state_of t) (sym (get_or_append_left ts (v ∷ []) [] i a))))
          (λ a.
          let s : length ts ≡ i = omega (arith, length_push ts v) in
          let z : length qs ≡ i = omega (arith, m.nodes.count) in
          get_or_push qs x.state 0 i z ∙ (sym c.state ∙ ap (state_of t) (sym (get_or_push ts v [] i s))))
          (cases_lt i (length ts));
    } in
    let A : List Tuple → Type 0 = λ xs. AreStatesOf t xs new.states.items in
    let coming = coming_node t keep h low old us qo heads rest heads' x some m.old m.coming k n.from in
    let waiting = waiting_node t keep low old us qo heads rest heads' x m.waiting k n.more n.next in
    let C : List Tuple → List Tuple → List ℕ → Type 0 = λ o u q. AreComing t keep h low o u q heads' in
    let W : List Tuple → List Tuple → List ℕ → Type 0 = λ o u q. AreWaiting t keep low o u q heads' in
    record {
      nodes = record {
        are = subst (λ (xs : List Entry). AreNodes t.signature t.columns xs) (sym p.dag) (AreNodes-push t.signature t.columns f.dag x.row m.nodes.are (row_entry t end f.dag x.row r.row));
        places = subst (ArePlaces t) (sym tuples) places;
        count = omega (arith, ap (λ (xs : List ℕ). length xs) p.states, length_push qs x.state, m.nodes.count, length_push f.dag x.row, ap (λ (xs : List Entry). length xs) p.dag);
        states = subst A (sym tuples) (subst (AreStatesOf t (ts ++ v ∷ [])) (sym p.states) states);
        lists = subst (λ (xs : List ℕ). AreListed (length t.presences) xs (lists_of new.lists)) (sym p.states) p.lists;
        few = λ q. ⊎_elim
            (λ e. omega (arith, ap (λ z. length (numbers_from (lists_of new.lists) z)) e, p.counts.own))
            (λ ne. omega (arith, ap (λ (xs : List ℕ). length xs) (p.counts.others q ne), m.nodes.few q))
            (same_or_other q x.state);
        accepted = subst (λ (xs : List Tuple). AreAccepted t xs new.accepted.items) (sym tuples) (accepted_push t ts f.accepted.items new.accepted.items v b m.nodes.accepted (ap t.accepting c.state ∙ sym flag) (p.accepted ∙ ap (λ i. if b then f.accepted.items ++ i ∷ [] else f.accepted.items) (sym tl)));
      };
      within = omega (arith, m.within, ap (λ (xs : List Entry). length xs) p.dag, length_push f.dag x.row);
      old = subst (AreOld t keep h low) (sym old_is) m.old;
      coming = subst (λ (o : List Tuple). C o (drop end (tuples_of new.dag)) (take end new.states.items)) (sym old_is) (subst (λ (u : List Tuple). C old u (take end new.states.items)) (sym us_is) (subst (C old (us ++ v ∷ [])) (sym qo_is) coming));
      waiting = subst (λ (o : List Tuple). W o (drop end (tuples_of new.dag)) (take end new.states.items)) (sym old_is) (subst (λ (u : List Tuple). W old u (take end new.states.items)) (sym us_is) (subst (W old (us ++ v ∷ [])) (sym qo_is) waiting));
      apart = subst (λ (q : List ℕ). IsDistinct (same_head q) heads') (sym qo_is) n.apart;
      ordered = n.ordered;
      few = accepted_few f.accepted.items new.accepted.items (length f.dag) most b m.few over p.accepted;
    }

pub over_parts : (a : Bool) (n most : ℕ) → (a && (n == most)) ≡ true → (a ≡ true) × (n ≡ most)
over_parts false n most e = absurd cc
over_parts true n most e = (refl, equal_from_test n most e)
