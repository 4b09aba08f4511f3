-- What the next row of an entry needs and gives.
use Rattle.std.proofs.Common.{◌≡◌, ℕ, ◌<◌, ◌≤◌, ◌⊎◌, List, [], ◌∷◌, ◌++◌, take, length, get_or, true, false, refl, ap, sym, ◌∙◌, arith, subst, inl, inr, ⊎_elim}
use Rattle.std.specs.Prelude.{Bool, nat_lt, Contains, ◌&&◌, ◌==◌}
use Rattle.std.specs.List.{IsDistinct}
use Rattle.std.specs.List.Sorted.{IsPermutation}
use Rattle.std.specs.BinaryHeap.{IsHeap}
use Rattle.std.proofs.lemmas.List.{length-map, get_or-map, ext_get_or, get_or_append_left, length-take-le, get_or-take}
use Rattle.fort_tables.specs.Tuples.{Tuple, presence}
use Rattle.fort_tables.specs.Entries.{Entry, StageBefore, LexBefore, ColumnBefore, tuples_of}
use Rattle.fort_tables.specs.Tables.{Table, IsTable, state_of, IsTableEntry}
use Rattle.fort_tables.proofs.EqualTests.{apart_from_test}
use Rattle.fort_theory.proofs.Members.{Contains-cons_cases}
use Rattle.std.proofs.lemmas.List.Sorted.{Contains-permutation, IsPermutation-sym}
use Rattle.std.proofs.lemmas.Map.Keys.{IsDistinct-cons, IsDistinct-IsPermutation}
use Rattle.fort_witness.specs.Placing.{ArePlaces, IsRowOver}
use Rattle.fort_witness.proofs.MakingLaws.{row_made, row_state}
use Rattle.fort_tables.proofs.TableLaws.{table_state}
use Rattle.fort_tables.proofs.LexLaws.{symbol_irrefl}
use Rattle.fort_witness.specs.declared.head.Head.{Head}
use Rattle.fort_witness.specs.declared.kept.Kept.{Kept}
use Rattle.fort_witness.specs.Heads.{head_cmp}
use Rattle.fort_witness.specs.Rounds.{over_states, states_at, tuple_at}
use Rattle.fort_witness.specs.Choices.{IsChoice, IsNextChoice}
use Rattle.fort_witness.specs.Making.{IsNewRow, AreStatesOf}
use Rattle.fort_witness.specs.Solving.{same_head, IsMaking}
use Rattle.fort_witness.proofs.StepLaws.{row_is, same_flips, cons_back, row_from_choice, choice_from_row}
use Rattle.fort_witness.proofs.PushedLaws.{AreNext}
use Rattle.fort_witness.proofs.FirstRowsLaws.{nodes_length, own_entry, all_from, differ}

-- children are old nodes
pub kids_old : (t : Table) (most h low end : ℕ) (f : Kept) (heads : List Head) (x : Head)
    → IsMaking t most h low end f heads → Contains heads x → (j : ℕ) → j < length x.row.kids
    → (get_or x.row.kids j 0 < end) × (end ≤ length f.states.items)
kids_old t most h low end f heads x m own = λ j l.
    let old = take end (tuples_of f.dag) in
    let size = length-take-le end (tuples_of f.dag) (omega (arith, m.within, nodes_length f.dag)) in
    (omega (arith, (m.coming.rows x own).0.row.within j l, length-map old presence, size), omega (arith, m.within, m.nodes.count))

-- and their states are known
pub kids_known : (t : Table) (most h low end : ℕ) (f : Kept) (heads : List Head) (x : Head) (qs : List ℕ) (q : ℕ)
    → IsTable t → IsMaking t most h low end f heads → Contains heads x → qs ≡ f.states.items ++ q ∷ [] → (j : ℕ)
    → j < length (states_at qs x.row.kids) → get_or (states_at qs x.row.kids) j 0 < length t.presences
kids_known t most h low end f heads x qs q is m own e = λ j l.
    let b : j < length x.row.kids = omega (arith, length-map x.row.kids (λ k. get_or qs k 0)) in
    let k = get_or x.row.kids j 0 in
    let o = kids_old t most h low end f heads x m own j b in
    let inside : k < length (tuples_of f.dag) = omega (arith, o.0, o.1, m.nodes.count, nodes_length f.dag) in
    let state : get_or qs k 0 ≡ state_of t (get_or (tuples_of f.dag) k []) = ap (λ (xs : List ℕ). get_or xs k 0) e ∙ (get_or_append_left f.states.items (q ∷ []) 0 k (omega (arith, o.0, o.1)) ∙ m.nodes.states.at k inside) in
    omega (arith, get_or-map (λ i. get_or qs i 0) x.row.kids j 0 0 b, state, (table_state t is (get_or (tuples_of f.dag) k []) (m.nodes.places.tuples k inside)).within)

-- states of old nodes stay
over_same : (t : Table) (old : List Tuple) (low : ℕ) (qo qs : List ℕ) (e : Entry)
    → ((i : ℕ) → i < length old → get_or qs i 0 ≡ get_or qo i 0) → IsNewRow t old low e
    → over_states qs e ≡ over_states qo e
over_same t old low qo qs e same n =
    row_is (over_states qs e) (over_states qo e) refl
    (ext_get_or 0 (states_at qs e.kids) (states_at qo e.kids) (length-map e.kids (λ k. get_or qs k 0) ∙ sym (length-map e.kids (λ k. get_or qo k 0)))
    (λ j l.
    let b : j < length e.kids = omega (arith, length-map e.kids (λ k. get_or qs k 0)) in
    get_or-map (λ k. get_or qs k 0) e.kids j 0 0 b ∙ (same (get_or e.kids j 0) (omega (arith, n.row.within j b, length-map old presence)) ∙ sym (get_or-map (λ k. get_or qo k 0) e.kids j 0 0 b))))

later_kids : (qs : List ℕ) (a b : Entry) → over_states qs a ≡ over_states qs b → StageBefore a b
    → LexBefore ◌<◌ a.kids b.kids
later_kids qs a b e s = ⊎_elim (λ l. absurd (symbol_irrefl b.symbol (subst (λ f. LexBefore ColumnBefore f b.symbol) (ap (λ (x : Entry). x.symbol) e) l))) (λ r. r.1) s

-- an entry whose last row was taken
pub next_gone : (t : Table) (old : List Tuple) (low end : ℕ) (qo qs : List ℕ) (rest : List Head) (x : Head)
    → length old ≡ end → length old ≤ length qs → ((i : ℕ) → i < length old → get_or qs i 0 ≡ get_or qo i 0)
    → IsNewRow t old low x.row
    → (IsChoice qs low end (states_at qs x.row.kids) (nat_lt 0 end) x.row.kids → IsNextChoice qs low end (states_at qs x.row.kids) (nat_lt 0 end) x.row.kids [] false)
    → IsDistinct (same_head qo) rest → IsHeap head_cmp rest → AreNext t old low qo rest rest x
next_gone t old low end qo qs rest x size long same n none apart ordered = record {
  more = λ y c. c;
  from = λ y c. inl c;
  next = λ e m is s.
      let own : over_states qs x.row ≡ over_states qs e = over_same t old low qo qs x.row same n ∙ (is ∙ sym (over_same t old low qo qs e same m)) in
      let c : IsChoice qs low end (states_at qs x.row.kids) (nat_lt 0 end) e.kids = subst (λ (ss : List ℕ). IsChoice qs low end ss (nat_lt 0 end) e.kids) (ap (λ (z : Entry). z.kids) (sym own)) (choice_from_row t old qs low end e size long m) in
      absurd (none (choice_from_row t old qs low end x.row size long n) e.kids c (later_kids qo x.row e is s));
  apart = apart;
  ordered = ordered;
}

pub not_over : (a : Bool) (n most : ℕ) → (a && (n == most)) ≡ false → a ≡ true → n ≡ most → ⊥
not_over false n most e f g = absurd cc
not_over true n most e f g = apart_from_test n most e g

-- an entry's next row
pub next_more : (t : Table) (old : List Tuple) (low end : ℕ) (qo qs : List ℕ) (rest new : List Head) (x y : Head)
    → IsTable t → ArePlaces t old → AreStatesOf t old qo → length old ≡ end → length old ≤ length qs
    → ((i : ℕ) → i < length old → get_or qs i 0 ≡ get_or qo i 0) → IsNewRow t old low x.row
    → state_of t (tuple_at old x.row) ≡ y.state → y.row.symbol ≡ x.row.symbol
    → (IsChoice qs low end (states_at qs x.row.kids) (nat_lt 0 end) x.row.kids → IsNextChoice qs low end (states_at qs x.row.kids) (nat_lt 0 end) x.row.kids y.row.kids true)
    → IsPermutation (y ∷ rest) new → (IsHeap head_cmp rest → IsHeap head_cmp new)
    → ((z : Head) → Contains rest z → over_states qo x.row ≡ over_states qo z.row → ⊥) → IsDistinct (same_head qo) rest
    → IsHeap head_cmp rest → IsTableEntry t (over_states qs x.row) → AreNext t old low qo rest new x
next_more t old low end qo qs rest new x y is p so size long same n state symbol next perm heap other apart ordered te =
    let ch = next (choice_from_row t old qs low end x.row size long n) in
    let back = IsPermutation-sym (y ∷ rest) new perm in
    let sq : AreStatesOf t old qs = record { at = λ i l. same i l ∙ so.at i l } in
    let m : IsNewRow t old low y.row = row_from_choice t old qs low end (over_states qs x.row) y.row is p size sq te symbol ch.0 in
    let own : over_states qs y.row ≡ over_states qs x.row = own_entry qs low end (nat_lt 0 end) (over_states qs x.row) y.row symbol ch.0 in
    let owno : over_states qo y.row ≡ over_states qo x.row = sym (over_same t old low qo qs y.row same m) ∙ (own ∙ over_same t old low qo qs x.row same n) in
    let ys : state_of t (tuple_at old y.row) ≡ y.state =
    row_state t old qs y.row sq (row_made t old y.row p m.row) ∙ (ap t.target own ∙ (sym (row_state t old qs x.row sq (row_made t old x.row p n.row)) ∙ state)) in
    let here : Contains new y = Contains-permutation (y ∷ rest) new y perm (0, omega arith, refl) in
    record {
      more = λ z c. Contains-permutation (y ∷ rest) new z perm (cons_back y rest z c);
      from = λ z c. ⊎_elim
          (λ e. inr (subst (λ (w : Head). StageBefore x.row w.row × (IsNewRow t old low w.row × (state_of t (tuple_at old w.row) ≡ w.state))) e (inr (sym symbol, ch.1), (m, ys))))
          (λ r. inl r)
          (Contains-cons_cases y rest z (Contains-permutation new (y ∷ rest) z back c));
      next = λ e me q s.
          let all : over_states qs x.row ≡ over_states qs e = over_same t old low qo qs x.row same n ∙ (q ∙ sym (over_same t old low qo qs e same me)) in
          record { head = y; among = here; entry = owno ∙ q; before = next_before t old qs low end x y e size long symbol ch me all (later_kids qo x.row e q s) };
      apart = IsDistinct-IsPermutation (same_head qo) (λ a b. same_flips (over_states qo a.row) (over_states qo b.row)) (y ∷ rest) new perm (IsDistinct-cons (same_head qo) y rest (all_from (same_head qo y) false rest (λ z c. differ (over_states qo y.row) (over_states qo z.row) (λ e. other z c (sym owno ∙ e)))) apart);
      ordered = heap ordered;
    }
  where
    next_before : (t : Table) (old : List Tuple) (qs : List ℕ) (low end : ℕ) (x y : Head) (r : Entry) → length old ≡ end
        → length old ≤ length qs → y.row.symbol ≡ x.row.symbol
        → IsNextChoice qs low end (states_at qs x.row.kids) (nat_lt 0 end) x.row.kids y.row.kids true
        → IsNewRow t old low r → over_states qs x.row ≡ over_states qs r → LexBefore ◌<◌ x.row.kids r.kids
        → (y.row ≡ r) ⊎ StageBefore y.row r
    next_before t old qs low end x y r size long same next n is after =
        let c : IsChoice qs low end (states_at qs x.row.kids) (nat_lt 0 end) r.kids = subst (λ (ss : List ℕ). IsChoice qs low end ss (nat_lt 0 end) r.kids) (ap (λ (z : Entry). z.kids) (sym is)) (choice_from_row t old qs low end r size long n) in
        let symbols : y.row.symbol ≡ r.symbol = same ∙ ap (λ (z : Entry). z.symbol) is in
        ⊎_elim (λ q. inl (row_is y.row r symbols q)) (λ q. inr (inr (symbols, q))) (next.2 r.kids c after)

-- the first states stay at a push
pub states_stay : (end : ℕ) (qs qs' : List ℕ) (q : ℕ) → end ≤ length qs → qs' ≡ qs ++ q ∷ [] → (i : ℕ) → i < end
    → get_or qs' i 0 ≡ get_or (take end qs) i 0
states_stay end qs qs' q l e i b = ap (λ (xs : List ℕ). get_or xs i 0) e ∙ (get_or_append_left qs (q ∷ []) 0 i (omega arith) ∙ sym (get_or-take end qs i 0 b))

-- a row over nodes as an entry of the table
pub row_table_entry : (t : Table) (old : List Tuple) (qs : List ℕ) (e : Entry) → IsTable t → ArePlaces t old
    → AreStatesOf t old qs → IsRowOver t old e → IsTableEntry t (over_states qs e)
row_table_entry t old qs e is p s r =
    let size = length-map e.kids (λ k. get_or qs k 0) in
    let at : (j : ℕ) → j < length e.kids → (get_or e.kids j 0 < length old) × (get_or (states_at qs e.kids) j 0 ≡ state_of t (get_or old (get_or e.kids j 0) [])) = λ j l.
    let b : get_or e.kids j 0 < length old = omega (arith, r.within j l, length-map old presence) in
    (b, get_or-map (λ k. get_or qs k 0) e.kids j 0 0 l ∙ s.at (get_or e.kids j 0) b) in
    record {
      symbol = r.symbol;
      count = size ∙ r.count;
      within = λ j l.
          let m : j < length e.kids = omega arith in
          let a = at j m in
          omega (arith, a.1, (table_state t is (get_or old (get_or e.kids j 0) []) (p.tuples (get_or e.kids j 0) a.0)).within);
      presence = λ j l.
          let m : j < length e.kids = omega arith in
          let a = at j m in
          let u = get_or old (get_or e.kids j 0) [] in
          ap (λ q. get_or t.presences q 0) a.1 ∙ ((table_state t is u (p.tuples (get_or e.kids j 0) a.0)).presence_is ∙ (sym (get_or-map presence old (get_or e.kids j 0) [] 0 a.0) ∙ r.presence j m));
    }
