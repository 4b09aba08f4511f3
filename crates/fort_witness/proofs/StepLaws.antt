-- One turn of the search within a height: what comes out of the heap, and what each case keeps.
use Rattle.std.proofs.Common.{◌≡◌, ℕ, suc, ◌-◌, ◌<◌, ◌≤◌, List, [], ◌∷◌, ◌++◌, length, length-append, get_or, true, false, refl, ap, sym, ◌∙◌, arith, subst, inl, inr, ⊎_elim}
use Rattle.std.specs.Prelude.{Bool, nat_lt, Contains}
use Rattle.std.specs.List.{IsDistinct, AllByRecursion}
use Rattle.std.specs.List.Sorted.{IsPermutation}
use Rattle.std.specs.BinaryHeap.{IsUpperBound}
use Rattle.std.proofs.lemmas.Bool.{cases_lt}
use Rattle.std.proofs.lemmas.List.{length-map, get_or-map, get_or_append_left, get_or-append_right}
use Rattle.std.proofs.lemmas.List.Elements.{All-contains, All-from_recursion}
use Rattle.std.proofs.lemmas.List.Sorted.{Contains-permutation, IsPermutation-sym}
use Rattle.std.proofs.lemmas.Map.Keys.{IsDistinct-head, IsDistinct-tail, IsDistinct-IsPermutation}
use Rattle.fort_theory.proofs.Members.{Contains-cons_cases}
use Rattle.fort_tables.specs.Tuples.{Tuple, TupleSymbol, level, presence, IsTupleSymbol, symbol_kids, kid_presence}
use Rattle.fort_tables.specs.Entries.{Entry, StageBefore, LexBefore}
use Rattle.fort_tables.specs.Tables.{Table, IsTable, IsTableEntry, state_of, same_entry}
use Rattle.fort_tables.proofs.TableLaws.{table_state}
use Rattle.fort_tables.proofs.EntryLaws.{same_entry-itself, entry_from_same}
use Rattle.fort_tables.specs.TupleOrder.{TupleBefore, Lower}
use Rattle.fort_witness.specs.declared.head.Head.{Head}
use Rattle.fort_witness.specs.Heads.{head_cmp}
use Rattle.fort_witness.specs.RowOrder.{row_cmp, AreAlike}
use Rattle.fort_witness.specs.Rounds.{over_states, states_at, tuple_at}
use Rattle.fort_witness.specs.Choices.{numbers_from, AreListed, IsChoice, StartsFrom, IsFirstChoice, IsNextChoice}
use Rattle.fort_witness.specs.Placing.{HasBefore, ArePlaces, IsRowOver}
use Rattle.fort_witness.specs.Making.{IsNewRow, AreOld, Waits, AreComing, AreStatesOf}
use Rattle.fort_witness.specs.Solving.{same_head}
use Rattle.fort_witness.proofs.RowOrderLaws.{row_ranked}
use Rattle.fort_witness.proofs.SortLaws.{not_less}
use Rattle.fort_witness.proofs.MakingLaws.{IsTaken}

pub same_flips : (a b : Entry) → same_entry a b ≡ same_entry b a
same_flips a b = both (same_entry a b) (same_entry b a) refl refl
  where
    both : (p q : Bool) → same_entry a b ≡ p → same_entry b a ≡ q → same_entry a b ≡ same_entry b a
    both true true e f = e ∙ sym f
    both false false e f = e ∙ sym f
    both true false e f = let s : same_entry b a ≡ true = ap (λ (x : Entry). same_entry b x) (entry_from_same a b e) ∙ same_entry-itself b in let c : true ≡ false = sym s ∙ f in absurd cc
    both false true e f = let s : same_entry a b ≡ true = ap (λ (x : Entry). same_entry a x) (entry_from_same b a f) ∙ same_entry-itself a in let c : true ≡ false = sym s ∙ e in absurd cc

all_contained : {X : Type 0} (p : X → Bool) (b : Bool) (xs : List X) (x : X) → AllByRecursion (λ y. p y ≡ b) xs
    → Contains xs x → p x ≡ b
all_contained p b xs x a h = All-contains (λ y. p y ≡ b) xs x (All-from_recursion (λ y. p y ≡ b) xs a) h

pub cons_back : {X : Type 0} (y : X) (xs : List X) (x : X) → Contains xs x → Contains (y ∷ xs) x
cons_back y xs x h = (suc h.0, omega (arith, h.1), h.2)

-- the greatest head is the one whose row comes first, and no other is of its entry
pub taken : (qs : List ℕ) (heads rest : List Head) (x : Head) → IsPermutation heads (x ∷ rest)
    → IsUpperBound head_cmp x heads → IsDistinct (same_head qs) heads
    → ((y : Head) → Contains heads y → AreAlike y.row x.row) → IsTaken qs heads rest x
taken qs heads rest x perm top apart alike =
    let back = IsPermutation-sym heads (x ∷ rest) perm in
    let distinct : IsDistinct (same_head qs) (x ∷ rest) = IsDistinct-IsPermutation (same_head qs) (λ a b. same_flips (over_states qs a.row) (over_states qs b.row)) heads (x ∷ rest) perm apart in
    record {
      own = Contains-permutation (x ∷ rest) heads x back (0, omega arith, refl);
      back = λ y h. Contains-permutation (x ∷ rest) heads y back (cons_back x rest y h);
      split = λ y h. Contains-cons_cases x rest y (Contains-permutation heads (x ∷ rest) y perm h);
      least = λ y h.
          let t = all_contained _ false heads y top h in
          ⊎_elim (λ e. inl (sym e)) (λ b. inr b) (not_less (row_cmp y.row x.row) (StageBefore y.row x.row) (y.row ≡ x.row) (StageBefore x.row y.row) t (row_ranked y.row x.row (alike y h)));
      apart = λ y h e.
          let t : same_head qs x y ≡ false = all_contained (same_head qs x) false rest y (IsDistinct-head (same_head qs) x rest distinct) h in
          let s : same_head qs x y ≡ true = ap (λ (z : Entry). same_entry z (over_states qs y.row)) e ∙ same_entry-itself (over_states qs y.row) in
          let c : true ≡ false = sym s ∙ t in absurd cc;
    }

pub taken_distinct : (qs : List ℕ) (heads rest : List Head) (x : Head) → IsPermutation heads (x ∷ rest)
    → IsDistinct (same_head qs) heads → IsDistinct (same_head qs) rest
taken_distinct qs heads rest x perm apart = IsDistinct-tail (same_head qs) x rest (IsDistinct-IsPermutation (same_head qs) (λ a b. same_flips (over_states qs a.row) (over_states qs b.row)) heads (x ∷ rest) perm apart)

-- rows over one list of nodes can be compared
pub rows_alike : (t : Table) (old : List Tuple) (a b : Entry) → IsRowOver t old a → IsRowOver t old b → AreAlike a b
rows_alike t old a b h k = record {
  columns = h.symbol.width ∙ sym k.symbol.width;
  kids = λ e. h.count ∙ (ap (symbol_kids t.signature) e ∙ sym k.count);
}

-- so many nodes of a state, all before a tuple of this state
pub full_before : (t : Table) (keep n : ℕ) (ts : List Tuple) (qs : List ℕ) (lists : List (List ℕ)) (q : ℕ) (v : Tuple)
    → AreListed n qs lists → length qs ≡ length ts → AreStatesOf t ts qs → length (numbers_from lists q) ≡ keep
    → state_of t v ≡ q → ((i : ℕ) → i < length ts → TupleBefore (get_or ts i []) v) → HasBefore t keep ts v
full_before t keep n ts qs lists q v h c s count e before = record {
  numbers = numbers_from lists q;
  count = count;
  rise = h.rise q;
  within = λ j l. omega (arith, (h.are q j l).0, c);
  state = λ j l. let r = h.are q j l in let w : get_or (numbers_from lists q) j 0 < length ts = omega (arith, r.0, c) in sym (s.at (get_or (numbers_from lists q) j 0) w) ∙ (r.1 ∙ sym e);
  before = λ j l. before (get_or (numbers_from lists q) j 0) (omega (arith, (h.are q j l).0, c));
}

-- all nodes come before a row to come
pub all_before : (t : Table) (keep h low : ℕ) (old us : List Tuple) (qs : List ℕ) (heads : List Head) (x : Head)
    → AreOld t keep h low old → ArePlaces t (old ++ us) → AreComing t keep h low old us qs heads → Contains heads x
    → level (tuple_at old x.row) ≡ suc h → (i : ℕ) → i < length (old ++ us)
    → TupleBefore (get_or (old ++ us) i []) (tuple_at old x.row)
all_before t keep h low old us qs heads x o p c own high i l = ⊎_elim
    (λ b. let e = get_or_append_left old us [] i b in Lower (omega (arith, o.levels i b, ap level e)))
    (λ b. subst (λ (w : Tuple). TupleBefore w (tuple_at old x.row)) (sym (get_or-append_right old us (length old) i [] refl b)) (c.behind x own (i - length old) (omega (arith, length-append old us))))
    (cases_lt i (length old))

-- a choice of an entry's states is a new row
pub row_from_choice : (t : Table) (old : List Tuple) (qs : List ℕ) (low end : ℕ) (e : Entry) (r : Entry) → IsTable t
    → ArePlaces t old → length old ≡ end → AreStatesOf t old qs → IsTableEntry t e → r.symbol ≡ e.symbol
    → IsChoice qs low end e.kids (nat_lt 0 end) r.kids → IsNewRow t old low r
row_from_choice t old qs low end e r is p size s te same c = record {
  row = record {
    symbol = subst (λ (f : TupleSymbol). IsTupleSymbol t.signature t.columns f) (sym same) te.symbol;
    count = c.count ∙ (te.count ∙ ap (symbol_kids t.signature) (sym same));
    within = λ j l. omega (arith, (c.nodes j l).below, length-map old presence);
    presence = λ j l.
        let w = c.nodes j l in
        let k = get_or r.kids j 0 in
        let b : k < length old = omega (arith, w.below) in
        let u = get_or old k [] in
        let has = table_state t is u (p.tuples k b) in
        get_or-map presence old k [] 0 b
        ∙ (sym has.presence_is
        ∙ (ap (λ q. get_or t.presences q 0) (sym (s.at k b) ∙ w.state)
        ∙ (te.presence j (omega (arith, c.count)) ∙ ap (λ (f : TupleSymbol). kid_presence t.signature f j) (sym same))));
  };
  fresh = λ there. c.fresh (ap (nat_lt 0) (sym size) ∙ there);
}

-- and a new row is a choice of its entry's states
pub choice_from_row : (t : Table) (old : List Tuple) (qs : List ℕ) (low end : ℕ) (r : Entry) → length old ≡ end
    → length old ≤ length qs → IsNewRow t old low r → IsChoice qs low end (states_at qs r.kids) (nat_lt 0 end) r.kids
choice_from_row t old qs low end r size long n = record {
  count = sym (length-map r.kids (λ k. get_or qs k 0));
  nodes = λ j l.
      let b : get_or r.kids j 0 < length old = omega (arith, n.row.within j l, length-map old presence) in
      record { within = omega arith; state = sym (get_or-map (λ k. get_or qs k 0) r.kids j 0 0 l); from = omega arith; below = omega arith };
  fresh = λ there. n.fresh (ap (nat_lt 0) size ∙ there);
}

pub row_is : (a b : Entry) → a.symbol ≡ b.symbol → a.kids ≡ b.kids → a ≡ b
row_is a b e f = λ i. record { symbol = e i; kids = f i }

-- the first choice is a row that isn't after any other of its entry
pub first_waits : (t : Table) (old : List Tuple) (qs : List ℕ) (low end : ℕ) (heads : List Head) (x : Head) (e r : Entry)
    → length old ≡ end → length old ≤ length qs → x.row.symbol ≡ e.symbol
    → IsFirstChoice qs low end e.kids (nat_lt 0 end) 0 x.row.kids true → over_states qs x.row ≡ e → Contains heads x
    → IsNewRow t old low r → over_states qs r ≡ e → Waits qs heads r
first_waits t old qs low end heads x e r size long same first own among n is =
    let kids : Entry → List ℕ = λ (y : Entry). y.kids in
    let c : IsChoice qs low end e.kids (nat_lt 0 end) r.kids = subst (λ (ss : List ℕ). IsChoice qs low end ss (nat_lt 0 end) r.kids) (ap kids is) (choice_from_row t old qs low end r size long n) in
    let symbols : x.row.symbol ≡ r.symbol = same ∙ ap (λ (y : Entry). y.symbol) (sym is) in
    record {
      head = x;
      among = among;
      entry = own ∙ sym is;
      before = ⊎_elim (λ q. inl (row_is x.row r symbols q)) (λ q. inr (inr (symbols, q))) (first.2 r.kids c (anywhere r.kids));
    }
  where
    anywhere : (ls : List ℕ) → StartsFrom 0 ls
    anywhere [] = tt
    anywhere (l ∷ ls) = omega arith

-- the next choice is a row that isn't after any later one of its entry
pub next_waits : (t : Table) (old : List Tuple) (qs : List ℕ) (low end : ℕ) (heads : List Head) (x y : Head) (r : Entry)
    → length old ≡ end → length old ≤ length qs → y.row.symbol ≡ x.row.symbol
    → IsNextChoice qs low end (states_at qs x.row.kids) (nat_lt 0 end) x.row.kids y.row.kids true
    → over_states qs y.row ≡ over_states qs x.row → Contains heads y → IsNewRow t old low r
    → over_states qs x.row ≡ over_states qs r → LexBefore ◌<◌ x.row.kids r.kids → Waits qs heads r
next_waits t old qs low end heads x y r size long same next own among n is after =
    let c : IsChoice qs low end (states_at qs x.row.kids) (nat_lt 0 end) r.kids = subst (λ (ss : List ℕ). IsChoice qs low end ss (nat_lt 0 end) r.kids) (ap (λ (z : Entry). z.kids) (sym is)) (choice_from_row t old qs low end r size long n) in
    let symbols : y.row.symbol ≡ r.symbol = same ∙ ap (λ (z : Entry). z.symbol) is in
    record {
      head = y;
      among = among;
      entry = own ∙ is;
      before = ⊎_elim (λ q. inl (row_is y.row r symbols q)) (λ q. inr (inr (symbols, q))) (next.2 r.kids c after);
    }
