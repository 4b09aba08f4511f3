-- Exchange: a child that isn't a node has enough nodes before it, and with these in its place the tuple has enough before it; so tuples one level higher are placed where the rows over nodes are.
use Rattle.std.proofs.Common.{◌≡◌, ℕ, zero, suc, ◌<◌, ◌≤◌, ◌⊎◌, List, [], ◌∷◌, ◌++◌, map, length, length-append, get_or, refl, ap, sym, ◌∙◌, arith, subst, inl, inr, ⊎_elim}
use Rattle.std.proofs.lemmas.Bool.{cases_lt}
use Rattle.std.proofs.lemmas.List.{length-map, get_or-map, ext_get_or, get_or_append_left}
use Rattle.fort_tables.specs.Tuples.{Tuple, TupleSymbol, root, kid, kids, kid_count, level, presence, rebuilt, tabulate, IsTuple, AreKids}
use Rattle.fort_tables.specs.Entries.{Entry, entry, picked}
use Rattle.fort_tables.specs.Tables.{Table, IsTable, state_of}
use Rattle.fort_tables.proofs.TupleLaws.{fold_tuple-step, root-rebuilt, kids-rebuilt, rebuilt-kids, level_kid, IsTuple-kid, AreKids-kids, IsTupleSymbol-root, kid_count_is, kid_fits, presence_fits, length-tabulate, get_or-tabulate}
use Rattle.fort_tables.proofs.TableLaws.{table_state}
use Rattle.fort_tables.proofs.EntryLaws.{get_or-picked, entry_kids, IsTuple-entry}
use Rattle.fort_tables.specs.TupleOrder.{TupleBefore, NotAfter}
use Rattle.fort_tables.proofs.TupleOrderLaws.{tuple_irrefl, tuple_trans, level_before}
use Rattle.fort_tables.proofs.KidOrderLaws.{AreNotAfter, replaced}
use Rattle.fort_witness.specs.Rounds.{tuple_at}
use Rattle.fort_witness.specs.Placing.{IsAmong, HasBefore, IsPlaced, ArePlaces, ArePlacedTo, IsRowOver}

-- one thing for each of a list
record Listed (A : Type 0) (d : A) (us : List Tuple) (P : A → Tuple → Type 0) : Type 0 where
  pub items : List A
  pub count : length items ≡ length us
  pub are : (j : ℕ) → j < length us → P (get_or items j d) (get_or us j [])

listed : (A : Type 0) (d : A) (us : List Tuple) (P : A → Tuple → Type 0)
    → ((j : ℕ) → j < length us → (a : A) × P a (get_or us j [])) → Listed A d us P
listed A d [] P h = record { items = []; count = refl; are = λ j l. absurd (omega arith) }
listed A d (u ∷ us) P h =
    let here = h 0 (omega arith) in
    let later = listed A d us P (λ j l. h (suc j) (omega arith)) in
    record {
      items = here.0 ∷ later.items;
      count = ap suc later.count;
      are = λ j. elim j as (λ j. j < length (u ∷ us) → P (get_or (here.0 ∷ later.items) j d) (get_or (u ∷ us) j [])) [ zero ↦ (λ l. here.1) | suc i ↦ (λ l. later.are i (omega arith)) ];
    }

-- all are so, or one is otherwise
pub all_or_one : (n : ℕ) (A B : ℕ → Type 0) → ((j : ℕ) → j < n → A j ⊎ B j)
    → ((j : ℕ) → j < n → A j) ⊎ ((j : ℕ) × (j < n) × B j)
all_or_one zero A B h = inl (λ j l. absurd (omega arith))
all_or_one (suc n) A B h =
    ⊎_elim
    (λ a. ⊎_elim
    (λ e. inl (λ j l. ⊎_elim (λ m. a j m) (λ m. let s : n ≡ j = omega arith in subst A s e) (cases_lt j n)))
    (λ b. inr (n, omega arith, b))
    (h n (omega arith)))
    (λ b. inr (b.0, omega (arith, b.1), b.2))
    (all_or_one n A B (λ j l. h j (omega arith)))

-- the r-th node in place of a child: always the child itself, or one that comes before it, later for a greater r
record Moves (keep : ℕ) (ts : List Tuple) (f : ℕ → ℕ) (u : Tuple) : Type 0 where
  pub before : (r : ℕ) → r < keep → TupleBefore (get_or ts (f r) []) u
  pub rises : (r s : ℕ) → r < s → s < keep → TupleBefore (get_or ts (f r) []) (get_or ts (f s) [])

record Replaces (t : Table) (keep : ℕ) (ts : List Tuple) (f : ℕ → ℕ) (u : Tuple) : Type 0 where
  pub within : (r : ℕ) → r < keep → f r < length ts
  pub state : (r : ℕ) → r < keep → state_of t (get_or ts (f r) []) ≡ state_of t u
  pub moves : ((r : ℕ) → r < keep → get_or ts (f r) [] ≡ u) ⊎ Moves keep ts f u

replaces : (t : Table) (keep : ℕ) (ts : List Tuple) (u : Tuple) → ArePlaces t ts → IsPlaced t keep ts u
    → (f : ℕ → ℕ) × Replaces t keep ts f u
replaces t keep ts u p h =
    ⊎_elim
    (λ n.
    let f : ℕ → ℕ = λ r. n.0 in
    let one : Replaces t keep ts f u = record { within = λ r l. n.1; state = λ r l. ap (state_of t) n.2; moves = inl (λ r l. n.2) } in
    (f, one))
    (λ b.
    let f : ℕ → ℕ = λ r. get_or b.numbers r 0 in
    let one : Replaces t keep ts f u = record {
      within = λ r l. b.within r (omega (arith, b.count));
      state = λ r l. b.state r (omega (arith, b.count));
      moves = inr (record {
        before = λ r l. b.before r (omega (arith, b.count));
        rises = λ r s l m. p.rise (get_or b.numbers r 0) (get_or b.numbers s 0) (b.rise r s l (omega (arith, b.count))) (b.within s (omega (arith, b.count)));
      });
    } in
    (f, one))
    h

replaced_not_after : (t : Table) (keep : ℕ) (ts : List Tuple) (f : ℕ → ℕ) (u : Tuple) (r : ℕ) → Replaces t keep ts f u
    → r < keep → NotAfter (get_or ts (f r) []) u
replaced_not_after t keep ts f u r h l = ⊎_elim (λ same. inl (same r l)) (λ m. inr (m.before r l)) h.moves

replaced_rise : (t : Table) (keep : ℕ) (ts : List Tuple) (f : ℕ → ℕ) (u : Tuple) (r s : ℕ) → Replaces t keep ts f u
    → r < s → s < keep → NotAfter (get_or ts (f r) []) (get_or ts (f s) [])
replaced_rise t keep ts f u r s h l m = ⊎_elim (λ same. inl (same r (omega arith) ∙ sym (same s m))) (λ g. inr (g.rises r s l m)) h.moves

-- the row with the r-th node in place of each child
abbrev row_of : TupleSymbol → List (ℕ → ℕ) → ℕ → Entry
row_of f fs r = entry f (map (λ (g : ℕ → ℕ). g r) fs)

abbrev nowhere : ℕ → ℕ
nowhere r = 0

-- functions that replace all children of a tuple
abbrev AreReplacing : Table → ℕ → List Tuple → List (ℕ → ℕ) → Tuple → Type 0
AreReplacing t keep ts fs v = (length fs ≡ length (kids v)) × ((j : ℕ) → j < length (kids v) → Replaces t keep ts (get_or fs j nowhere) (get_or (kids v) j []))

pub state_from_kids : (t : Table) (f : TupleSymbol) (us : List Tuple) → AreKids t.signature f us
    → state_of t (rebuilt f us) ≡ t.target (entry f (map (state_of t) us))
state_from_kids t f us k =
    fold_tuple-step (λ f ks. t.target (entry f ks)) (rebuilt f us)
    ∙ (ap (λ g. t.target (entry g (map (state_of t) (kids (rebuilt f us))))) (root-rebuilt f us)
    ∙ ap (λ vs. t.target (entry f (map (state_of t) vs))) (kids-rebuilt t.signature f us k))

-- what is known of the row with the r-th nodes
record Replaced (t : Table) (ts : List Tuple) (fs : List (ℕ → ℕ)) (v : Tuple) (r : ℕ) : Type 0 where
  pub row : IsRowOver t ts (row_of (root v) fs r)
  pub kids_are : AreKids t.signature (root v) (picked ts (row_of (root v) fs r).kids)
  pub count : length (picked ts (row_of (root v) fs r).kids) ≡ length (kids v)
  pub at : (j : ℕ) → j < length (kids v)
      → get_or (picked ts (row_of (root v) fs r).kids) j [] ≡ get_or ts ((get_or fs j nowhere) r) []
  pub state : state_of t (tuple_at ts (row_of (root v) fs r)) ≡ state_of t v

row_replaced : (t : Table) (keep : ℕ) (ts : List Tuple) (fs : List (ℕ → ℕ)) (v : Tuple) (r : ℕ) → IsTable t
    → ArePlaces t ts → IsTuple t.signature t.columns v → AreReplacing t keep ts fs v → r < keep → Replaced t ts fs v r
row_replaced t keep ts fs v r is p tuple h l =
    let sig = t.signature in
    let g : (ℕ → ℕ) → ℕ = λ f. f r in
    let ks = map g fs in
    let e = row_of (root v) fs r in
    let klen : length (kids v) ≡ kid_count v = length-tabulate (kid_count v) (kid v) in
    let len : length ks ≡ length fs = length-map fs g in
    let at : (j : ℕ) → j < length fs → get_or ks j 0 ≡ (get_or fs j nowhere) r = λ j m. get_or-map g fs j nowhere 0 m in
    let row : IsRowOver t ts e = record {
      symbol = IsTupleSymbol-root sig t.columns v tuple;
      count = len ∙ (h.0 ∙ (klen ∙ kid_count_is sig v tuple.grounded));
      within = λ j m.
          let b : j < length fs = omega arith in
          let w = (h.1 j (omega (arith, h.0))).within r l in
          omega (arith, at j b, w, length-map ts presence);
      presence = λ j m.
          let b : j < length fs = omega arith in
          let c : j < length (kids v) = omega (arith, h.0) in
          let a : j < kid_count v = omega arith in
          let o = h.1 j c in
          let i = (get_or fs j nowhere) r in
          let u = get_or ts i [] in
          let w : kid v j ≡ get_or (kids v) j [] = sym (get_or-tabulate (kid_count v) (kid v) j [] a) in
          let q : state_of t u ≡ state_of t (kid v j) = o.state r l ∙ ap (state_of t) (sym w) in
          let x = table_state t is u (p.tuples i (o.within r l)) in
          let y = table_state t is (kid v j) (IsTuple-kid sig t.columns v j tuple a) in
          ap (λ n. get_or (map presence ts) n 0) (at j b)
          ∙ (get_or-map presence ts i [] 0 (o.within r l)
          ∙ (sym x.presence_is
          ∙ (ap (λ n. get_or t.presences n 0) q
          ∙ (y.presence_is ∙ presence_fits sig (root v) j (kid v j) (kid_fits sig v j tuple.grounded)))));
    } in
    let kids_are = entry_kids sig t.columns ts e p.tuples row in
    let plen : length (picked ts ks) ≡ length ks = length-map ks (λ i. get_or ts i []) in
    let there : (j : ℕ) → j < length (kids v) → get_or (picked ts ks) j [] ≡ get_or ts ((get_or fs j nowhere) r) [] = λ j m.
    get_or-picked ts ks j (omega (arith, h.0)) ∙ ap (λ i. get_or ts i []) (at j (omega (arith, h.0))) in
    let states : map (state_of t) (picked ts ks) ≡ map (state_of t) (kids v) =
    ext_get_or 0 (map (state_of t) (picked ts ks)) (map (state_of t) (kids v)) (length-map (picked ts ks) (state_of t) ∙ (plen ∙ (len ∙ (h.0 ∙ sym (length-map (kids v) (state_of t))))))
    (λ j m.
    let c : j < length (kids v) = omega (arith, length-map (picked ts ks) (state_of t), h.0) in
    get_or-map (state_of t) (picked ts ks) j [] 0 (omega (arith, h.0)) ∙ (ap (state_of t) (there j c) ∙ ((h.1 j c).state r l ∙ sym (get_or-map (state_of t) (kids v) j [] 0 c)))) in
    record {
      row = row;
      kids_are = kids_are;
      count = plen ∙ (len ∙ h.0);
      at = there;
      state = state_from_kids t (root v) (picked ts ks) kids_are
          ∙ (ap (λ (ss : List ℕ). t.target (entry (root v) ss)) states ∙ sym (fold_tuple-step (λ f ks. t.target (entry f ks)) v));
    }

-- with a child that moves, the row's tuple comes before
row_before : (t : Table) (keep : ℕ) (ts : List Tuple) (fs : List (ℕ → ℕ)) (v : Tuple) (r j : ℕ)
    → IsTuple t.signature t.columns v → AreReplacing t keep ts fs v → Replaced t ts fs v r → r < keep
    → j < length (kids v) → Moves keep ts (get_or fs j nowhere) (get_or (kids v) j [])
    → TupleBefore (tuple_at ts (row_of (root v) fs r)) v
row_before t keep ts fs v r j tuple h d l m g =
    let sig = t.signature in
    let e = row_of (root v) fs r in
    let us = picked ts e.kids in
    let each : AreNotAfter us (kids v) = record {
      count = d.count;
      each = λ i b. subst (λ (x : Tuple). NotAfter x (get_or (kids v) i [])) (sym (d.at i b)) (replaced_not_after t keep ts (get_or fs i nowhere) (get_or (kids v) i []) r (h.1 i b) l);
    } in
    let n : NotAfter (tuple_at ts e) v = subst (λ (y : Tuple). NotAfter (tuple_at ts e) y) (rebuilt-kids v) (replaced sig (root v) us (kids v) d.kids_are (AreKids-kids sig v tuple.grounded) each) in
    ⊎_elim
    (λ s.
    let same : get_or ts ((get_or fs j nowhere) r) [] ≡ get_or (kids v) j [] =
    sym (d.at j m) ∙ ap (λ (vs : List Tuple). get_or vs j []) (sym (kids-rebuilt sig (root v) us d.kids_are) ∙ ap kids s) in
    absurd (tuple_irrefl (get_or (kids v) j []) (subst (λ (x : Tuple). TupleBefore x (get_or (kids v) j [])) same (g.before r l))))
    (λ b. b)
    n

-- and so do the rows one after another
rows_rise : (t : Table) (keep : ℕ) (ts : List Tuple) (fs : List (ℕ → ℕ)) (v : Tuple) (r s j : ℕ)
    → AreReplacing t keep ts fs v → Replaced t ts fs v r → Replaced t ts fs v s → r < s → s < keep → j < length (kids v)
    → Moves keep ts (get_or fs j nowhere) (get_or (kids v) j [])
    → TupleBefore (tuple_at ts (row_of (root v) fs r)) (tuple_at ts (row_of (root v) fs s))
rows_rise t keep ts fs v r s j h d c l k m g =
    let sig = t.signature in
    let us = picked ts (row_of (root v) fs r).kids in
    let ws = picked ts (row_of (root v) fs s).kids in
    let each : AreNotAfter us ws = record {
      count = d.count ∙ sym c.count;
      each = λ i b.
          let a : i < length (kids v) = omega (arith, c.count) in
          subst (λ (x : Tuple). NotAfter x (get_or ws i [])) (sym (d.at i a)) (subst (λ (y : Tuple). NotAfter (get_or ts ((get_or fs i nowhere) r) []) y) (sym (c.at i a))
          (replaced_rise t keep ts (get_or fs i nowhere) (get_or (kids v) i []) r s (h.1 i a) l k));
    } in
    ⊎_elim
    (λ e.
    let same : us ≡ ws = sym (kids-rebuilt sig (root v) us d.kids_are) ∙ (ap kids e ∙ kids-rebuilt sig (root v) ws c.kids_are) in
    let there : get_or ts ((get_or fs j nowhere) r) [] ≡ get_or ts ((get_or fs j nowhere) s) [] = sym (d.at j m) ∙ (ap (λ (vs : List Tuple). get_or vs j []) same ∙ c.at j m) in
    absurd (tuple_irrefl (get_or ts ((get_or fs j nowhere) s) []) (subst (λ (x : Tuple). TupleBefore x (get_or ts ((get_or fs j nowhere) s) [])) there (g.rises r s l k))))
    (λ b. b)
    (replaced sig (root v) us ws d.kids_are c.kids_are each)

-- where children stay, the row's tuple is the tuple
row_same : (t : Table) (ts : List Tuple) (fs : List (ℕ → ℕ)) (v : Tuple) (r : ℕ) → Replaced t ts fs v r
    → ((j : ℕ) → j < length (kids v) → get_or ts ((get_or fs j nowhere) r) [] ≡ get_or (kids v) j [])
    → tuple_at ts (row_of (root v) fs r) ≡ v
row_same t ts fs v r d h =
    let us = picked ts (row_of (root v) fs r).kids in
    ap (rebuilt (root v)) (ext_get_or [] us (kids v) d.count (λ j l. let m : j < length (kids v) = omega (arith, d.count) in d.at j m ∙ h j m)) ∙ rebuilt-kids v

-- more nodes keep what is placed
pub placed_more : (t : Table) (keep : ℕ) (ts us : List Tuple) (v : Tuple) → IsPlaced t keep ts v
    → IsPlaced t keep (ts ++ us) v
placed_more t keep ts us v h =
    ⊎_elim
    (λ n. inl (n.0, omega (arith, n.1, length-append ts us), get_or_append_left ts us [] n.0 n.1 ∙ n.2))
    (λ b. inr (record {
      numbers = b.numbers;
      count = b.count;
      rise = b.rise;
      within = λ j l. omega (arith, b.within j l, length-append ts us);
      state = λ j l. ap (state_of t) (get_or_append_left ts us [] (get_or b.numbers j 0) (b.within j l)) ∙ b.state j l;
      before = λ j l. subst (λ (x : Tuple). TupleBefore x v) (sym (get_or_append_left ts us [] (get_or b.numbers j 0) (b.within j l))) (b.before j l);
    }))
    h

-- what has enough before it gives them to all of its state that come later
pub before_later : (t : Table) (keep : ℕ) (ts : List Tuple) (w v : Tuple) → HasBefore t keep ts w
    → state_of t w ≡ state_of t v → TupleBefore w v → HasBefore t keep ts v
before_later t keep ts w v b e l = record {
  numbers = b.numbers;
  count = b.count;
  rise = b.rise;
  within = b.within;
  state = λ j m. b.state j m ∙ e;
  before = λ j m. tuple_trans (get_or ts (get_or b.numbers j 0) []) w v (b.before j m) l;
}

-- numbers of tuples are in their order
number_before : (t : Table) (ts : List Tuple) (i j : ℕ) → ArePlaces t ts → i < length ts
    → TupleBefore (get_or ts i []) (get_or ts j []) → i < j
number_before t ts i j p l b = ⊎_elim (λ m. m)
    (λ m. ⊎_elim
    (λ n. absurd (tuple_irrefl (get_or ts i []) (tuple_trans (get_or ts i []) (get_or ts j []) (get_or ts i []) b (p.rise j i n l))))
    (λ n. let e : i ≡ j = omega arith in absurd (tuple_irrefl (get_or ts j []) (subst (λ k. TupleBefore (get_or ts k []) (get_or ts j [])) e b)))
    (cases_lt j i))
    (cases_lt i j)

-- tuples that rise, are all nodes, have one state and come before another
before_from_nodes : (t : Table) (keep : ℕ) (ts : List Tuple) (w : ℕ → Tuple) (v : Tuple) → ArePlaces t ts
    → ((r : ℕ) → r < keep → IsAmong ts (w r)) → ((r : ℕ) → r < keep → state_of t (w r) ≡ state_of t v)
    → ((r : ℕ) → r < keep → TupleBefore (w r) v) → ((r s : ℕ) → r < s → s < keep → TupleBefore (w r) (w s))
    → HasBefore t keep ts v
before_from_nodes t keep ts w v p among state before rises =
    let ws = tabulate keep w in
    let wlen : length ws ≡ keep = length-tabulate keep w in
    let at : (r : ℕ) → r < keep → get_or ws r [] ≡ w r = λ r l. get_or-tabulate keep w r [] l in
    let P : ℕ → Tuple → Type 0 = λ i u. (i < length ts) × (get_or ts i [] ≡ u) in
    let n = listed ℕ 0 ws P (λ j l. let m : j < keep = omega arith in let a = among j m in (a.0, (a.1, a.2 ∙ sym (at j m)))) in
    let is : (j : ℕ) → j < keep → get_or ts (get_or n.items j 0) [] ≡ w j = λ j m. (n.are j (omega arith)).1 ∙ at j m in
    record {
      numbers = n.items;
      count = n.count ∙ wlen;
      rise = λ i j l m.
          let b : j < keep = omega (arith, n.count) in
          let a : i < keep = omega arith in
          number_before t ts (get_or n.items i 0) (get_or n.items j 0) p (n.are i (omega arith)).0
          (subst (λ (x : Tuple). TupleBefore x (get_or ts (get_or n.items j 0) [])) (sym (is i a)) (subst (λ (y : Tuple). TupleBefore (w i) y) (sym (is j b)) (rises i j l b)));
      within = λ j m. (n.are j (omega (arith, n.count))).0;
      state = λ j m. let b : j < keep = omega (arith, n.count) in ap (state_of t) (is j b) ∙ state j b;
      before = λ j m. let b : j < keep = omega (arith, n.count) in subst (λ (x : Tuple). TupleBefore x v) (sym (is j b)) (before j b);
    }

-- the exchange within a zone with which comes whatever comes before: rows over the nodes up to a level, whose tuples are one level higher
pub record AreRowsPlaced (t : Table) (keep h : ℕ) (ts all : List Tuple) (zone : Tuple → Type 0) : Type 0 where
  pub down : (w v : Tuple) → TupleBefore w v → zone v → zone w
  pub rows : (e : Entry) → IsRowOver t ts e → level (tuple_at ts e) ≡ suc h → zone (tuple_at ts e)
      → IsPlaced t keep all (tuple_at ts e)

row_placed : (t : Table) (keep h : ℕ) (ts us : List Tuple) (zone : Tuple → Type 0) (e : Entry) → IsTable t
    → ArePlaces t ts → ArePlacedTo t keep h ts → AreRowsPlaced t keep h ts (ts ++ us) zone → IsRowOver t ts e
    → level (tuple_at ts e) ≤ suc h → zone (tuple_at ts e) → IsPlaced t keep (ts ++ us) (tuple_at ts e)
row_placed t keep h ts us zone e is p low rows row l z =
    ⊎_elim
    (λ m. rows.rows e row (omega arith) z)
    (λ m. placed_more t keep ts us (tuple_at ts e) (low (tuple_at ts e) (IsTuple-entry t.signature t.columns ts e p.tuples row) (omega arith)))
    (cases_lt h (level (tuple_at ts e)))

-- Result: where the rows are placed, so are all tuples of their level
pub exchange : (t : Table) (keep h : ℕ) (ts us : List Tuple) (zone : Tuple → Type 0) → IsTable t → 0 < keep
    → ArePlaces t ts → ArePlaces t (ts ++ us) → ArePlacedTo t keep h ts → AreRowsPlaced t keep h ts (ts ++ us) zone
    → (v : Tuple) → IsTuple t.signature t.columns v → level v ≤ suc h → zone v → IsPlaced t keep (ts ++ us) v
exchange t keep h ts us zone is some p pp low rows v tuple l z =
    let klen : length (kids v) ≡ kid_count v = length-tabulate (kid_count v) (kid v) in
    let at : (j : ℕ) → j < kid_count v → get_or (kids v) j [] ≡ kid v j = λ j m. get_or-tabulate (kid_count v) (kid v) j [] m in
    let P : (ℕ → ℕ) → Tuple → Type 0 = λ f u. Replaces t keep ts f u in
    let n = listed (ℕ → ℕ) nowhere (kids v) P (λ j m.
    let a : j < kid_count v = omega arith in
    replaces t keep ts (get_or (kids v) j []) p (subst (IsPlaced t keep ts) (sym (at j a)) (low (kid v j) (IsTuple-kid t.signature t.columns v j tuple a) (level_kid v j h l)))) in
    let fs = n.items in
    let all : AreReplacing t keep ts fs v = (n.count, n.are) in
    let row : (r : ℕ) → r < keep → Replaced t ts fs v r = λ r m. row_replaced t keep ts fs v r is p tuple all m in
    let w : ℕ → Tuple = λ r. tuple_at ts (row_of (root v) fs r) in
    ⊎_elim
    (λ stay.
    let same : w 0 ≡ v = row_same t ts fs v 0 (row 0 some) (λ j m. stay j m 0 some) in
    subst (IsPlaced t keep (ts ++ us)) same
    (row_placed t keep h ts us zone (row_of (root v) fs 0) is p low rows (row 0 some).row (subst (λ (x : Tuple). level x ≤ suc h) (sym same) l) (subst zone (sym same) z)))
    (λ moves.
    let j = moves.0 in
    let before : (r : ℕ) → r < keep → TupleBefore (w r) v = λ r m. row_before t keep ts fs v r j tuple all (row r m) m moves.1 moves.2 in
    ⊎_elim
    (λ nodes. inr (before_from_nodes t keep (ts ++ us) w v pp nodes (λ r m. (row r m).state) before
    (λ r s a b. let c : r < keep = omega arith in rows_rise t keep ts fs v r s j all (row r c) (row s b) a b moves.1 moves.2)))
    (λ full. inr (before_later t keep (ts ++ us) (w full.0) v full.2 (row full.0 full.1).state (before full.0 full.1)))
    (all_or_one keep (λ r. IsAmong (ts ++ us) (w r)) (λ r. HasBefore t keep (ts ++ us) (w r))
    (λ r m. row_placed t keep h ts us zone (row_of (root v) fs r) is p low rows (row r m).row (omega (arith, level_before (w r) v (before r m))) (rows.down (w r) v (before r m) z))))
    (all_or_one (length (kids v)) (λ j. (r : ℕ) → r < keep → get_or ts ((get_or fs j nowhere) r) [] ≡ get_or (kids v) j []) (λ j. Moves keep ts (get_or fs j nowhere) (get_or (kids v) j [])) (λ j m. (n.are j m).moves))
