-- One row after another becomes a node: what is placed, what waits, and where a height ends.
use Rattle.std.proofs.Common.{◌≡◌, ℕ, suc, ◌-◌, ◌<◌, ◌≤◌, ◌⊎◌, List, [], ◌∷◌, ◌++◌, map, length, length-append, append_assoc, get_or, refl, ap, sym, ◌∙◌, arith, subst, inl, inr, ⊎_elim}
use Rattle.std.specs.Prelude.{Contains}
use Rattle.std.proofs.lemmas.Bool.{cases_lt}
use Rattle.std.proofs.lemmas.Bool.Decides.{nat_tests}
use Rattle.std.proofs.lemmas.List.{length-map, get_or-map, ext_get_or, get_or_append_left, get_or-append_right}
use Rattle.fort_tables.specs.Tuples.{Tuple, level, presence, IsTuple, AreKids}
use Rattle.fort_tables.specs.Entries.{Entry, entry, StageBefore, picked}
use Rattle.fort_tables.specs.Tables.{Table, IsTable, state_of}
use Rattle.fort_tables.proofs.EntryLaws.{get_or-picked, entry_kids, IsTuple-entry}
use Rattle.fort_tables.specs.TupleOrder.{TupleBefore, Lower}
use Rattle.fort_tables.proofs.TupleOrderLaws.{tuple_irrefl, tuple_trans, level_before}
use Rattle.fort_tables.proofs.KidOrderLaws.{level_rebuilt, level_of_kid, entry_before}
use Rattle.fort_witness.specs.declared.head.Head.{Head}
use Rattle.fort_witness.specs.Rounds.{over_states, states_at, tuple_at}
use Rattle.fort_witness.specs.Placing.{IsAmong, HasBefore, IsPlaced, ArePlaces, ArePlacedTo, IsRowOver}
use Rattle.fort_witness.specs.Making.{IsNewRow, AreOld, Waits, AreComing, AreStatesOf, AreWaiting}
use Rattle.fort_witness.proofs.NextLaws.{present_level}
use Rattle.fort_witness.proofs.ExchangeLaws.{all_or_one, state_from_kids, placed_more, before_later, exchange}

-- what is known of a row's tuple
pub record IsMade (t : Table) (old : List Tuple) (e : Entry) : Type 0 where
  pub kids_are : AreKids t.signature e.symbol (picked old e.kids)
  pub tuple : IsTuple t.signature t.columns (tuple_at old e)
  pub count : length (picked old e.kids) ≡ length e.kids
  pub within : (j : ℕ) → j < length e.kids → get_or e.kids j 0 < length old

pub row_made : (t : Table) (old : List Tuple) (e : Entry) → ArePlaces t old → IsRowOver t old e → IsMade t old e
row_made t old e p r = record {
  kids_are = entry_kids t.signature t.columns old e p.tuples r;
  tuple = IsTuple-entry t.signature t.columns old e p.tuples r;
  count = length-map e.kids (λ i. get_or old i []);
  within = λ j l. omega (arith, r.within j l, length-map old presence);
}

-- nothing is placed among no tuples
placed_none : (t : Table) (keep : ℕ) (old : List Tuple) (v : Tuple) → 0 < keep → length old ≡ 0 → IsPlaced t keep old v → ⊥
placed_none t keep old v some e h = ⊎_elim (λ n. omega (arith, n.1)) (λ b. omega (arith, b.within 0 (omega (arith, b.count)))) h

-- a new row's tuple is one level higher than the old nodes
pub new_level : (t : Table) (keep h low : ℕ) (old : List Tuple) (e : Entry) → 0 < keep → AreOld t keep h low old
    → IsNewRow t old low e → level (tuple_at old e) ≡ suc h
new_level t keep h low old e some o n =
    let sig = t.signature in
    let us = picked old e.kids in
    let m = row_made t old e o.places n.row in
    let v = tuple_at old e in
    let kid_level : (j : ℕ) → j < length us → level (get_or us j []) ≤ h = λ j l. let b : j < length e.kids = omega (arith, m.count) in omega (arith, ap level (get_or-picked old e.kids j b), o.levels (get_or e.kids j 0) (m.within j b)) in
    let top : level v ≤ suc h = level_rebuilt sig e.symbol us h m.kids_are kid_level in
    let past : h < level v = ⊎_elim (λ l. l)
    (λ l. ⊎_elim
    (λ there.
    let r = n.fresh (grind (arith, nat_tests)) in
    let k = get_or e.kids r.0 0 in
    let own : level (get_or us r.0 []) ≡ h = ap level (get_or-picked old e.kids r.0 r.1) ∙ o.top k (m.within r.0 r.1) r.2 in
    let high : 0 < level v = present_level v m.tuple.present in
    let below : level v ≤ suc (h - 1) = omega arith in
    absurd (omega (arith, level_of_kid sig e.symbol us r.0 (h - 1) m.kids_are (omega (arith, m.count, r.1)) below)))
    (λ none. absurd (placed_none t keep old v some (omega arith) (o.placed v m.tuple (omega arith))))
    (cases_lt 0 (length old)))
    (cases_lt h (level v)) in
    omega arith

-- a row whose tuple is that high is new
pub new_from_level : (t : Table) (keep h low : ℕ) (old : List Tuple) (e : Entry) → AreOld t keep h low old
    → IsRowOver t old e → level (tuple_at old e) ≡ suc h → IsNewRow t old low e
new_from_level t keep h low old e o r l =
    let us = picked old e.kids in
    let m = row_made t old e o.places r in
    record {
      row = r;
      fresh = λ there.
          let some : 0 < length old = grind (arith, nat_tests) in
          let high : 0 < h = omega (arith, present_level (get_or old 0 []) (o.places.tuples 0 some).present, o.levels 0 some) in
          ⊎_elim
          (λ all.
          let low_kids : (j : ℕ) → j < length us → level (get_or us j []) ≤ h - 1 = λ j b. let c : j < length e.kids = omega (arith, m.count) in omega (arith, ap level (get_or-picked old e.kids j c), o.lower (get_or e.kids j 0) (m.within j c) (all j c)) in
          absurd (omega (arith, level_rebuilt t.signature e.symbol us (h - 1) m.kids_are low_kids)))
          (λ one. one)
          (all_or_one (length e.kids) (λ j. get_or e.kids j 0 < low) (λ j. low ≤ get_or e.kids j 0) (λ j b. cases_lt (get_or e.kids j 0) low));
    }

-- new rows are in the order of their tuples
pub new_before : (t : Table) (keep h low : ℕ) (old : List Tuple) (a b : Entry) → 0 < keep → AreOld t keep h low old
    → IsNewRow t old low a → IsNewRow t old low b → StageBefore a b → TupleBefore (tuple_at old a) (tuple_at old b)
new_before t keep h low old a b some o m n s =
    let p = row_made t old a o.places m.row in
    let q = row_made t old b o.places n.row in
    entry_before t.signature old a b (record { rises = o.places.rise }) p.kids_are q.kids_are q.within (new_level t keep h low old a some o m ∙ sym (new_level t keep h low old b some o n)) s

pub row_state : (t : Table) (old : List Tuple) (qs : List ℕ) (e : Entry) → AreStatesOf t old qs → IsMade t old e
    → state_of t (tuple_at old e) ≡ t.target (over_states qs e)
row_state t old qs e s m =
    let us = picked old e.kids in
    let same : map (state_of t) us ≡ states_at qs e.kids =
    ext_get_or 0 (map (state_of t) us) (states_at qs e.kids) (length-map us (state_of t) ∙ (m.count ∙ sym (length-map e.kids (λ i. get_or qs i 0))))
    (λ j l.
    let b : j < length e.kids = omega (arith, m.count, length-map us (state_of t)) in
    get_or-map (state_of t) us j [] 0 (omega (arith, m.count)) ∙ (ap (state_of t) (get_or-picked old e.kids j b) ∙ (sym (s.at (get_or e.kids j 0) (m.within j b)) ∙ sym (get_or-map (λ i. get_or qs i 0) e.kids j 0 0 b)))) in
    state_from_kids t e.symbol us m.kids_are ∙ ap (λ (ss : List ℕ). t.target (entry e.symbol ss)) same

-- one is taken out, whose row isn't after any other's; no other is of its entry
pub record IsTaken (qs : List ℕ) (heads rest : List Head) (x : Head) : Type 0 where
  pub own : Contains heads x
  pub back : (y : Head) → Contains rest y → Contains heads y
  pub split : (y : Head) → Contains heads y → (x ≡ y) ⊎ Contains rest y
  pub least : (y : Head) → Contains heads y → (x.row ≡ y.row) ⊎ StageBefore x.row y.row
  pub apart : (y : Head) → Contains rest y → over_states qs x.row ≡ over_states qs y.row → ⊥

-- Result: a row whose state has enough nodes before it is left out, with all later ones of its entry
pub waiting_full : (t : Table) (keep h low : ℕ) (old us : List Tuple) (qs : List ℕ) (heads rest : List Head) (x : Head)
    → 0 < keep → AreOld t keep h low old → AreStatesOf t old qs → AreComing t keep h low old us qs heads
    → AreWaiting t keep low old us qs heads → IsTaken qs heads rest x
    → HasBefore t keep (old ++ us) (tuple_at old x.row) → AreWaiting t keep low old us qs rest
waiting_full t keep h low old us qs heads rest x some o s c w k full = record {
  all = λ e n. ⊎_elim (λ p. inl p)
      (λ a. ⊎_elim
      (λ is.
      let v = tuple_at old e in
      let m = c.rows x k.own in
      let same : over_states qs x.row ≡ over_states qs e = ap (λ (y : Head). over_states qs y.row) is ∙ a.entry in
      let states : state_of t (tuple_at old x.row) ≡ state_of t v =
      row_state t old qs x.row s (row_made t old x.row o.places m.0.row) ∙ (ap t.target same ∙ sym (row_state t old qs e s (row_made t old e o.places n.row))) in
      inl (⊎_elim
      (λ q. subst (λ (d : Entry). IsPlaced t keep (old ++ us) (tuple_at old d)) (ap (λ (y : Head). y.row) is ∙ q) (inr full))
      (λ q. inr (before_later t keep (old ++ us) (tuple_at old x.row) v full states (new_before t keep h low old x.row e some o m.0 n (subst (λ (d : Entry). StageBefore d e) (sym (ap (λ (y : Head). y.row) is)) q))))
      a.before))
      (λ r. inr (record { head = a.head; among = r; entry = a.entry; before = a.before }))
      (k.split a.head a.among))
      (w.all e n);
}

last_among : (ts : List Tuple) (v : Tuple) → IsAmong (ts ++ v ∷ []) v
last_among ts v =
    let e : get_or (ts ++ v ∷ []) (length ts) [] ≡ v = get_or-append_right ts (v ∷ []) (length ts) (length ts) [] refl (omega arith) ∙ ap (λ i. get_or (v ∷ []) i []) (let z : length ts - length ts ≡ 0 = omega arith in z) in
    (length ts, omega (arith, length-append ts (v ∷ [])), e)

-- Result: a row becomes a node; the next one of its entry waits
pub waiting_node : (t : Table) (keep low : ℕ) (old us : List Tuple) (qs : List ℕ) (heads rest new : List Head) (x : Head)
    → AreWaiting t keep low old us qs heads → IsTaken qs heads rest x → ((y : Head) → Contains rest y → Contains new y)
    → ((e : Entry) → IsNewRow t old low e → over_states qs x.row ≡ over_states qs e → StageBefore x.row e → Waits qs new e)
    → AreWaiting t keep low old (us ++ tuple_at old x.row ∷ []) qs new
waiting_node t keep low old us qs heads rest new x w k more next = record {
  all = λ e n.
      let v = tuple_at old x.row in
      let P : List Tuple → Type 0 = λ ts. IsPlaced t keep ts (tuple_at old e) in
      let grown : (old ++ us) ++ v ∷ [] ≡ old ++ (us ++ v ∷ []) = append_assoc old us (v ∷ []) in
      ⊎_elim (λ p. inl (subst P grown (placed_more t keep (old ++ us) (v ∷ []) (tuple_at old e) p)))
      (λ a. ⊎_elim
      (λ is.
      let row = ap (λ (y : Head). y.row) is in
      ⊎_elim
      (λ q. inl (subst P grown (inl (subst (λ (d : Entry). IsAmong ((old ++ us) ++ v ∷ []) (tuple_at old d)) (row ∙ q) (last_among (old ++ us) v)))))
      (λ q. inr (next e n (ap (λ (y : Head). over_states qs y.row) is ∙ a.entry) (subst (λ (d : Entry). StageBefore d e) (sym row) q)))
      a.before)
      (λ r. inr (record { head = a.head; among = more a.head r; entry = a.entry; before = a.before }))
      (k.split a.head a.among))
      (w.all e n);
}

-- Result: the nodes still rise
pub places_node : (t : Table) (keep h low : ℕ) (old us : List Tuple) (qs : List ℕ) (heads : List Head) (x : Head)
    → 0 < keep → AreOld t keep h low old → ArePlaces t (old ++ us) → AreComing t keep h low old us qs heads
    → Contains heads x → ArePlaces t ((old ++ us) ++ tuple_at old x.row ∷ [])
places_node t keep h low old us qs heads x some o p c own =
    let v = tuple_at old x.row in
    let ts = old ++ us in
    let n = (c.rows x own).0 in
    let m = row_made t old x.row o.places n.row in
    let high = new_level t keep h low old x.row some o n in
    let left : (i : ℕ) → i < length ts → get_or (ts ++ v ∷ []) i [] ≡ get_or ts i [] = λ i l. get_or_append_left ts (v ∷ []) [] i l in
    let last : (i : ℕ) → length ts ≤ i → i < length (ts ++ v ∷ []) → get_or (ts ++ v ∷ []) i [] ≡ v = λ i l b.
    get_or-append_right ts (v ∷ []) (length ts) i [] refl l ∙ ap (λ j. get_or (v ∷ []) j []) (let z : i - length ts ≡ 0 = omega (arith, length-append ts (v ∷ [])) in z) in
    let before : (i : ℕ) → i < length ts → TupleBefore (get_or ts i []) v = λ i l. ⊎_elim
    (λ b. let e = get_or_append_left old us [] i b in Lower (omega (arith, o.levels i b, ap level e)))
    (λ b. subst (λ (w : Tuple). TupleBefore w v) (sym (get_or-append_right old us (length old) i [] refl b)) (c.behind x own (i - length old) (omega (arith, length-append old us))))
    (cases_lt i (length old)) in
    record {
      tuples = λ i l. ⊎_elim
          (λ b. subst (IsTuple t.signature t.columns) (sym (left i b)) (p.tuples i b))
          (λ b. subst (IsTuple t.signature t.columns) (sym (last i b l)) m.tuple)
          (cases_lt i (length ts));
      rise = λ i j l b. ⊎_elim
          (λ a. subst (λ (w : Tuple). TupleBefore w (get_or (ts ++ v ∷ []) j [])) (sym (left i (omega arith))) (subst (λ (w : Tuple). TupleBefore (get_or ts i []) w) (sym (left j a)) (p.rise i j l a)))
          (λ a.
          let z : i < length ts = omega (arith, length-append ts (v ∷ [])) in
          subst (λ (w : Tuple). TupleBefore w (get_or (ts ++ v ∷ []) j [])) (sym (left i z)) (subst (λ (w : Tuple). TupleBefore (get_or ts i []) w) (sym (last j a b)) (before i z)))
          (cases_lt j (length ts));
    }

-- Result: and what is to come is behind them
pub coming_node : (t : Table) (keep h low : ℕ) (old us : List Tuple) (qs : List ℕ) (heads rest new : List Head) (x : Head)
    → 0 < keep → AreOld t keep h low old → AreComing t keep h low old us qs heads → IsTaken qs heads rest x
    → ((y : Head) → Contains new y → Contains rest y ⊎ (StageBefore x.row y.row × (IsNewRow t old low y.row × (state_of t (tuple_at old y.row) ≡ y.state))))
    → AreComing t keep h low old (us ++ tuple_at old x.row ∷ []) qs new
coming_node t keep h low old us qs heads rest new x some o c k from =
    let v = tuple_at old x.row in
    let n = (c.rows x k.own).0 in
    let left : (i : ℕ) → i < length us → get_or (us ++ v ∷ []) i [] ≡ get_or us i [] = λ i l. get_or_append_left us (v ∷ []) [] i l in
    let last : (i : ℕ) → length us ≤ i → i < length (us ++ v ∷ []) → get_or (us ++ v ∷ []) i [] ≡ v = λ i l b.
    get_or-append_right us (v ∷ []) (length us) i [] refl l ∙ ap (λ j. get_or (v ∷ []) j []) (let z : i - length us ≡ 0 = omega (arith, length-append us (v ∷ [])) in z) in
    let rows : (y : Head) → Contains new y → IsNewRow t old low y.row × (state_of t (tuple_at old y.row) ≡ y.state) = λ y m. ⊎_elim (λ r. c.rows y (k.back y r)) (λ r. r.1) (from y m) in
    let after : (y : Head) → Contains new y → TupleBefore v (tuple_at old y.row) = λ y m. ⊎_elim
    (λ r. ⊎_elim
    (λ e. absurd (k.apart y r (ap (over_states qs) e)))
    (λ b. new_before t keep h low old x.row y.row some o n (rows y m).0 b)
    (k.least y (k.back y r)))
    (λ r. new_before t keep h low old x.row y.row some o n (rows y m).0 r.0)
    (from y m) in
    record {
      news = λ i l. ⊎_elim
          (λ b. ap level (left i b) ∙ c.news i b)
          (λ b. ap level (last i b l) ∙ new_level t keep h low old x.row some o n)
          (cases_lt i (length us));
      rows = rows;
      behind = λ y m i l. ⊎_elim
          (λ b.
          let early : TupleBefore (get_or us i []) v = c.behind x k.own i b in
          subst (λ (w : Tuple). TupleBefore w (tuple_at old y.row)) (sym (left i b)) (tuple_trans (get_or us i []) v (tuple_at old y.row) early (after y m)))
          (λ b. subst (λ (w : Tuple). TupleBefore w (tuple_at old y.row)) (sym (last i b l)) (after y m))
          (cases_lt i (length us));
    }

-- Result: where no row is left, all tuples of the level are placed
pub height_done : (t : Table) (keep h low : ℕ) (old us : List Tuple) (qs : List ℕ) → IsTable t → 0 < keep
    → AreOld t keep h low old → ArePlaces t (old ++ us) → AreWaiting t keep low old us qs []
    → ArePlacedTo t keep (suc h) (old ++ us)
height_done t keep h low old us qs is some o p w = λ v tuple l.
    exchange t keep h old us (λ u. Unit {0}) is some o.places p o.placed
    (record {
      down = λ a b c d. tt;
      rows = λ e r m z. ⊎_elim (λ q. q) (λ a. absurd (omega (arith, a.among.1))) (w.all e (new_from_level t keep h low old e o r m));
    })
    v tuple l tt

-- Result: what comes before the row that is first to come is placed
pub before_first : (t : Table) (keep h low : ℕ) (old us : List Tuple) (qs : List ℕ) (heads rest : List Head) (x : Head)
    → IsTable t → 0 < keep → AreOld t keep h low old → ArePlaces t (old ++ us) → AreComing t keep h low old us qs heads
    → AreWaiting t keep low old us qs heads → IsTaken qs heads rest x → (v : Tuple) → IsTuple t.signature t.columns v
    → TupleBefore v (tuple_at old x.row) → IsPlaced t keep (old ++ us) v
before_first t keep h low old us qs heads rest x is some o p c w k v tuple b =
    let y = tuple_at old x.row in
    let n = (c.rows x k.own).0 in
    let high = new_level t keep h low old x.row some o n in
    exchange t keep h old us (λ u. TupleBefore u y) is some o.places p o.placed
    (record {
      down = λ a d l z. tuple_trans a d y l z;
      rows = λ e r m z.
          let ne = new_from_level t keep h low old e o r m in
          ⊎_elim (λ q. q)
          (λ a.
          let na = (c.rows a.head a.among).0 in
          let first : (y ≡ tuple_at old a.head.row) ⊎ TupleBefore y (tuple_at old a.head.row) = ⊎_elim
          (λ q. inl (ap (tuple_at old) q))
          (λ q. inr (new_before t keep h low old x.row a.head.row some o n na q))
          (k.least a.head a.among) in
          let then : (tuple_at old a.head.row ≡ tuple_at old e) ⊎ TupleBefore (tuple_at old a.head.row) (tuple_at old e) = ⊎_elim
          (λ q. inl (ap (tuple_at old) q))
          (λ q. inr (new_before t keep h low old a.head.row e some o na ne q))
          a.before in
          let early : TupleBefore (tuple_at old a.head.row) y = ⊎_elim
          (λ q. subst (λ (u : Tuple). TupleBefore u y) (sym q) z)
          (λ q. tuple_trans (tuple_at old a.head.row) (tuple_at old e) y q z)
          then in
          absurd (⊎_elim
          (λ q. tuple_irrefl y (subst (λ (u : Tuple). TupleBefore u y) (sym q) early))
          (λ q. tuple_irrefl y (tuple_trans y (tuple_at old a.head.row) y q early))
          first))
          (w.all e ne);
    })
    v tuple (omega (arith, level_before v y b)) b
