-- The accepted nodes are the first solutions: where all tuples are placed, and where a further accepted one comes after as many as are wanted.
use Rattle.std.proofs.Common.{◌≡◌, ℕ, zero, suc, ◌-◌, ◌<◌, ◌≤◌, List, [], length, get_or, true, false, refl, ap, sym, ◌∙◌, arith, subst, inl, inr, ⊎_elim}
use Rattle.std.specs.Prelude.{◌^◌, All, Contains}
use Rattle.std.proofs.lemmas.Bool.{cases_lt}
use Rattle.std.proofs.lemmas.List.{length-map, get_or_default}
use Rattle.fort_tables.specs.Tuples.{Tuple, level, IsTuple, IsFull}
use Rattle.fort_tables.specs.Entries.{picked}
use Rattle.fort_tables.specs.Tables.{Table, IsTable, state_of}
use Rattle.fort_tables.proofs.PresenceLaws.{full_from_presence}
use Rattle.fort_tables.proofs.TableLaws.{table_state}
use Rattle.fort_tables.proofs.EntryLaws.{get_or-picked}
use Rattle.fort_tables.specs.OperationTruth.{accepts}
use Rattle.fort_tables.specs.TupleOrder.{TupleBefore}
use Rattle.fort_tables.specs.LeastTuple.{Accepted}
use Rattle.fort_tables.proofs.TupleOrderLaws.{tuple_trans, tuple_total, level_before}
use Rattle.fort_tables.specs.FirstInOrder.{ComesAfterAll}
use Rattle.fort_tables.specs.Solutions.{IsSolution, AreFirstSolutions}
use Rattle.fort_witness.specs.Placing.{IsPlaced, ArePlaces, ArePlacedTo}
use Rattle.fort_witness.specs.Accepted.{AreAccepted}

accepted_is_full : (t : Table) (v : Tuple) → IsTable t → IsTuple t.signature t.columns v → accepts t v ≡ true → IsFull v
accepted_is_full t v is h a =
    let has = table_state t is v h in
    full_from_presence v (sym has.presence_is ∙ (is.full (state_of t v) has.within a ∙ ap (λ n. 2 ^ n - 1) (sym h.width)))

-- numbers that rise
record Rising (ks : List ℕ) : Type 0 where
  pub rise : (i j : ℕ) → i < j → j < length ks → get_or ks i 0 < get_or ks j 0

-- where one rising list's elements stand in another
place_least : (ks ls : List ℕ) (place : (j : ℕ) → j < length ks → (i : ℕ) × (i < length ls) × (get_or ls i 0 ≡ get_or ks j 0))
    → Rising ks → Rising ls → (j : ℕ) (l : j < length ks) → j ≤ (place j l).0
place_least ks ls place r s zero l = omega arith
place_least ks ls place r s (suc j) l =
    let m : j < length ks = omega arith in
    let a = place j m in
    let b = place (suc j) l in
    let before = place_least ks ls place r s j m in
    let values : get_or ks j 0 < get_or ks (suc j) 0 = r.rise j (suc j) (omega arith) l in
    ⊎_elim
    (λ c. omega arith)
    (λ c. ⊎_elim
    (λ d. absurd (omega (arith, s.rise b.0 a.0 d a.1, a.2, b.2)))
    (λ d. let e : a.0 ≡ b.0 = omega arith in absurd (omega (arith, ap (λ i. get_or ls i 0) e, a.2, b.2)))
    (cases_lt b.0 a.0))
    (cases_lt a.0 b.0)

-- a rising list within another is not longer
rising_within : (ks ls : List ℕ)
    → ((j : ℕ) → j < length ks → (i : ℕ) × (i < length ls) × (get_or ls i 0 ≡ get_or ks j 0)) → Rising ks → Rising ls
    → length ks ≤ length ls
rising_within ks ls place r s =
    ⊎_elim
    (λ some.
    let l : length ks - 1 < length ks = omega arith in
    let p = place (length ks - 1) l in
    omega (arith, place_least ks ls place r s (length ks - 1) l, p.1))
    (λ none. omega arith)
    (cases_lt 0 (length ks))

picked_at : (ts : List Tuple) (ks : List ℕ) (k : ℕ) (d : Tuple) → k < length ks
    → get_or (picked ts ks) k d ≡ get_or ts (get_or ks k 0) []
picked_at ts ks k d l = get_or_default (picked ts ks) k d [] (omega (arith, length-map ks (λ i. get_or ts i []))) ∙ get_or-picked ts ks k l

-- an accepted tuple that is placed is an accepted node, or there are more of these than most
accepted_listed : (t : Table) (most : ℕ) (ts : List Tuple) (acc : List ℕ) (v : Tuple) → AreAccepted t ts acc
    → length acc ≤ most → accepts t v ≡ true → IsPlaced t (suc most) ts v → Contains (picked ts acc) v
accepted_listed t most ts acc v a few agreed placed =
    ⊎_elim
    (λ n.
    let k = a.all n.0 n.1 (ap (accepts t) n.2 ∙ agreed) in
    (k.0, omega (arith, k.1, length-map acc (λ i. get_or ts i [])), picked_at ts acc k.0 v k.1 ∙ (ap (λ i. get_or ts i []) k.2 ∙ n.2)))
    (λ b.
    let within = rising_within b.numbers acc (λ j l. a.all (get_or b.numbers j 0) (b.within j l) (ap t.accepting (b.state j l) ∙ agreed)) (record { rise = b.rise }) (record { rise = a.rise }) in
    absurd (omega (arith, b.count)))
    placed

-- accepted nodes up to a level are solutions in ascending order
record AreListedSolutions (t : Table) (height : ℕ) (ts : List Tuple) (acc : List ℕ) : Type 0 where
  pub solve : All (IsSolution t.signature t.columns (Accepted t) height) (picked ts acc)
  pub rise : (i j : ℕ) (d : Tuple) → i < j → j < length (picked ts acc)
      → TupleBefore (get_or (picked ts acc) i d) (get_or (picked ts acc) j d)

accepted_solve : (t : Table) (height : ℕ) (ts : List Tuple) (acc : List ℕ) → IsTable t → ArePlaces t ts
    → AreAccepted t ts acc → ((i : ℕ) → i < length ts → level (get_or ts i []) ≤ suc height)
    → AreListedSolutions t height ts acc
accepted_solve t height ts acc is p a low =
    let len : length (picked ts acc) ≡ length acc = length-map acc (λ i. get_or ts i []) in
    record {
      solve = λ k d l.
          let m : k < length acc = omega arith in
          let u = get_or ts (get_or acc k 0) [] in
          let w = a.within k m in
          let one : IsSolution t.signature t.columns (Accepted t) height u = record {
            tuple = p.tuples (get_or acc k 0) w;
            full = accepted_is_full t u is (p.tuples (get_or acc k 0) w) (a.accepted k m);
            holds = a.accepted k m;
            low = low (get_or acc k 0) w;
          } in
          subst (IsSolution t.signature t.columns (Accepted t) height) (sym (picked_at ts acc k d m)) one;
      rise = λ i j d l m.
          let n : j < length acc = omega arith in
          let o : i < length acc = omega arith in
          subst (λ (x : Tuple). TupleBefore x (get_or (picked ts acc) j d)) (sym (picked_at ts acc i d o)) (subst (λ (y : Tuple). TupleBefore (get_or ts (get_or acc i 0) []) y) (sym (picked_at ts acc j d n))
          (p.rise (get_or acc i 0) (get_or acc j 0) (a.rise i j l n) (a.within j n)));
    }

-- Result: where all tuples up to the height are placed, the accepted nodes are all solutions
pub solutions_all : (t : Table) (height most : ℕ) (ts : List Tuple) (acc : List ℕ) → IsTable t → ArePlaces t ts
    → AreAccepted t ts acc → ((i : ℕ) → i < length ts → level (get_or ts i []) ≤ suc height)
    → ArePlacedTo t (suc most) (suc height) ts → length acc ≤ most
    → AreFirstSolutions t.signature t.columns (Accepted t) height most (picked ts acc) false
solutions_all t height most ts acc is p a low placed few =
    let s = accepted_solve t height ts acc is p a low in
    record {
      few = omega (arith, length-map acc (λ i. get_or ts i []));
      are = s.solve;
      rise = s.rise;
      others = λ u h. inl (accepted_listed t most ts acc u a few h.holds (placed u h.tuple h.low));
      more_are = λ e. absurd cc;
    }

-- Result: a further accepted tuple that comes after all nodes, where what comes before it is placed, and as many as are wanted
pub solutions_more : (t : Table) (height most : ℕ) (ts : List Tuple) (acc : List ℕ) (v : Tuple) → IsTable t
    → ArePlaces t ts → AreAccepted t ts acc → ((i : ℕ) → i < length ts → TupleBefore (get_or ts i []) v)
    → IsTuple t.signature t.columns v → level v ≤ suc height → accepts t v ≡ true
    → ((u : Tuple) → IsTuple t.signature t.columns u → TupleBefore u v → IsPlaced t (suc most) ts u) → length acc ≡ most
    → AreFirstSolutions t.signature t.columns (Accepted t) height most (picked ts acc) true
solutions_more t height most ts acc v is p a last tuple low agreed placed count =
    let s = accepted_solve t height ts acc is p a (λ i l. omega (arith, level_before (get_or ts i []) v (last i l))) in
    let len : length (picked ts acc) ≡ length acc = length-map acc (λ i. get_or ts i []) in
    let before : All (λ x. TupleBefore x v) (picked ts acc) = λ k d l.
    let m : k < length acc = omega arith in
    subst (λ (x : Tuple). TupleBefore x v) (sym (picked_at ts acc k d m)) (last (get_or acc k 0) (a.within k m)) in
    let own : ComesAfterAll TupleBefore most (picked ts acc) v = record { count = len ∙ count; after = before } in
    let one : IsSolution t.signature t.columns (Accepted t) height v = record { tuple = tuple; full = accepted_is_full t v is tuple agreed; holds = agreed; low = low } in
    record {
      few = omega arith;
      are = s.solve;
      rise = s.rise;
      others = λ u h. ⊎_elim
          (λ e. inr (refl, subst (ComesAfterAll TupleBefore most (picked ts acc)) (sym e) own))
          (λ b. ⊎_elim
          (λ l. inl (accepted_listed t most ts acc u a (omega arith) h.holds (placed u h.tuple l)))
          (λ l.
          let later : ComesAfterAll TupleBefore most (picked ts acc) u = record { count = len ∙ count; after = λ k d m. tuple_trans (get_or (picked ts acc) k d) v u (before k d m) l } in
          inr (refl, later))
          b)
          (tuple_total t.signature t.columns u v h.tuple tuple);
      more_are = λ e. (v, one, own);
    }
