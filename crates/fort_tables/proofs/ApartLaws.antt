-- Tuples of separated states are not interchangeable.
use Rattle.std.proofs.Common.{◌≡◌, ℕ, ◌-◌, ◌^◌, ◌<◌, List, [], ◌∷◌, ◌++◌, map, length, get_or, false, Decides, refl, ap, sym, ◌∙◌, arith, subst, set-set}
use Rattle.std.proofs.lemmas.List.{length-map, length-set, get_or-map, get_or-set_same}
use Rattle.std.proofs.lemmas.Bool.Decides.{same_from_decides}
use Rattle.fort_theory.specs.Signatures.{Signature}
use Rattle.fort_tables.specs.Tuples.{Tuple, TupleSymbol, kid, kids, kid_count, presence, IsTuple, IsFull}
use Rattle.fort_tables.specs.Entries.{entry}
use Rattle.fort_tables.specs.Tables.{Table, IsTable, IsTableEntry, IsReached, state_of, full_presence}
use Rattle.fort_tables.proofs.PresenceLaws.{full_from_presence}
use Rattle.fort_tables.proofs.TupleLaws.{length-tabulate, get_or-tabulate, IsTuple-kid}
use Rattle.fort_tables.proofs.TableLaws.{table_state}
use Rattle.fort_tables.specs.Interchange.{tuple_at, tuple_with, Interchangeable, AcceptsExactly}
use Rattle.fort_tables.specs.Separation.{entry_with, Separated, ByColumns, ByAcceptance, ByEntry}
use Rattle.fort_tables.proofs.PlaceLaws.{presence-tuple_with, full-tuple_with, IsTuple-tuple_with, tuple_at-root, tuple_with-root, tuple_at-kid, tuple_at-deep, tuple_with-deep}
use Rattle.fort_tables.proofs.ReachedEntries.{entry_tuple}
use Rattle.fort_tables.proofs.SeparationLaws.{by_equal, by_test, state-tuple_with}

-- interchangeable tuples are so where they are put into a tuple
pub interchangeable_below : (sig : Signature) (n : ℕ) (R : Tuple → Type 0) (c : Tuple) (q : List ℕ) (t u : Tuple) → IsTuple sig n c → IsTuple sig n t → IsTuple sig n u
    → presence (tuple_at c q) ≡ presence t → Interchangeable sig n R t u → Interchangeable sig n R (tuple_with c q t) (tuple_with c q u)
interchangeable_below sig n R c q t u hc ht hu e h = record {
  same_columns = presence-tuple_with c q t ∙ sym (presence-tuple_with c q u);
  same = λ w p place.
      let exactly : presence (tuple_at w p) ≡ presence c = place.exactly ∙ presence-tuple_with c q t in
      let wide : length c ≡ length w = hc.width ∙ sym place.tuple.width in
      let deep : presence (tuple_at (tuple_with w p c) (p ++ q)) ≡ presence t = ap presence (tuple_at-deep w p q c wide exactly) ∙ e in
      let both = h.same (tuple_with w p c) (p ++ q)
      (record { tuple = IsTuple-tuple_with sig n w p c place.tuple hc; full = full-tuple_with w p c place.full; exactly = deep }) in
      let one = tuple_with-deep w p q c t wide (ht.width ∙ sym place.tuple.width) e in
      let other = tuple_with-deep w p q c u wide (hu.width ∙ sym place.tuple.width) (e ∙ h.same_columns) in
      ((λ x. subst R other (both.0 (subst R (sym one) x))), (λ y. subst R one (both.1 (subst R (sym other) y))));
}

-- interchangeable tuples have one acceptance
accepted_alike : (table : Table) (R : Tuple → Type 0) → IsTable table → AcceptsExactly table R → (t u : Tuple)
    → IsTuple table.signature table.columns t → IsTuple table.signature table.columns u → Interchangeable table.signature table.columns R t u → table.accepting (state_of table t) ≡ table.accepting (state_of table u)
accepted_alike table R is accepts t u ht hu h =
    let n = table.columns in
    let one = table_state table is t ht in
    let other = table_state table is u hu in
    by_equal (table.accepting (state_of table t) ≡ table.accepting (state_of table u)) (presence t) (full_presence n)
    (λ e.
    let full_t : IsFull t = full_from_presence t (e ∙ ap (λ k. 2 ^ k - 1) (sym ht.width)) in
    let full_u : IsFull u = full_from_presence u (sym h.same_columns ∙ (e ∙ ap (λ k. 2 ^ k - 1) (sym hu.width))) in
    let root_t : tuple_with t [] t ≡ t = tuple_with-root t t refl refl in
    let root_u : tuple_with t [] u ≡ u = tuple_with-root t u (ht.width ∙ sym hu.width) h.same_columns in
    let both = h.same t [] (record { tuple = ht; full = full_t; exactly = ap presence (tuple_at-root t) }) in
    let there : Decides (table.accepting (state_of table u)) (R t) = (
      (λ x. subst R root_t (both.1 (subst R (sym root_u) ((accepts u hu full_u).0 x)))),
      (λ y. (accepts u hu full_u).1 (subst R root_u (both.0 (subst R (sym root_t) y)))),
    ) in
    same_from_decides (table.accepting (state_of table t)) (table.accepting (state_of table u)) (accepts t ht full_t) there)
    (λ d.
    let never : (q : ℕ) → q < length table.presences → get_or table.presences q 0 ≡ presence t → table.accepting q ≡ false =
    λ q l e. by_test (table.accepting q ≡ false) (table.accepting q) (λ a. absurd (d (sym e ∙ is.full q l a))) (λ a. a) in
    never (state_of table t) one.within one.presence_is ∙ sym (never (state_of table u) other.within (other.presence_is ∙ sym h.same_columns)))

-- a tuple whose child j may be one or the other
record Around (table : Table) (f : TupleSymbol) (ks : List ℕ) (j p : ℕ) : Type 0 where
  tuple : Tuple
  is : IsTuple table.signature table.columns tuple
  child : j < kid_count tuple
  exactly : presence (kid tuple j) ≡ get_or table.presences p 0
  leads : (t : Tuple) → IsTuple table.signature table.columns t → presence t ≡ get_or table.presences p 0
      → state_of table (tuple_with tuple (j ∷ []) t) ≡ table.target (entry_with f ks j (state_of table t))

around : (table : Table) → IsTable table → IsReached table → (f : TupleSymbol) (ks : List ℕ) (j p : ℕ) → j < length ks → IsTableEntry table (entry_with f ks j p) → Around table f ks j p
around table is reached f ks j p l h =
    let c = entry_tuple table (entry_with f ks j p) is reached h in
    let v = c.tuple in
    let sig = table.signature in
    let n = table.columns in
    let count : length (map (state_of table) (kids v)) ≡ kid_count v = length-map (kids v) (state_of table) ∙ length-tabulate (kid_count v) (kid v) in
    let child : j < kid_count v = omega (arith, count, ap length c.states, length-set ks j p) in
    let kid_is = IsTuple-kid sig n v j c.is child in
    let at : state_of table (kid v j) ≡ p =
    ap (state_of table) (sym (get_or-tabulate (kid_count v) (kid v) j [] child))
    ∙ (sym (get_or-map (state_of table) (kids v) j [] 0 (omega (arith, length-tabulate (kid_count v) (kid v))))
    ∙ (ap (λ qs. get_or qs j 0) c.states ∙ get_or-set_same ks j p 0 l)) in
    let exactly : presence (kid v j) ≡ get_or table.presences p 0 = sym (table_state table is (kid v j) kid_is).presence_is ∙ ap (λ q. get_or table.presences q 0) at in
    record {
      tuple = v;
      is = c.is;
      child = child;
      exactly = exactly;
      leads = λ t ht e.
          let root_is : tuple_with (kid v j) [] t ≡ t = tuple_with-root (kid v j) t (kid_is.width ∙ sym ht.width) (exactly ∙ sym e) in
          state-tuple_with table v j [] t child
          ∙ (ap (λ g. table.target (entry_with g (map (state_of table) (kids v)) j (state_of table (tuple_with (kid v j) [] t)))) c.root_is
          ∙ (ap (λ qs. table.target (entry_with f qs j (state_of table (tuple_with (kid v j) [] t)))) c.states
          ∙ (ap (λ qs. table.target (entry f qs)) (set-set ks j p (state_of table (tuple_with (kid v j) [] t)))
          ∙ ap (λ s. table.target (entry_with f ks j (state_of table s))) root_is)));
    }

-- Result
pub separated_apart : (table : Table) (R : Tuple → Type 0) → IsTable table → IsReached table → AcceptsExactly table R → {p q : ℕ} → Separated table p q → (t u : Tuple)
    → IsTuple table.signature table.columns t → IsTuple table.signature table.columns u → state_of table t ≡ p → state_of table u ≡ q → Interchangeable table.signature table.columns R t u → ⊥
separated_apart table R is reached accepts {p = p} {q = q} (ByColumns n) t u ht hu a b h =
    n (ap (λ s. get_or table.presences s 0) (sym a) ∙ ((table_state table is t ht).presence_is ∙ (h.same_columns ∙ (sym (table_state table is u hu).presence_is ∙ ap (λ s. get_or table.presences s 0) b))))
separated_apart table R is reached accepts {p = p} {q = q} (ByAcceptance n) t u ht hu a b h =
    n (ap table.accepting (sym a) ∙ (accepted_alike table R is accepts t u ht hu h ∙ ap table.accepting b))
separated_apart table R is reached accepts {p = p} {q = q} (ByEntry f ks j stand s) t u ht hu a b h =
    let c = around table is reached f ks j p stand.child stand.one in
    let one : presence t ≡ get_or table.presences p 0 = sym (table_state table is t ht).presence_is ∙ ap (λ r. get_or table.presences r 0) a in
    let exactly : presence (tuple_at c.tuple (j ∷ [])) ≡ presence t = ap presence (tuple_at-kid c.tuple j [] ∙ tuple_at-root (kid c.tuple j)) ∙ (c.exactly ∙ sym one) in
    separated_apart table R is reached accepts s (tuple_with c.tuple (j ∷ []) t) (tuple_with c.tuple (j ∷ []) u)
    (IsTuple-tuple_with table.signature table.columns c.tuple (j ∷ []) t c.is ht) (IsTuple-tuple_with table.signature table.columns c.tuple (j ∷ []) u c.is hu)
    (c.leads t ht one ∙ ap (λ r. table.target (entry_with f ks j r)) a)
    (c.leads u hu (sym h.same_columns ∙ one) ∙ ap (λ r. table.target (entry_with f ks j r)) b)
    (interchangeable_below table.signature table.columns R c.tuple (j ∷ []) t u c.is ht hu exactly h)
