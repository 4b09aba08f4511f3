-- A split keeps classes refined.
use Rattle.std.proofs.Common.{◌≡◌, ℕ, ◌+◌, ◌<◌, List, [], ◌∷◌, ◌++◌, set, length, get_or, refl, ap, sym, ◌∙◌, arith, ⊎_elim}
use Rattle.std.proofs.lemmas.Bool.{cases_lt}
use Rattle.std.proofs.lemmas.List.{length-set, get_or-set_same, get_or-set_other, set-get_or, get_or_append_left, get_or_push, length_push}
use Rattle.fort_tables.specs.Tuples.{TupleSymbol, kid_presence}
use Rattle.fort_tables.specs.Entries.{Entry, entry}
use Rattle.fort_tables.specs.Tables.{Table, IsTable, IsTableEntry}
use Rattle.fort_tables.proofs.EqualTests.{if_equal, if_apart}
use Rattle.fort_tables.specs.Separation.{entry_with, Separated, ByEntry}
use Rattle.fort_tables.specs.Merges.{class_of}
use Rattle.fort_tables.specs.Refinement.{leader_in, IsRefined, split_one, IsSplitTo}
use Rattle.fort_tables.proofs.SeparationLaws.{by_equal}

-- another state of the same columns in a child's place
pub IsTableEntry-with : (table : Table) (f : TupleSymbol) (ks : List ℕ) (j p q : ℕ) → j < length ks → IsTableEntry table (entry_with f ks j p) → q < length table.presences → get_or table.presences q 0 ≡ get_or table.presences p 0 → IsTableEntry table (entry_with f ks j q)
IsTableEntry-with table f ks j p q l h b e =
    let one = length-set ks j p in
    let other = length-set ks j q in
    record {
      symbol = h.symbol;
      count = other ∙ (sym one ∙ h.count);
      within = λ i m. by_equal (get_or (set ks j q) i 0 < length table.presences) i j
          (λ s. omega (arith, ap (λ k. get_or (set ks j q) k 0) s, get_or-set_same ks j q 0 l, b))
          (λ n. omega (arith, get_or-set_other ks j i q 0 n, get_or-set_other ks j i p 0 n, h.within i (omega (arith, one, other))));
      presence = λ i m. let old = h.presence i (omega (arith, one, other)) in
          by_equal (get_or table.presences (get_or (set ks j q) i 0) 0 ≡ kid_presence table.signature f i) i j
          (λ s. ap (λ k. get_or table.presences k 0) (ap (λ k. get_or (set ks j q) k 0) s ∙ get_or-set_same ks j q 0 l)
          ∙ (e ∙ (ap (λ k. get_or table.presences k 0) (sym (ap (λ k. get_or (set ks j p) k 0) s ∙ get_or-set_same ks j p 0 l)) ∙ old)))
          (λ n. ap (λ k. get_or table.presences k 0) (get_or-set_other ks j i q 0 n ∙ sym (get_or-set_other ks j i p 0 n)) ∙ old);
    }

-- an entry with its own child
pub entry_own : (e : Entry) (j : ℕ) → entry_with e.symbol e.kids j (get_or e.kids j 0) ≡ e
entry_own e j = ap (entry e.symbol) (set-get_or e.kids j 0)

split_other : (table : Table) (classes : List ℕ) (f : TupleSymbol) (ks : List ℕ) (j c stays fresh q : ℕ) → (class_of classes q ≡ c → ⊥) → split_one table classes f ks j c stays fresh q ≡ class_of classes q
split_other table classes f ks j c stays fresh q n = if_apart (class_of classes q) c _ (class_of classes q) n

split_stays : (table : Table) (classes : List ℕ) (f : TupleSymbol) (ks : List ℕ) (j c stays fresh q : ℕ) → class_of classes (table.target (entry_with f ks j q)) ≡ stays → split_one table classes f ks j c stays fresh q ≡ class_of classes q
split_stays table classes f ks j c stays fresh q e =
    by_equal (split_one table classes f ks j c stays fresh q ≡ class_of classes q) (class_of classes q) c
    (λ s. if_equal (class_of classes q) c _ (class_of classes q) s ∙ if_equal (class_of classes (table.target (entry_with f ks j q))) stays (class_of classes q) fresh e)
    (λ n. split_other table classes f ks j c stays fresh q n)

split_moves : (table : Table) (classes : List ℕ) (f : TupleSymbol) (ks : List ℕ) (j c stays fresh q : ℕ) → class_of classes q ≡ c → (class_of classes (table.target (entry_with f ks j q)) ≡ stays → ⊥) → split_one table classes f ks j c stays fresh q ≡ fresh
split_moves table classes f ks j c stays fresh q s n =
    if_equal (class_of classes q) c _ (class_of classes q) s ∙ if_apart (class_of classes (table.target (entry_with f ks j q))) stays (class_of classes q) fresh n

-- which of the three
data Case (table : Table) (classes : List ℕ) (f : TupleSymbol) (ks : List ℕ) (j c stays fresh q : ℕ) : Type 0 where
  Other : (class_of classes q ≡ c → ⊥) → split_one table classes f ks j c stays fresh q ≡ class_of classes q → Case table classes f ks j c stays fresh q
  Stays : class_of classes q ≡ c → class_of classes (table.target (entry_with f ks j q)) ≡ stays → split_one table classes f ks j c stays fresh q ≡ class_of classes q → Case table classes f ks j c stays fresh q
  Moves : class_of classes q ≡ c → (class_of classes (table.target (entry_with f ks j q)) ≡ stays → ⊥) → split_one table classes f ks j c stays fresh q ≡ fresh → Case table classes f ks j c stays fresh q

case_of : (table : Table) (classes : List ℕ) (f : TupleSymbol) (ks : List ℕ) (j c stays fresh q : ℕ) → Case table classes f ks j c stays fresh q
case_of table classes f ks j c stays fresh q =
    by_equal (Case table classes f ks j c stays fresh q) (class_of classes q) c
    (λ s. by_equal (Case table classes f ks j c stays fresh q) (class_of classes (table.target (entry_with f ks j q))) stays
    (λ e. Stays s e (split_stays table classes f ks j c stays fresh q e))
    (λ n. Moves s n (split_moves table classes f ks j c stays fresh q s n)))
    (λ n. Other n (split_other table classes f ks j c stays fresh q n))

module _ (table : Table) (classes leaders : List ℕ) (f : TupleSymbol) (ks : List ℕ) (j p : ℕ) (is : IsTable table) (r : IsRefined table classes leaders) (l : j < length ks) (there : p < length classes)
    (stand : IsTableEntry table (entry_with f ks j p)) where
  abbrev stays_at : ℕ
  stays_at = class_of classes (table.target (entry_with f ks j (leader_in classes leaders p)))

  pub entry_alike : (q : ℕ) → q < length classes → class_of classes q ≡ class_of classes p → IsTableEntry table (entry_with f ks j q)
  entry_alike q b s = IsTableEntry-with table f ks j p q l stand (omega (arith, r.count)) (r.columns q b ∙ (ap (λ c. get_or table.presences (get_or leaders c 0) 0) s ∙ sym (r.columns p there)))

  pub leader_stands : IsTableEntry table (entry_with f ks j (leader_in classes leaders p))
  leader_stands = entry_alike (leader_in classes leaders p) (r.led_within (class_of classes p) (r.within p there)) (r.led_class (class_of classes p) (r.within p there))

  -- the one moves and the other stays
  one_moves : (q s : ℕ) → q < length classes → s < length classes → class_of classes q ≡ class_of classes p → class_of classes s ≡ class_of classes p
      → (class_of classes (table.target (entry_with f ks j q)) ≡ class_of classes (table.target (entry_with f ks j s)) → ⊥) → Separated table q s
  one_moves q s bq bs cq cs n =
      let eq = entry_alike q bq cq in
      let es = entry_alike s bs cs in
      ByEntry f ks j (record { child = l; one = eq; other = es })
      (r.apart (table.target (entry_with f ks j q)) (table.target (entry_with f ks j s)) (omega (arith, r.count, is.within (entry_with f ks j q) eq)) (omega (arith, r.count, is.within (entry_with f ks j s) es)) n)

  module _ (fails : class_of classes (table.target (entry_with f ks j p)) ≡ stays_at → ⊥) (next : List ℕ)
      (split : IsSplitTo table classes f ks j (class_of classes p) (class_of classes (table.target (entry_with f ks j (leader_in classes leaders p)))) (length leaders) (length classes) next) where
    abbrev new_class : ℕ → ℕ
    new_class q = split_one table classes f ks j (class_of classes p) stays_at (length leaders) q

    abbrev case_at : (q : ℕ) → Case table classes f ks j (class_of classes p) stays_at (length leaders) q
    case_at q = case_of table classes f ks j (class_of classes p) stays_at (length leaders) q

    old_leader : (c : ℕ) → c < length leaders → get_or (leaders ++ p ∷ []) c 0 ≡ get_or leaders c 0
    old_leader c b = get_or_append_left leaders (p ∷ []) 0 c b

    last_leader : get_or (leaders ++ p ∷ []) (length leaders) 0 ≡ p
    last_leader = get_or_push leaders p 0 (length leaders) refl

    more : length (leaders ++ p ∷ []) ≡ length leaders + 1
    more = length_push leaders p

    own_leader : class_of classes (leader_in classes leaders p) ≡ class_of classes p
    own_leader = r.led_class (class_of classes p) (r.within p there)

    p_moves : new_class p ≡ length leaders
    p_moves = split_moves table classes f ks j (class_of classes p) stays_at (length leaders) p refl fails

    leader_keeps : (c : ℕ) → c < length leaders → new_class (get_or leaders c 0) ≡ c
    leader_keeps c b =
        by_equal (new_class (get_or leaders c 0) ≡ c) c (class_of classes p)
        (λ s. split_stays table classes f ks j (class_of classes p) stays_at (length leaders) (get_or leaders c 0)
        (ap (λ k. class_of classes (table.target (entry_with f ks j (get_or leaders k 0)))) s) ∙ r.led_class c b)
        (λ n. split_other table classes f ks j (class_of classes p) stays_at (length leaders) (get_or leaders c 0) (λ e. n (sym (r.led_class c b) ∙ e)) ∙ r.led_class c b)

    within_new : (q : ℕ) → q < length classes → new_class q < length leaders + 1
    within_new q b = by (case_at q)
      where
        by : Case table classes f ks j (class_of classes p) stays_at (length leaders) q → new_class q < length leaders + 1
        by (Other n e) = omega (arith, e, r.within q b)
        by (Stays s v e) = omega (arith, e, r.within q b)
        by (Moves s n e) = omega (arith, e)

    -- what the leader has, the new one has
    abbrev new_leader : ℕ → ℕ
    new_leader q = get_or (leaders ++ p ∷ []) (new_class q) 0

    kept_leader : (q : ℕ) → q < length classes → new_class q ≡ class_of classes q → new_leader q ≡ leader_in classes leaders q
    kept_leader q b e = ap (λ c. get_or (leaders ++ p ∷ []) c 0) e ∙ old_leader (class_of classes q) (r.within q b)

    fresh_leader : (q : ℕ) → new_class q ≡ length leaders → new_leader q ≡ p
    fresh_leader q e = ap (λ c. get_or (leaders ++ p ∷ []) c 0) e ∙ last_leader

    columns_new : (q : ℕ) → q < length classes → get_or table.presences q 0 ≡ get_or table.presences (new_leader q) 0
    columns_new q b = by (case_at q)
      where
        kept : new_class q ≡ class_of classes q → get_or table.presences q 0 ≡ get_or table.presences (new_leader q) 0
        kept e = r.columns q b ∙ ap (λ k. get_or table.presences k 0) (sym (kept_leader q b e))

        by : Case table classes f ks j (class_of classes p) stays_at (length leaders) q → get_or table.presences q 0 ≡ get_or table.presences (new_leader q) 0
        by (Other n e) = kept e
        by (Stays s v e) = kept e
        by (Moves s n e) = r.columns q b ∙ (ap (λ c. get_or table.presences (get_or leaders c 0) 0) s ∙ (sym (r.columns p there) ∙ ap (λ k. get_or table.presences k 0) (sym (fresh_leader q e))))

    acceptance_new : (q : ℕ) → q < length classes → table.accepting q ≡ table.accepting (new_leader q)
    acceptance_new q b = by (case_at q)
      where
        kept : new_class q ≡ class_of classes q → table.accepting q ≡ table.accepting (new_leader q)
        kept e = r.acceptance q b ∙ ap table.accepting (sym (kept_leader q b e))

        by : Case table classes f ks j (class_of classes p) stays_at (length leaders) q → table.accepting q ≡ table.accepting (new_leader q)
        by (Other n e) = kept e
        by (Stays s v e) = kept e
        by (Moves s n e) = r.acceptance q b ∙ (ap (λ c. table.accepting (get_or leaders c 0)) s ∙ (sym (r.acceptance p there) ∙ ap table.accepting (sym (fresh_leader q e))))

    apart_new : (q s : ℕ) → q < length classes → s < length classes → (new_class q ≡ new_class s → ⊥) → Separated table q s
    apart_new q s bq bs n =
        by_equal (Separated table q s) (class_of classes q) (class_of classes s)
        (λ same. by same (case_at q) (case_at s))
        (λ d. r.apart q s bq bs d)
      where
        by : class_of classes q ≡ class_of classes s → Case table classes f ks j (class_of classes p) stays_at (length leaders) q
            → Case table classes f ks j (class_of classes p) stays_at (length leaders) s → Separated table q s
        by same (Other a e) (Other b g) = absurd (n (e ∙ (same ∙ sym g)))
        by same (Other a e) (Stays b v g) = absurd (a (same ∙ b))
        by same (Other a e) (Moves b v g) = absurd (a (same ∙ b))
        by same (Stays a u e) (Other b g) = absurd (b (sym same ∙ a))
        by same (Stays a u e) (Stays b v g) = absurd (n (e ∙ (same ∙ sym g)))
        by same (Stays a u e) (Moves b v g) = one_moves q s bq bs a b (λ x. v (sym x ∙ u))
        by same (Moves a u e) (Other b g) = absurd (b (sym same ∙ a))
        by same (Moves a u e) (Stays b v g) = one_moves q s bq bs a b (λ x. u (x ∙ v))
        by same (Moves a u e) (Moves b v g) = absurd (n (e ∙ sym g))

    -- Result
    pub IsRefined-split : IsRefined table next (leaders ++ p ∷ [])
    IsRefined-split =
        let count : length next ≡ length classes = split.count in
        record {
          count = count ∙ r.count;
          within = λ q b. omega (arith, split.are q (omega (arith, count)), within_new q (omega (arith, count)), more);
          led_within = λ c b. ⊎_elim
              (λ low. omega (arith, count, old_leader c low, r.led_within c low))
              (λ high. let s : c ≡ length leaders = omega (arith, more) in omega (arith, count, ap (λ k. get_or (leaders ++ p ∷ []) k 0) s, last_leader, there))
              (cases_lt c (length leaders));
          led_class = λ c b. ⊎_elim
              (λ low. ap (class_of next) (old_leader c low) ∙ (split.are (get_or leaders c 0) (r.led_within c low) ∙ leader_keeps c low))
              (λ high. let s : c ≡ length leaders = omega (arith, more) in
              ap (class_of next) (ap (λ k. get_or (leaders ++ p ∷ []) k 0) s ∙ last_leader) ∙ (split.are p there ∙ (p_moves ∙ sym s)))
              (cases_lt c (length leaders));
          columns = λ q b. let k : q < length classes = omega (arith, count) in
              columns_new q k ∙ ap (λ c. get_or table.presences (get_or (leaders ++ p ∷ []) c 0) 0) (sym (split.are q k));
          acceptance = λ q b. let k : q < length classes = omega (arith, count) in
              acceptance_new q k ∙ ap (λ c. table.accepting (get_or (leaders ++ p ∷ []) c 0)) (sym (split.are q k));
          apart = λ q s bq bs n.
              let kq : q < length classes = omega (arith, count) in
              let ks' : s < length classes = omega (arith, count) in
              apart_new q s kq ks' (λ e. n (split.are q kq ∙ (e ∙ sym (split.are s ks'))));
        }
