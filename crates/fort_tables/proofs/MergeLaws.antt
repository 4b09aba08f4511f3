-- The table of the classes of a merge: it is lawful, its states are reached, a tuple's state is the class of its old state, and it accepts what the table accepts.
use Rattle.std.proofs.Common.{◌≡◌, ℕ, ◌<◌, List, [], map, set, length, get_or, ap, sym, ◌∙◌, arith}
use Rattle.std.proofs.lemmas.List.{length-map, get_or-map, map-set, ext_get_or}
use Rattle.fort_tables.specs.Tuples.{Tuple, TupleSymbol, root, kid, kids, kid_count, IsTuple}
use Rattle.fort_tables.specs.Entries.{Entry, entry}
use Rattle.fort_tables.specs.Tables.{Table, IsTable, IsTableEntry, IsReached, state_of}
use Rattle.fort_tables.proofs.TupleLaws.{tuple_induction, fold_tuple-step, IsTuple-kid, length-tabulate, get_or-tabulate}
use Rattle.fort_tables.proofs.TableLaws.{table_state, entry_of}
use Rattle.fort_tables.specs.Interchange.{Interchangeable, AcceptsExactly}
use Rattle.fort_tables.specs.Separation.{entry_with, IsCongruence}
use Rattle.fort_tables.specs.Merges.{class_of, first_of, count_of, leader, led, lifted, IsMerge, merged}
use Rattle.fort_tables.proofs.SeparationLaws.{IsTableEntry-states, interchangeable_from_joined}
use Rattle.fort_tables.proofs.NumberedClasses.{first_within, first_class, class_within}

module _ (table : Table) (classes : List ℕ) (is : IsTable table) (m : IsMerge table classes) where
  -- an entry over classes is lifted to one over states
  pub presence-class : (c : ℕ) → c < count_of classes → get_or (merged table classes).presences c 0 ≡ get_or table.presences (first_of classes c) 0
  presence-class c l = get_or-tabulate (count_of classes) (λ k. get_or table.presences (first_of classes k) 0) c 0 l

  pub class_count : length (merged table classes).presences ≡ count_of classes
  class_count = length-tabulate (count_of classes) (λ k. get_or table.presences (first_of classes k) 0)

  lifted_kid : (e : Entry) (j : ℕ) → j < length e.kids → get_or (lifted classes e).kids j 0 ≡ first_of classes (get_or e.kids j 0)
  lifted_kid e j l = get_or-map (first_of classes) e.kids j 0 0 l

  pub IsTableEntry-lifted : (e : Entry) → IsTableEntry (merged table classes) e → IsTableEntry table (lifted classes e)
  IsTableEntry-lifted e h =
      let count : length (lifted classes e).kids ≡ length e.kids = length-map e.kids (first_of classes) in
      record {
        symbol = h.symbol;
        count = count ∙ h.count;
        within = λ j l.
            let k : j < length e.kids = omega (arith, count) in
            omega (arith, lifted_kid e j k, m.count, first_within classes (get_or e.kids j 0) m.numbered (omega (arith, class_count, h.within j k)));
        presence = λ j l.
            let k : j < length e.kids = omega (arith, count) in
            ap (λ q. get_or table.presences q 0) (lifted_kid e j k) ∙ (sym (presence-class (get_or e.kids j 0) (omega (arith, class_count, h.within j k))) ∙ h.presence j k);
      }

  -- Result: the table of the classes is lawful
  pub IsTable-merged : IsTable (merged table classes)
  IsTable-merged = record {
    some = is.some;
    narrow = is.narrow;
    within = λ e h.
        let q = table.target (lifted classes e) in
        omega (arith, class_count, class_within classes q (omega (arith, m.count, is.within (lifted classes e) (IsTableEntry-lifted e h))));
    presence = λ e h.
        let q = table.target (lifted classes e) in
        let k = IsTableEntry-lifted e h in
        let l : q < length classes = omega (arith, m.count, is.within (lifted classes e) k) in
        presence-class (class_of classes q) (class_within classes q l) ∙ (sym (m.columns q l) ∙ is.presence (lifted classes e) k);
    full = λ c l a.
        let b : c < count_of classes = omega (arith, class_count) in
        presence-class c b ∙ is.full (first_of classes c) (omega (arith, m.count, first_within classes c m.numbered b)) a;
  }

  -- Result: a tuple's state is the class of its old one
  pub state_of-merged : (t : Tuple) → IsTuple table.signature table.columns t → state_of (merged table classes) t ≡ class_of classes (state_of table t)
  state_of-merged = tuple_induction (λ t. IsTuple table.signature table.columns t → state_of (merged table classes) t ≡ class_of classes (state_of table t))
      (λ t ih h.
      let us = kids t in
      let count : length us ≡ kid_count t = length-tabulate (kid_count t) (kid t) in
      let same : map (first_of classes) (map (state_of (merged table classes)) us) ≡ map (leader classes) (map (state_of table) us) =
      ext_get_or 0 (map (first_of classes) (map (state_of (merged table classes)) us)) (map (leader classes) (map (state_of table) us))
      (length-map (map (state_of (merged table classes)) us) (first_of classes) ∙ (length-map us (state_of (merged table classes)) ∙ (sym (length-map us (state_of table)) ∙ sym (length-map (map (state_of table) us) (leader classes)))))
      (λ j l.
      let k : j < length us = omega (arith, length-map (map (state_of (merged table classes)) us) (first_of classes), length-map us (state_of (merged table classes))) in
      let at : get_or us j [] ≡ kid t j = get_or-tabulate (kid_count t) (kid t) j [] (omega (arith, count)) in
      let is_kid = IsTuple-kid table.signature table.columns t j h (omega (arith, count)) in
      get_or-map (first_of classes) (map (state_of (merged table classes)) us) j 0 0 (omega (arith, length-map us (state_of (merged table classes))))
      ∙ (ap (first_of classes) (get_or-map (state_of (merged table classes)) us j [] 0 k ∙ (ap (state_of (merged table classes)) at ∙ ih j (omega (arith, count)) is_kid))
      ∙ (ap (leader classes) (ap (state_of table) (sym at) ∙ sym (get_or-map (state_of table) us j [] 0 k))
      ∙ sym (get_or-map (leader classes) (map (state_of table) us) j 0 0 (omega (arith, length-map us (state_of table)))))))
      in
      fold_tuple-step (λ f ks. (merged table classes).target (entry f ks)) t
      ∙ (ap (λ ks. class_of classes (table.target (entry (root t) ks))) same
      ∙ (sym (m.whole (entry_of (state_of table) t) (IsTableEntry-states table is t h))
      ∙ ap (class_of classes) (sym (fold_tuple-step (λ f ks. table.target (entry f ks)) t)))))

  state_within : (t : Tuple) → IsTuple table.signature table.columns t → state_of table t < length classes
  state_within t h = omega (arith, m.count, (table_state table is t h).within)

  -- Result: each class is reached, and the table of the classes accepts the same tuples
  pub IsReached-merged : IsReached table → IsReached (merged table classes)
  IsReached-merged reached c l =
      let b : c < count_of classes = omega (arith, class_count) in
      let u = reached (first_of classes c) (omega (arith, m.count, first_within classes c m.numbered b)) in
      (u.0, u.1, state_of-merged u.0 u.1 ∙ (ap (class_of classes) u.2 ∙ first_class classes c m.numbered b))

  pub accepting-merged : (t : Tuple) → IsTuple table.signature table.columns t → (merged table classes).accepting (state_of (merged table classes) t) ≡ table.accepting (state_of table t)
  accepting-merged t h =
      ap (merged table classes).accepting (state_of-merged t h) ∙ sym (m.acceptance (state_of table t) (state_within t h))

  pub AcceptsExactly-merged : (R : Tuple → Type 0) → AcceptsExactly table R → AcceptsExactly (merged table classes) R
  AcceptsExactly-merged R accepts t h full =
      let e = accepting-merged t h in
      ((λ a. (accepts t h full).0 (sym e ∙ a)), (λ r. e ∙ (accepts t h full).1 r))

  -- states of one class
  abbrev pub IsJoined : ℕ → ℕ → Type 0
  IsJoined p q = (p < length classes) × (q < length classes) × (class_of classes p ≡ class_of classes q)

  led_alike : (f : TupleSymbol) (ks : List ℕ) (j p q : ℕ) → class_of classes p ≡ class_of classes q → led classes (entry_with f ks j p) ≡ led classes (entry_with f ks j q)
  led_alike f ks j p q e =
      ap (entry f) (map-set (leader classes) ks j p ∙ (ap (λ r. set (map (leader classes) ks) j r) (ap (first_of classes) e) ∙ sym (map-set (leader classes) ks j q)))

  pub IsCongruence-classes : IsCongruence table IsJoined
  IsCongruence-classes = record {
    columns = λ p q h. m.columns p h.0 ∙ (ap (λ c. get_or table.presences (first_of classes c) 0) h.2 ∙ sym (m.columns q h.1));
    acceptance = λ p q h. m.acceptance p h.0 ∙ (ap (λ c. table.accepting (first_of classes c)) h.2 ∙ sym (m.acceptance q h.1));
    entries = λ f ks j p q stand h. (
      omega (arith, m.count, is.within (entry_with f ks j p) stand.one),
      omega (arith, m.count, is.within (entry_with f ks j q) stand.other),
      m.whole (entry_with f ks j p) stand.one ∙ (ap (λ e. class_of classes (table.target e)) (led_alike f ks j p q h.2) ∙ sym (m.whole (entry_with f ks j q) stand.other)),
    );
  }

  -- Result: tuples of one class are interchangeable
  pub interchangeable_in_class : (R : Tuple → Type 0) → AcceptsExactly table R → (t u : Tuple) → IsTuple table.signature table.columns t → IsTuple table.signature table.columns u
      → class_of classes (state_of table t) ≡ class_of classes (state_of table u) → Interchangeable table.signature table.columns R t u
  interchangeable_in_class R accepts t u ht hu e =
      interchangeable_from_joined table IsJoined R is accepts IsCongruence-classes t u ht hu (state_within t ht, state_within u hu, e)
