-- The table of the classes, by its entries in their order, is listed.
use Rattle.std.proofs.Common.{◌≡◌, ℕ, ◌<◌, ◌≤◌, List, [], map, length, get_or, false, ap, sym, ◌∙◌, arith, subst, ⊎_elim}
use Rattle.std.specs.Prelude.{◌==◌}
use Rattle.std.specs.List.{position_or_len}
use Rattle.std.proofs.lemmas.Bool.{cases_lt}
use Rattle.std.proofs.lemmas.List.{length-map, get_or-map, get_or_default, ext_get_or}
use Rattle.std.proofs.lemmas.List.Sums.{passes_at_first, fails_before_first}
use Rattle.fort_tables.specs.Tuples.{Tuple, root, kid, kids, kid_count, IsTuple}
use Rattle.fort_tables.specs.Entries.{Entry, entry, no_entry, ComesBefore}
use Rattle.fort_tables.specs.Tables.{Table, Listed, listed_table, IsTable, IsTableEntry, IsListed, IsFirstWith, state_of}
use Rattle.fort_tables.proofs.EntryLaws.{target_found}
use Rattle.fort_tables.proofs.EqualTests.{equal_from_test, apart_from_test}
use Rattle.fort_tables.proofs.OrderLaws.{before_irrefl, before_trans}
use Rattle.fort_tables.proofs.TupleLaws.{tuple_induction, fold_tuple-step, IsTuple-kid, length-tabulate, get_or-tabulate}
use Rattle.fort_tables.proofs.TableLaws.{entry_of}
use Rattle.fort_tables.specs.Merges.{count_of, merged, IsMerge}
use Rattle.fort_tables.specs.MergeOutcomes.{AreEntriesOf}
use Rattle.fort_certificate_theory.specs.MergeSteps.{listed_merge}
use Rattle.fort_tables.proofs.SeparationLaws.{IsTableEntry-states}
use Rattle.fort_tables.proofs.MergeLaws.{IsTable-merged, IsReached-merged, class_count}
use Rattle.fort_tables.proofs.ClassOrderLaws.{class_given_before}

module _ (l : Listed) (classes : List ℕ) (is : IsListed l) (m : IsMerge (listed_table l) classes) (es : List Entry) (are : AreEntriesOf (merged (listed_table l) classes) es) where
  abbrev over : Table
  over = merged (listed_table l) classes

  abbrev new : Table
  new = listed_table (listed_merge (listed_table l) classes es)

  lawful : IsTable over
  lawful = IsTable-merged (listed_table l) classes is.table m

  -- each entry over classes has its target
  target_same : (e : Entry) → IsTableEntry over e → new.target e ≡ over.target e
  target_same e h =
      let at = are.all e h in
      let count : length (map over.target es) ≡ length es = length-map es over.target in
      let f = target_found es (map over.target es) e at.0 at.1 at.2 (omega (arith, count)) in
      f.target ∙ (get_or-map over.target es f.place e 0 f.within ∙ ap over.target f.is)

  accepting_same : (c : ℕ) → c < length over.presences → new.accepting c ≡ over.accepting c
  accepting_same c b = get_or-tabulate (count_of classes) over.accepting c false (omega (arith, class_count (listed_table l) classes is.table m))

  -- a tuple has one state in both
  state_same : (t : Tuple) → IsTuple l.signature l.columns t → state_of new t ≡ state_of over t
  state_same = tuple_induction (λ t. IsTuple l.signature l.columns t → state_of new t ≡ state_of over t)
      (λ t ih h.
      let us = kids t in
      let count : length us ≡ kid_count t = length-tabulate (kid_count t) (kid t) in
      let below : map (state_of new) us ≡ map (state_of over) us =
      ext_get_or 0 (map (state_of new) us) (map (state_of over) us) (length-map us (state_of new) ∙ sym (length-map us (state_of over)))
      (λ j b.
      let k : j < length us = omega (arith, length-map us (state_of new)) in
      let at : get_or us j [] ≡ kid t j = get_or-tabulate (kid_count t) (kid t) j [] (omega (arith, count)) in
      get_or-map (state_of new) us j [] 0 k
      ∙ (ap (state_of new) at
      ∙ (ih j (omega (arith, count)) (IsTuple-kid l.signature l.columns t j h (omega (arith, count)))
      ∙ (ap (state_of over) (sym at) ∙ sym (get_or-map (state_of over) us j [] 0 k))))) in
      fold_tuple-step (λ f ks. new.target (entry f ks)) t
      ∙ (ap (λ ks. new.target (entry (root t) ks)) below
      ∙ (target_same (entry_of (state_of over) t) (IsTableEntry-states over lawful t h)
      ∙ sym (fold_tuple-step (λ f ks. over.target (entry f ks)) t))))

  target_at : (k : ℕ) (d : Entry) → k < length es → get_or (map over.target es) k 0 ≡ over.target (get_or es k d)
  target_at k d b = get_or-map over.target es k d 0 b

  -- an entry that comes before the one at a place stands before it
  stands_before : (a d : Entry) (i j : ℕ) → i < length es → j < length es → get_or es i d ≡ a → ComesBefore a (get_or es j d) → i < j
  stands_before a d i j li lj at h = ⊎_elim
      (λ r. r)
      (λ r. absurd (⊎_elim
      (λ s. before_irrefl a (before_trans a (get_or es j d) a h (subst (λ (y : Entry). ComesBefore (get_or es j d) y) at (are.order.order j i d s li))))
      (λ s. let same : j ≡ i = omega arith in
      before_irrefl (get_or es j d) (subst (λ (y : Entry). ComesBefore y (get_or es j d)) (sym at ∙ ap (λ n. get_or es n d) (sym same)) h))
      (cases_lt j i)))
      (cases_lt i j)

  -- where an entry has a greater target, an earlier one has this target
  given_earlier : (c j : ℕ) (d : Entry) → j < length es → c < over.target (get_or es j d) → (i : ℕ) × (i < j) × (get_or (map over.target es) i 0 ≡ c)
  given_earlier c j d b greater =
      let g = class_given_before l classes is m (get_or es j d) c (are.order.are j d b) greater in
      let there = are.all g.earlier g.is_entry in
      let at : get_or es there.0 d ≡ g.earlier = get_or_default es there.0 d g.earlier there.1 ∙ there.2 in
      (there.0, stands_before g.earlier d there.0 j there.1 b at g.before, target_at there.0 d there.1 ∙ (ap over.target at ∙ g.target))

  -- the first entry of a class, if there is one
  first_with : (c k : ℕ) → k < length es → get_or (map over.target es) k 0 ≡ c → (e : Entry) × IsFirstWith es (map over.target es) c e
  first_with c k b at =
      let qs = map over.target es in
      let count : length qs ≡ length es = length-map es over.target in
      let p = position_or_len (λ n. n == c) qs in
      let other : (j : ℕ) → j < p → get_or qs j 0 ≡ c → ⊥ = λ j a. apart_from_test (get_or qs j 0) c (fails_before_first (λ n. n == c) qs j 0 a) in
      let low : p ≤ k = ⊎_elim (λ a. absurd (other k a at)) (λ a. a) (cases_lt k p) in
      let d = no_entry l.columns in
      let here : p < length es = omega arith in (
        get_or es p d,
        record {
          place = p;
          within = omega (arith, count);
          target = equal_from_test (get_or qs p 0) c (passes_at_first (λ n. n == c) qs 0 (omega (arith, count)));
          before = λ j a.
              let within : j < length es = omega arith in
              ⊎_elim
              (λ less. less)
              (λ more. absurd (⊎_elim
              (λ greater. let g = given_earlier c j d within (omega (arith, target_at j d within)) in other g.0 (omega (arith, g.1)) g.2)
              (λ same. other j a (omega arith))
              (cases_lt c (get_or qs j 0))))
              (cases_lt (get_or qs j 0) c);
          is = λ x. get_or_default es p x d here;
        },
      )

  -- Result
  pub listed_merged : IsListed (listed_merge (listed_table l) classes es)
  listed_merged = record {
    order = are.order;
    all = are.all;
    count = length-map es over.target;
    table = record {
      some = lawful.some;
      narrow = lawful.narrow;
      within = λ e h. omega (arith, target_same e h, lawful.within e h);
      presence = λ e h. ap (λ q. get_or over.presences q 0) (target_same e h) ∙ lawful.presence e h;
      full = λ q b a. lawful.full q b (sym (accepting_same q b) ∙ a);
    };
    reached = λ q b.
        let u = IsReached-merged (listed_table l) classes is.table m is.reached q b in
        (u.0, u.1, state_same u.0 u.1 ∙ u.2);
    numbered = λ c b.
        let u = IsReached-merged (listed_table l) classes is.table m is.reached c b in
        let e = entry_of (state_of over) u.0 in
        let h = IsTableEntry-states over lawful u.0 u.1 in
        let at = are.all e h in
        first_with c at.0 at.1
        (get_or-map over.target es at.0 e 0 at.1 ∙ (ap over.target at.2 ∙ (sym (fold_tuple-step (λ f ks. over.target (entry f ks)) u.0) ∙ u.2)));
  }
