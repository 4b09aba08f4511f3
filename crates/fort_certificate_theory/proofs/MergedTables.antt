-- The table that a merge leaves, by its entries in their order: it is lawful, gives a tuple the class of its old state, and answers what the table answered; states are numbered as they come.
use Rattle.std.proofs.Common.{◌≡◌, ℕ, ◌<◌, List, [], map, length, get_or, false, ap, sym, ◌∙◌, arith, subst, ⊎_elim}
use Rattle.std.proofs.lemmas.Bool.{cases_lt}
use Rattle.std.proofs.lemmas.List.{length-map, get_or-map, get_or_default, ext_get_or}
use Rattle.fort_theory.specs.Signatures.{Signature}
use Rattle.fort_theory.specs.Patterns.{PatternSystem}
use Rattle.fort_theory.specs.Cores.{Core}
use Rattle.fort_theory.specs.PatternStructures.{pattern_structure}
use Rattle.fort_tables.specs.Tuples.{Tuple, tabulate, root, kid, kids, kid_count, IsTuple}
use Rattle.fort_tables.specs.Entries.{Entry, entry, no_entry, IsEntry, ComesBefore}
use Rattle.fort_tables.specs.Tables.{Table, Listed, listed_table, IsTable, IsTableEntry, IsReached, IsListed, IsFirstWith, state_of}
use Rattle.fort_tables.proofs.NumberLaws.{listed_target as target_listed}
use Rattle.fort_tables.proofs.OrderLaws.{before_irrefl, before_trans}
use Rattle.fort_tables.proofs.TupleLaws.{tuple_induction, fold_tuple-step, IsTuple-kid, length-tabulate, get_or-tabulate}
use Rattle.fort_tables.proofs.TableLaws.{table_state, entry_of}
use Rattle.fort_tables.specs.Merges.{class_of, first_of, count_of, IsMerge, merged}
use Rattle.fort_tables.specs.MergeOutcomes.{AreEntriesOf}
use Rattle.fort_tables.proofs.MergeLaws.{class_count, IsTable-merged, state_of-merged, IsReached-merged, accepting-merged}
use Rattle.fort_tables.proofs.NumberedClasses.{first_below, first_has}
use Rattle.fort_tables.proofs.SeparationLaws.{IsTableEntry-states}
use Rattle.fort_tables.proofs.ClassOrderLaws.{class_given_before}
use Rattle.fort_alike.specs.AssignedTuples.{tuple_of}
use Rattle.fort_parts.specs.PartColumns.{columns_of}
use Rattle.fort_parts.specs.PartAnswers.{OfTable, IsAnswerTo}
use Rattle.fort_parts.proofs.AssignedColumns.{AreTerms-tuple_of}
use Rattle.fort_parts.proofs.StepTables.{IsTuple-terms}
use Rattle.fort_certificate_theory.specs.MergeSteps.{listed_merge}
use Rattle.fort_certificate_theory.proofs.WrittenMerges.{mapped_target}

module _ (table : Table) (classes : List ℕ) (entries : List Entry) (is : IsTable table) (m : IsMerge table classes) (are : AreEntriesOf (merged table classes) entries) where
  abbrev between : Table
  between = merged table classes

  abbrev left : Table
  left = listed_table (listed_merge table classes entries)

  lawful : IsTable between
  lawful = IsTable-merged table classes is m

  -- Result: its entries lead to the classes that the merge's do, and its states accept what classes accept
  pub listed_target : (e : Entry) → IsTableEntry (merged table classes) e → (listed_table (listed_merge table classes entries)).target e ≡ (merged table classes).target e
  listed_target e h = mapped_target between.target entries e (are.all e h)

  pub listed_accepting : (c : ℕ) → c < count_of classes → (listed_table (listed_merge table classes entries)).accepting c ≡ (merged table classes).accepting c
  listed_accepting c l = get_or-tabulate (count_of classes) between.accepting c false l

  -- Result: one truth for each state
  pub finals_count : length (listed_merge table classes entries).finals ≡ length (listed_merge table classes entries).presences
  finals_count = length-tabulate (count_of classes) between.accepting ∙ sym (class_count table classes is m)

  -- Result: it is lawful
  pub IsTable-listed_merge : IsTable (listed_table (listed_merge table classes entries))
  IsTable-listed_merge = record {
    some = lawful.some;
    narrow = lawful.narrow;
    within = λ e h. omega (arith, listed_target e h, lawful.within e h);
    presence = λ e h. ap (λ q. get_or between.presences q 0) (listed_target e h) ∙ lawful.presence e h;
    full = λ c l a. lawful.full c l (sym (listed_accepting c (omega (arith, class_count table classes is m))) ∙ a);
  }

  -- Result: a tuple has one state in both, the class of its old one
  pub state_same : (t : Tuple) → IsTuple table.signature table.columns t → state_of (listed_table (listed_merge table classes entries)) t ≡ state_of (merged table classes) t
  state_same = tuple_induction (λ t. IsTuple table.signature table.columns t → state_of left t ≡ state_of between t)
      (λ t ih h.
      let us = kids t in
      let count : length us ≡ kid_count t = length-tabulate (kid_count t) (kid t) in
      let below : map (state_of left) us ≡ map (state_of between) us =
      ext_get_or 0 (map (state_of left) us) (map (state_of between) us) (length-map us (state_of left) ∙ sym (length-map us (state_of between)))
      (λ j l.
      let k : j < length us = omega (arith, length-map us (state_of left)) in
      let at : get_or us j [] ≡ kid t j = get_or-tabulate (kid_count t) (kid t) j [] (omega (arith, count)) in
      get_or-map (state_of left) us j [] 0 k
      ∙ (ap (state_of left) at
      ∙ (ih j (omega (arith, count)) (IsTuple-kid table.signature table.columns t j h (omega (arith, count)))
      ∙ (ap (state_of between) (sym at) ∙ sym (get_or-map (state_of between) us j [] 0 k))))) in
      fold_tuple-step (λ f ks. left.target (entry f ks)) t
      ∙ (ap (λ ks. left.target (entry (root t) ks)) below
      ∙ (listed_target (entry_of (state_of between) t) (IsTableEntry-states between lawful t h)
      ∙ sym (fold_tuple-step (λ f ks. between.target (entry f ks)) t))))

  pub state_of-listed_merge : (t : Tuple) → IsTuple table.signature table.columns t → state_of (listed_table (listed_merge table classes entries)) t ≡ class_of classes (state_of table t)
  state_of-listed_merge t h = state_same t h ∙ state_of-merged table classes is m t h

  -- Result: each state is reached, and tuples are accepted as before
  pub IsReached-listed_merge : IsReached table → IsReached (listed_table (listed_merge table classes entries))
  IsReached-listed_merge reached c l = let u = IsReached-merged table classes is m reached c l in (u.0, u.1, state_same u.0 u.1 ∙ u.2)

  pub accepting-listed_merge : (t : Tuple) → IsTuple table.signature table.columns t
      → (listed_table (listed_merge table classes entries)).accepting (state_of (listed_table (listed_merge table classes entries)) t) ≡ table.accepting (state_of table t)
  accepting-listed_merge t h =
      ap left.accepting (state_same t h)
      ∙ (listed_accepting (state_of between t) (omega (arith, (table_state between lawful t h).within, class_count table classes is m))
      ∙ accepting-merged table classes is m t h)

-- Result: what a merge leaves answers what the table answered, whatever the classes are
pub IsAnswerTo-listed_merge : (system : PatternSystem) (f : Core) (table : Table) (classes : List ℕ) (entries : List Entry) → IsAnswerTo (pattern_structure system) f (OfTable table)
    → IsMerge table classes → AreEntriesOf (merged table classes) entries → IsAnswerTo (pattern_structure system) f (OfTable (listed_table (listed_merge table classes entries)))
IsAnswerTo-listed_merge system f table classes entries answers m are = record {
  over = record {
    some = answers.over.some;
    signature = answers.over.signature;
    columns_are = answers.over.columns_are;
    lawful = IsTable-listed_merge table classes entries answers.over.lawful m are;
    reached = IsReached-listed_merge table classes entries answers.over.lawful m are answers.over.reached;
  };
  truth = λ v g.
      let t = tuple_of v (columns_of f) in
      let is : IsTuple table.signature table.columns t =
      subst (λ (s : Signature). IsTuple s table.columns t) (sym answers.over.signature)
      (subst (λ k. IsTuple system.signature k t) (sym answers.over.columns_are) (IsTuple-terms system.signature (length (columns_of f)) t answers.over.some (AreTerms-tuple_of system.signature v (columns_of f) g))) in
      let e = accepting-listed_merge table classes entries answers.over.lawful m are t is in
      let old = answers.truth v g in
      ((λ a. old.0 (sym e ∙ a)), (λ h. e ∙ old.1 h));
}

-- ---- states numbered as they come

module _ (l : Listed) (classes : List ℕ) (entries : List Entry) (is : IsListed l) (m : IsMerge (listed_table l) classes)
    (are : AreEntriesOf (merged (listed_table l) classes) entries) where
  abbrev old : Table
  old = listed_table l

  abbrev targets : List ℕ
  targets = (listed_merge old classes entries).targets

  targets_count : length targets ≡ length entries
  targets_count = length-map entries (merged old classes).target

  target_at : (e : Entry) (k : ℕ) → k < length entries → get_or entries k e ≡ e → get_or targets k 0 ≡ (merged old classes).target e
  target_at e k b at = get_or-map (merged old classes).target entries k e 0 b ∙ ap (merged old classes).target at

  place_before : (x : Entry) (i j : ℕ) (d : Entry) → i < length entries → j < length entries → get_or entries i x ≡ x → ComesBefore x (get_or entries j d) → i < j
  place_before x i j d li lj at h =
      let here : get_or entries i d ≡ x = get_or_default entries i d x li ∙ at in
      ⊎_elim (λ (b : i < j). b)
      (λ b. ⊎_elim
      (λ (a : j < i). absurd (before_irrefl x (before_trans x (get_or entries j d) x h (subst (ComesBefore (get_or entries j d)) here (are.order.order j i d a li)))))
      (λ a. let same : i ≡ j = omega arith in absurd (before_irrefl x (subst (ComesBefore x) (ap (λ k. get_or entries k d) (sym same) ∙ here) h)))
      (cases_lt j i))
      (cases_lt i j)

  -- no target before the first one of a class is as great
  none_greater : (c j : ℕ) → j < length entries → j < first_of targets c → c < get_or targets j 0 → ⊥
  none_greater c j b before great =
      let d = no_entry old.columns in
      let e = get_or entries j d in
      let at = target_at e j b (get_or_default entries j e d b) in
      let given = class_given_before l classes is m e c (are.order.are j d b) (omega (arith, at)) in
      let place = are.all given.earlier given.is_entry in
      let low = place_before given.earlier place.0 j d place.1 b place.2 given.before in
      let same : get_or targets place.0 0 ≡ c = target_at given.earlier place.0 place.1 place.2 ∙ given.target in
      omega (arith, first_below targets place.0 (omega (arith, targets_count, place.1)), ap (first_of targets) same)

  first_given : (c : ℕ) → c < length (merged old classes).presences → (e : Entry) × IsFirstWith entries targets c e
  first_given c low =
      let u = IsReached-merged old classes is.table m is.reached c low in
      let e = entry_of (state_of (merged old classes)) u.0 in
      let place = are.all e (IsTableEntry-states (merged old classes) (IsTable-merged old classes is.table m) u.0 u.1) in
      let same : get_or targets place.0 0 ≡ c =
      target_at e place.0 place.1 place.2 ∙ (sym (fold_tuple-step (λ f ks. (merged old classes).target (entry f ks)) u.0) ∙ u.2) in
      let some : first_of targets c < length targets = omega (arith, first_below targets place.0 (omega (arith, targets_count, place.1)), ap (first_of targets) same, targets_count, place.1) in
      let d = no_entry old.columns in
      let first : IsFirstWith entries targets c (get_or entries (first_of targets c) d) = record {
        place = first_of targets c;
        within = some;
        target = first_has targets c some;
        before = λ j b.
            let k : j < length entries = omega (arith, some, targets_count) in
            ⊎_elim (λ (a : get_or targets j 0 < c). a)
            (λ a. ⊎_elim
            (λ (g : c < get_or targets j 0). absurd (none_greater c j k b g))
            (λ g. let equal : get_or targets j 0 ≡ c = omega arith in absurd (omega (arith, first_below targets j (omega (arith, targets_count)), ap (first_of targets) equal)))
            (cases_lt c (get_or targets j 0)))
            (cases_lt (get_or targets j 0) c);
        is = λ x. get_or_default entries (first_of targets c) x d (omega (arith, some, targets_count));
      } in
      (get_or entries (first_of targets c) d, first)

  -- Result
  pub IsListed-listed_merge : IsListed (listed_merge (listed_table l) classes entries)
  IsListed-listed_merge = record {
    order = are.order;
    all = are.all;
    count = targets_count;
    table = IsTable-listed_merge old classes entries is.table m are;
    reached = IsReached-listed_merge old classes entries is.table m are is.reached;
    numbered = first_given;
  }

-- what is listed is what the merge leaves
pub record IsMergeListed (old : Table) (classes : List ℕ) (new : Listed) : Type 0 where
  pub entries_are : AreEntriesOf (merged old classes) new.entries
  pub is : listed_merge old classes new.entries ≡ new

-- Result: a listed table with the classes' states, targets and accepting states is
pub listed_from_table : (old : Table) (classes : List ℕ) (new : Listed) → new.signature ≡ old.signature → new.columns ≡ old.columns → new.presences ≡ (merged old classes).presences
    → ((e : Entry) → IsTableEntry (merged old classes) e → (listed_table new).target e ≡ (merged old classes).target e)
    → ((c : ℕ) → c < count_of classes → (listed_table new).accepting c ≡ (merged old classes).accepting c)
    → IsListed new → length new.finals ≡ length new.presences → IsMergeListed old classes new
listed_from_table old classes new signature columns presences same accepting is count =
    let between = merged old classes in
    let d = no_entry new.columns in
    let there : (e : Entry) → IsTableEntry (listed_table new) e → IsTableEntry between e =
    λ e h. subst (λ (s : Signature). IsEntry s old.columns between.presences e) signature
    (subst (λ n. IsEntry new.signature n between.presences e) columns (subst (λ ps. IsEntry new.signature new.columns ps e) presences h)) in
    let are : AreEntriesOf between new.entries =
    subst (λ (s : Signature). AreEntriesOf (record { signature = s; columns = old.columns; presences = between.presences; target = between.target; accepting = between.accepting }) new.entries) signature
    (subst (λ n. AreEntriesOf (record { signature = new.signature; columns = n; presences = between.presences; target = between.target; accepting = between.accepting }) new.entries) columns
    (subst (λ ps. AreEntriesOf (record { signature = new.signature; columns = new.columns; presences = ps; target = between.target; accepting = between.accepting }) new.entries) presences
    (record { order = is.order; all = is.all }))) in
    let targets : map between.target new.entries ≡ new.targets =
    ext_get_or 0 (map between.target new.entries) new.targets (length-map new.entries between.target ∙ sym is.count)
    (λ k l.
    let b : k < length new.entries = omega (arith, length-map new.entries between.target) in
    get_or-map between.target new.entries k d 0 b
    ∙ (sym (same (get_or new.entries k d) (there (get_or new.entries k d) (is.order.are k d b))) ∙ target_listed new k is (omega (arith, is.count)))) in
    let classes_count : length between.presences ≡ count_of classes = length-tabulate (count_of classes) (λ c. get_or old.presences (first_of classes c) 0) in
    let states : length new.presences ≡ count_of classes = ap length presences ∙ classes_count in
    let finals : tabulate (count_of classes) between.accepting ≡ new.finals =
    ext_get_or false (tabulate (count_of classes) between.accepting) new.finals (length-tabulate (count_of classes) between.accepting ∙ sym (count ∙ states))
    (λ c l.
    let b : c < count_of classes = omega (arith, length-tabulate (count_of classes) between.accepting) in
    get_or-tabulate (count_of classes) between.accepting c false b ∙ sym (accepting c b)) in
    record {
      entries_are = are;
      is = λ i. record {
        signature = sym signature i;
        columns = sym columns i;
        presences = sym presences i;
        entries = new.entries;
        targets = targets i;
        finals = finals i;
      };
    }
