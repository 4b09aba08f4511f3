-- What is kept of the first states, and the targets over classes, are the table of the classes.
use Rattle.std.proofs.Common.{◌≡◌, ℕ, zero, suc, ◌<◌, ◌≤◌, List, [], ◌∷◌, map, filter, cond, length, get_or, Bool, true, false, refl, ap, sym, ◌∙◌, arith, subst, take_all}
use Rattle.std.proofs.lemmas.List.{length-map, ext_get_or}
use Rattle.fort_tables.specs.Tuples.{tabulate}
use Rattle.fort_tables.specs.Entries.{Entry, stage}
use Rattle.fort_tables.specs.Tables.{Table, Listed, listed_table, IsListed}
use Rattle.fort_tables.proofs.NumberLaws.{first_before_greater}
use Rattle.fort_tables.proofs.OrderLaws.{kid_below}
use Rattle.fort_tables.proofs.TupleLaws.{length-tabulate, get_or-tabulate}
use Rattle.fort_tables.specs.Laid.{all_entries}
use Rattle.fort_tables.proofs.AllEntries.{entries_unique}
use Rattle.fort_tables.specs.Merges.{class_of, count_of, merged, IsMerge}
use Rattle.fort_tables.specs.MergeOutcomes.{AreEntriesOf}
use Rattle.fort_tables.proofs.MergeLaws.{presence-class, class_count}
use Rattle.fort_certificate_theory.specs.MergeSteps.{listed_merge}
use Rattle.fort_check_merges.specs.KeptTargets.{is_led, kept_targets}
use Rattle.fort_check_merges.specs.Leaders.{AreLeadersTo}
use Rattle.fort_check_merges.proofs.KeptEntries.{kept, entries_kept, targets_kept}
use Rattle.fort_check_merges.proofs.MergedTable.{listed_merged}

-- ---- how many states and targets there are

first_place_late : (t : Listed) (is : IsListed t) (q : ℕ) (l : q < length t.presences) → q ≤ (is.numbered q l).1.place
first_place_late t is zero l = omega arith
first_place_late t is (suc p) l =
    let low : p < length t.presences = omega arith in
    let here = is.numbered p low in
    let next = is.numbered (suc p) l in
    omega (arith, first_place_late t is p low, first_before_greater t.entries t.targets p next.1.place here.0 here.1 (omega (arith, next.1.target)))

states_below : (t : Listed) → IsListed t → (n : ℕ) → length t.presences ≡ n → (n ≤ length t.targets) × (n ≤ stage t.targets)
states_below t is zero e = (omega arith, omega arith)
states_below t is (suc q) e =
    let l : q < length t.presences = omega arith in
    let first = (is.numbered q l).1 in
    (omega (arith, first_place_late t is q l, first.within), omega (arith, first.target, kid_below t.targets first.place first.within))

-- Result: a listed table has no more states than its targets make
pub states_few : (t : Listed) → IsListed t → (length t.presences ≤ length t.targets) × (length t.presences ≤ stage t.targets)
states_few t is = states_below t is (length t.presences) refl

filtered_few : (p : Entry → Bool) (es : List Entry) → length (filter p es) ≤ length es
filtered_few p [] = omega arith
filtered_few p (e ∷ es) = by (p e) (filtered_few p es)
  where
    by : (b : Bool) → length (filter p es) ≤ length es → length (cond b (e ∷ filter p es) (filter p es)) ≤ length (e ∷ es)
    by true h = omega arith
    by false h = omega arith

-- Result: nor are there more targets over classes
pub kept_few : (table : Table) (classes : List ℕ) (es : List Entry) → length (kept_targets table classes es) ≤ length es
kept_few table classes es = omega (arith, length-map (filter (is_led classes) es) (λ (e : Entry). class_of classes (table.target e)), filtered_few (is_led classes) es)

module _ (l : Listed) (classes leaders ps : List ℕ) (fs : List Bool) (is : IsListed l) (m : IsMerge (listed_table l) classes) (h : AreLeadersTo classes (length classes) leaders)
    (ps_count : length ps ≡ length leaders) (ps_are : (c d : ℕ) → c < length leaders → get_or ps c d ≡ get_or l.presences (get_or leaders c 0) d)
    (fs_count : length fs ≡ length leaders) (fs_are : (c : ℕ) (d : Bool) → c < length leaders → get_or fs c d ≡ get_or l.finals (get_or leaders c 0) d) where
  abbrev over : Table
  over = merged (listed_table l) classes

  abbrev entries : List Entry
  entries = all_entries l.signature l.columns ps

  class_leaders : length leaders ≡ count_of classes
  class_leaders = h.count ∙ ap count_of (take_all (length classes) classes (omega arith))

  presences_same : ps ≡ over.presences
  presences_same = ext_get_or 0 ps over.presences (ps_count ∙ (class_leaders ∙ sym (class_count (listed_table l) classes is.table m)))
      (λ c b. let low : c < length leaders = omega (arith, ps_count) in
      ps_are c 0 low ∙ (ap (λ q. get_or l.presences q 0) (h.are c low) ∙ sym (presence-class (listed_table l) classes is.table m c (omega (arith, class_leaders)))))

  finals_same : fs ≡ tabulate (count_of classes) over.accepting
  finals_same = ext_get_or false fs (tabulate (count_of classes) over.accepting) (fs_count ∙ (class_leaders ∙ sym (length-tabulate (count_of classes) over.accepting)))
      (λ c b. let low : c < length leaders = omega (arith, fs_count) in
      fs_are c false low ∙ (ap (λ q. get_or l.finals q false) (h.are c low) ∙ sym (get_or-tabulate (count_of classes) over.accepting c false (omega (arith, class_leaders)))))

  entries_same : kept classes l.entries ≡ entries
  entries_same =
      let k = entries_kept l classes is m in
      entries_unique l.signature l.columns over.presences (kept classes l.entries) k.order k.all ∙ ap (all_entries l.signature l.columns) (sym presences_same)

  -- Result
  pub merged_entries : AreEntriesOf over entries
  merged_entries = subst (AreEntriesOf over) entries_same (entries_kept l classes is m)

  targets_same : kept_targets (listed_table l) classes l.entries ≡ map over.target entries
  targets_same = sym (targets_kept l classes is m) ∙ ap (map over.target) entries_same

  abbrev pub kept_table : Listed
  kept_table = record {
    signature = l.signature;
    columns = l.columns;
    presences = ps;
    entries = entries;
    targets = kept_targets (listed_table l) classes l.entries;
    finals = fs;
  }

  -- Result
  pub merged_table : kept_table ≡ listed_merge (listed_table l) classes entries
  merged_table = λ i. record {
    signature = l.signature;
    columns = l.columns;
    presences = presences_same i;
    entries = entries;
    targets = targets_same i;
    finals = finals_same i;
  }

  -- Result
  pub merged_listed : IsListed kept_table
  merged_listed = subst IsListed (sym merged_table) (listed_merged l classes is m entries merged_entries)
