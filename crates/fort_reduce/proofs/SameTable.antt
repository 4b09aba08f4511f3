-- Where there are as many classes as states the table of the classes is the table.
use Rattle.std.proofs.Common.{◌≡◌, ℕ, zero, suc, ◌+◌, ◌-◌, ◌<◌, ◌≤◌, List, map, take, length, get_or, Bool, false, true, ap, sym, ◌∙◌, arith, take_all, take-suc}
use Rattle.std.proofs.lemmas.List.{length-map, get_or-map, ext_get_or}
use Rattle.fort_tables.specs.Entries.{Entry, entry}
use Rattle.fort_tables.specs.Tables.{Listed, listed_table, IsListed, IsTableEntry, full_presence}
use Rattle.fort_lockstep.specs.OtherFinals.{with_finals}
use Rattle.fort_tables.specs.Merges.{class_of, first_of, count_of, lifted, AreNumbered, IsMerge, merged}
use Rattle.fort_tables.proofs.NumberedClasses.{stage-push, first_within, first_class}
use Rattle.fort_tables.proofs.MergeLaws.{presence-class, class_count}
use Rattle.fort_reduce.specs.MergedTables.{IsMergedTable}
use Rattle.fort_reduce.proofs.FirstLists.{count_to}

-- each state adds at most one
count_from : (classes : List ℕ) → AreNumbered classes → (q k : ℕ) → q + k ≤ length classes → count_of (take (q + k) classes) ≤ count_of (take q classes) + k
count_from classes h q zero l = let e : q + 0 ≡ q = omega arith in omega (arith, ap (λ n. count_of (take n classes)) e)
count_from classes h q (suc k) l =
    let e : q + suc k ≡ suc (q + k) = omega arith in
    omega (
      arith,
      ap (λ n. count_of (take n classes)) e,
      ap count_of (take-suc classes (q + k) 0 (omega arith)),
      stage-push (take (q + k) classes) (class_of classes (q + k)),
      h (q + k) (omega arith),
      count_from classes h q k (omega arith),
    )

module _ (classes : List ℕ) (h : AreNumbered classes) (all : count_of classes ≡ length classes) where
  own_count : (q : ℕ) → q ≤ length classes → count_of (take q classes) ≡ q
  own_count q l =
      let k = length classes - q in
      let e : q + k ≡ length classes = omega arith in
      let whole : count_of (take (q + k) classes) ≡ length classes = ap count_of (take_all (q + k) classes (omega arith)) ∙ all in
      omega (arith, whole, count_from classes h q k (omega arith), count_to classes h q l)

  pub own_class : (q : ℕ) → q < length classes → class_of classes q ≡ q
  own_class q l =
      omega (
        arith,
        own_count q (omega arith),
        own_count (suc q) (omega arith),
        ap count_of (take-suc classes q 0 l),
        stage-push (take q classes) (class_of classes q),
        h q l,
      )

  pub own_first : (c : ℕ) → c < length classes → first_of classes c ≡ c
  own_first c l =
      let low : c < count_of classes = omega (arith, all) in
      sym (own_class (first_of classes c) (first_within classes c h low)) ∙ first_class classes c h low

module _ (l : Listed) (classes : List ℕ) (is : IsListed l) (m : IsMerge (listed_table l) classes) (all : count_of classes ≡ length classes) where
  pub same_full : (finals : List Bool) → ((c : ℕ) → c < count_of classes → get_or finals c false ≡ get_or l.finals (first_of classes c) false)
      → (q : ℕ) → q < length l.presences → get_or finals q false ≡ true → get_or l.presences q 0 ≡ full_presence l.columns
  same_full finals are q b a =
      let low : q < length classes = omega (arith, m.count) in
      let own : get_or finals q false ≡ get_or l.finals q false = are q (omega (arith, all)) ∙ ap (λ s. get_or l.finals s false) (own_first classes m.numbered all q low) in
      is.table.full q b (sym own ∙ a)

  -- Result
  pub same_made : (t : Listed) (finals : List Bool) → t ≡ with_finals l finals → ((c : ℕ) → c < count_of classes → get_or finals c false ≡ get_or l.finals (first_of classes c) false)
      → IsMergedTable (listed_table l) classes (listed_table t)
  same_made t finals same are = record {
    signature = ap (λ (a : Listed). a.signature) same;
    columns_are = ap (λ (a : Listed). a.columns) same;
    presences = ap (λ (a : Listed). a.presences) same ∙ ext_get_or 0 l.presences (merged (listed_table l) classes).presences
        (omega (arith, m.count, all, class_count (listed_table l) classes is.table m))
        (λ c b. let low : c < length classes = omega (arith, m.count) in
        ap (λ s. get_or l.presences s 0) (sym (own_first classes m.numbered all c low)) ∙ sym (presence-class (listed_table l) classes is.table m c (omega (arith, all))));
    targets = λ e i.
        let kids : map (first_of classes) e.kids ≡ e.kids = ext_get_or 0 (map (first_of classes) e.kids) e.kids (length-map e.kids (first_of classes))
        (λ j b. let k : j < length e.kids = omega (arith, length-map e.kids (first_of classes)) in
        get_or-map (first_of classes) e.kids j 0 0 k ∙ own_first classes m.numbered all (get_or e.kids j 0) (omega (arith, all, class_count (listed_table l) classes is.table m, i.within j k))) in
        let up : lifted classes e ≡ e = ap (entry e.symbol) kids in
        let there : IsTableEntry (listed_table l) e = record {
          symbol = i.symbol;
          count = i.count;
          within = λ j b. omega (arith, all, m.count, class_count (listed_table l) classes is.table m, i.within j b);
          presence = λ j b. let low : get_or e.kids j 0 < length classes = omega (arith, all, class_count (listed_table l) classes is.table m, i.within j b) in
              ap (λ s. get_or l.presences s 0) (sym (own_first classes m.numbered all (get_or e.kids j 0) low)) ∙ (sym (presence-class (listed_table l) classes is.table m (get_or e.kids j 0) (omega (arith, all))) ∙ i.presence j b);
        } in
        let own : class_of classes ((listed_table l).target e) ≡ (listed_table l).target e = own_class classes m.numbered all ((listed_table l).target e) (omega (arith, m.count, is.table.within e there)) in
        ap (λ (a : Listed). (listed_table a).target e) same ∙ (sym own ∙ ap (λ (x : Entry). class_of classes ((listed_table l).target x)) (sym up));
    accepting = λ c b. ap (λ (a : Listed). get_or a.finals c false) same ∙ are c b;
  }
