-- Where there are as many classes as states, each state is its own class: that is a merge, and the table stays as it is.
use Rattle.std.proofs.Common.{◌≡◌, ℕ, zero, suc, ◌+◌, ◌-◌, ◌<◌, ◌≤◌, List, [], ◌∷◌, map, filter, cond, length, get_or, Bool, true, refl, ap, sym, ◌∙◌, arith, take_all}
use Rattle.std.specs.Prelude.{Contains}
use Rattle.std.proofs.lemmas.List.{length-map, get_or-map, ext_get_or}
use Rattle.std.proofs.lemmas.List.Elements.{All-contains}
use Rattle.fort_theory.proofs.Members.{Contains-head, Contains-behind}
use Rattle.fort_tables.specs.Entries.{Entry, entry, no_entry}
use Rattle.fort_tables.specs.Tables.{Listed, listed_table, IsListed, IsTableEntry}
use Rattle.fort_tables.proofs.NumberLaws.{listed_target}
use Rattle.fort_tables.specs.Merges.{class_of, first_of, count_of, leader, AreNumbered, IsMerge}
use Rattle.fort_tables.proofs.NumberedClasses.{first_within, first_class}
use Rattle.fort_tables.proofs.ClassOrderLaws.{first_ascends}
use Rattle.fort_check_merges.specs.KeptTargets.{is_led, kept_targets}
use Rattle.fort_check_merges.specs.Leaders.{AreClassed}
use Rattle.fort_check_merges.proofs.KeptEntries.{led_from_kids}

all_pass : (p : Entry → Bool) (es : List Entry) → ((e : Entry) → Contains es e → p e ≡ true) → filter p es ≡ es
all_pass p [] h = refl
all_pass p (e ∷ es) h =
    ap (λ b. cond b (e ∷ filter p es) (filter p es)) (h e (Contains-head e es)) ∙ ap (λ xs. e ∷ xs) (all_pass p es (λ x c. h x (Contains-behind e es x c)))

module _ (l : Listed) (classes leaders : List ℕ) (is : IsListed l) (c : AreClassed (listed_table l) classes leaders) (all : length leaders ≡ length classes) where
  numbered : AreNumbered classes
  numbered q b = (c.right.right q b).numbered

  count_all : count_of classes ≡ length classes
  count_all = sym (ap count_of (take_all (length classes) classes (omega arith))) ∙ (sym c.firsts.count ∙ all)

  climb : (q k : ℕ) → q + k < count_of classes → first_of classes q + k ≤ first_of classes (q + k)
  climb q zero b = let e : q + 0 ≡ q = omega arith in omega (arith, ap (first_of classes) e)
  climb q (suc k) b =
      let e : q + suc k ≡ suc (q + k) = omega arith in
      omega (arith, climb q k (omega arith), first_ascends classes (q + k) (q + suc k) numbered (omega arith) b)

  own_first : (q : ℕ) → q < length classes → first_of classes q ≡ q
  own_first q b =
      let k = length classes - suc q in
      let last : q + k < count_of classes = omega (arith, count_all) in
      let low : q < length leaders = omega (arith, all) in
      omega (arith, climb q k last, first_within classes (q + k) numbered last, c.firsts.are q low, c.firsts.late q low)

  own_class : (q : ℕ) → q < length classes → class_of classes q ≡ q
  own_class q b = ap (class_of classes) (sym (own_first q b)) ∙ first_class classes q numbered (omega (arith, count_all))

  own_leader : (q : ℕ) → q < length classes → leader classes q ≡ q
  own_leader q b = ap (first_of classes) (own_class q b) ∙ own_first q b

  led_same : (e : Entry) → IsTableEntry (listed_table l) e → map (leader classes) e.kids ≡ e.kids
  led_same e h = ext_get_or 0 (map (leader classes) e.kids) e.kids (length-map e.kids (leader classes))
      (λ j b. let k : j < length e.kids = omega (arith, length-map e.kids (leader classes)) in
      get_or-map (leader classes) e.kids j 0 0 k ∙ own_leader (get_or e.kids j 0) (omega (arith, c.right.count, h.within j k)))

  -- Result
  pub unjoined_merge : IsMerge (listed_table l) classes
  unjoined_merge = record {
    count = c.right.count;
    numbered = numbered;
    columns = λ q b. (c.right.right q b).columns;
    acceptance = λ q b. (c.right.right q b).acceptance;
    whole = λ e h. ap (λ ks. class_of classes ((listed_table l).target (entry e.symbol ks))) (sym (led_same e h));
  }

  -- Result: each state is the first of its class
  pub unjoined_leader : (q : ℕ) → q < length leaders → q ≡ get_or leaders q 0
  unjoined_leader q b = sym (c.firsts.are q b ∙ own_first q (omega (arith, all)))

  -- Result: the targets over classes are those there are
  pub unjoined_targets : l.targets ≡ kept_targets (listed_table l) classes l.entries
  unjoined_targets =
      let F : Entry → ℕ = λ e. class_of classes ((listed_table l).target e) in
      let d = no_entry l.columns in
      let whole : filter (is_led classes) l.entries ≡ l.entries = all_pass (is_led classes) l.entries
      (λ e m. led_from_kids classes e (led_same e (All-contains (IsTableEntry (listed_table l)) l.entries e is.order.are m))) in
      let count : length (map F l.entries) ≡ length l.entries = length-map l.entries F in
      ext_get_or 0 l.targets (map F l.entries) (is.count ∙ sym count)
      (λ k b. let low : k < length l.entries = omega (arith, is.count) in
      let e = get_or l.entries k d in
      let at = listed_target l k is b in
      sym (get_or-map F l.entries k d 0 low ∙ (own_class ((listed_table l).target e) (omega (arith, c.right.count, is.table.within e (is.order.are k d low))) ∙ at)))
      ∙ ap (map F) (sym whole)
