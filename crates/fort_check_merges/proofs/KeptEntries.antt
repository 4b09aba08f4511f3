-- The entries over first states alone, taken as entries over classes, are all of those, in their order.
use Rattle.std.proofs.Common.{◌≡◌, ℕ, suc, ◌+◌, ◌<◌, ◌⊎◌, List, [], ◌∷◌, ◌++◌, map, filter, cond, take, length, get_or, Bool, true, false, refl, ap, sym, ◌∙◌, arith, subst, ⊎_elim, inl, inr, if◌then◌else◌}
use Rattle.std.specs.Prelude.{Contains}
use Rattle.std.specs.List.{AllPairs}
use Rattle.std.proofs.lemmas.Bool.{cases_lt}
use Rattle.std.proofs.lemmas.List.{length-map, map-append, get_or-map, get_or-take, length-take, ext_get_or}
use Rattle.std.proofs.lemmas.List.Elements.{All-contains, filter_more}
use Rattle.std.proofs.lemmas.List.Kept.{AllPairs-filter}
use Rattle.fort_theory.proofs.Members.{Contains-from_filter, Contains-filter}
use Rattle.fort_theory.proofs.Lists.{Contains-map, Contains-map_from}
use Rattle.fort_tables.specs.Entries.{Entry, entry, stage, LexBefore, ComesBefore, HasAllEntries}
use Rattle.fort_tables.specs.Tables.{Table, Listed, listed_table, IsListed, IsTableEntry, same_states}
use Rattle.fort_tables.proofs.EntryLaws.{same_states-itself, states_from_same}
use Rattle.fort_tables.proofs.OrderLaws.{kid_below}
use Rattle.fort_tables.proofs.OrderedLists.{All-from_members, AllPairs-weaker, AllPairs-map}
use Rattle.fort_tables.specs.Merges.{class_of, first_of, count_of, leader, lifted, AreNumbered, IsMerge, merged}
use Rattle.fort_tables.specs.MergeOutcomes.{AreEntriesOf}
use Rattle.fort_tables.proofs.NumberedClasses.{first_class, class_within}
use Rattle.fort_tables.proofs.CoarsestLaws.{new_class}
use Rattle.fort_tables.proofs.MergeLaws.{IsTableEntry-lifted, presence-class, class_count}
use Rattle.fort_tables.proofs.ClassOrderLaws.{classed}
use Rattle.fort_check_merges.specs.KeptTargets.{is_led, kept_target, kept_targets}

-- the entries over first states, as entries over classes
abbrev pub kept : List ℕ → List Entry → List Entry
kept classes es = map (classed classes) (filter (is_led classes) es)

pub led_kids : (classes : List ℕ) (e : Entry) → is_led classes e ≡ true → map (leader classes) e.kids ≡ e.kids
led_kids classes e h = states_from_same (map (leader classes) e.kids) e.kids h

pub led_from_kids : (classes : List ℕ) (e : Entry) → map (leader classes) e.kids ≡ e.kids → is_led classes e ≡ true
led_from_kids classes e h = subst (λ ks. same_states ks e.kids ≡ true) (sym h) (same_states-itself e.kids)

lifted_classes : (classes ks : List ℕ) → map (first_of classes) (map (class_of classes) ks) ≡ map (leader classes) ks
lifted_classes classes [] = refl
lifted_classes classes (k ∷ ks) = ap (λ r. leader classes k ∷ r) (lifted_classes classes ks)

pub lifted_classed : (classes : List ℕ) (e : Entry) → is_led classes e ≡ true → lifted classes (classed classes e) ≡ e
lifted_classed classes e h = ap (entry e.symbol) (lifted_classes classes e.kids ∙ led_kids classes e h)

-- one more entry
kept_one : (table : Table) (classes : List ℕ) (e : Entry) (b : Bool) → map (λ (x : Entry). class_of classes (table.target x)) (cond b (e ∷ []) []) ≡ cond b (class_of classes (table.target e) ∷ []) []
kept_one table classes e true = refl
kept_one table classes e false = refl

pub kept_more : (table : Table) (classes : List ℕ) (es : List Entry) (n : ℕ) (d : Entry) → n < length es
    → kept_targets table classes (take (n + 1) es) ≡ kept_targets table classes (take n es) ++ kept_target table classes (get_or es n d)
kept_more table classes es n d l =
    let F : Entry → ℕ = λ x. class_of classes (table.target x) in
    let x = get_or es n d in
    ap (map F) (filter_more (is_led classes) es n d l)
    ∙ (map-append F (filter (is_led classes) (take n es)) (cond (is_led classes x) (x ∷ []) [])
    ∙ ap (λ qs. kept_targets table classes (take n es) ++ qs) (kept_one table classes x (is_led classes x)))

-- ---- a map of states that ascends where P holds

abbrev AscendsOn : (ℕ → ℕ) → (ℕ → Type 0) → Type 0
AscendsOn G P = (a b : ℕ) → P a → P b → a < b → G a < G b

abbrev AreSo : (ℕ → Type 0) → List ℕ → Type 0
AreSo P ks = (j : ℕ) → j < length ks → P (get_or ks j 0)

-- no children, or a greatest one
record HasTop (G : ℕ → ℕ) (P : ℕ → Type 0) (ks : List ℕ) : Type 0 where
  top : ((stage ks ≡ 0) × (stage (map G ks) ≡ 0)) ⊎ ((m : ℕ) × (P m) × (stage ks ≡ suc m) × (stage (map G ks) ≡ suc (G m)))

has_top : (G : ℕ → ℕ) (P : ℕ → Type 0) (ks : List ℕ) → AscendsOn G P → AreSo P ks → HasTop G P ks
has_top G P [] up h = record { top = inl (refl, refl) }
has_top G P (k ∷ ks) up h =
    let own : P k = h 0 (omega arith) in
    let rest = has_top G P ks up (λ j l. h (suc j) (omega arith)) in
    ⊎_elim
    (λ n. record { top = inr (k, own, omega (arith, n.0), omega (arith, n.1)) })
    (λ t. ⊎_elim
    (λ less. record { top = inr (t.0, t.1, omega (arith, t.2), omega (arith, t.3, up k t.0 own t.1 less)) })
    (λ more. ⊎_elim
    (λ less. record { top = inr (k, own, omega (arith, t.2), omega (arith, t.3, up t.0 k t.1 own less)) })
    (λ least. let same : t.0 ≡ k = omega arith in record { top = inr (k, own, omega (arith, t.2), omega (arith, t.3, ap G same)) })
    (cases_lt t.0 k))
    (cases_lt k t.0))
    rest.top

stage_less : (G : ℕ → ℕ) (P : ℕ → Type 0) (ks ls : List ℕ) → AscendsOn G P → HasTop G P ks → HasTop G P ls → stage ks < stage ls → stage (map G ks) < stage (map G ls)
stage_less G P ks ls up a b h = ⊎_elim
    (λ n. ⊎_elim (λ m. absurd (omega (arith, n.0, m.0))) (λ m. omega (arith, n.1, m.3)) b.top)
    (λ n. ⊎_elim (λ m. absurd (omega (arith, n.2, m.0))) (λ m. omega (arith, n.3, m.3, up n.0 m.0 n.1 m.1 (omega (arith, n.2, m.2)))) b.top)
    a.top

stage_equal : (G : ℕ → ℕ) (P : ℕ → Type 0) (ks ls : List ℕ) → HasTop G P ks → HasTop G P ls → stage ks ≡ stage ls → stage (map G ks) ≡ stage (map G ls)
stage_equal G P ks ls a b h = ⊎_elim
    (λ n. ⊎_elim (λ m. n.1 ∙ sym m.1) (λ m. absurd (omega (arith, n.0, m.2))) b.top)
    (λ n. ⊎_elim (λ m. absurd (omega (arith, n.2, m.0))) (λ m. let same : n.0 ≡ m.0 = omega (arith, n.2, m.2) in n.3 ∙ (ap (λ i. suc (G i)) same ∙ sym m.3)) b.top)
    a.top

lex_map : (G : ℕ → ℕ) (P : ℕ → Type 0) (ks ls : List ℕ) → AscendsOn G P → AreSo P ks → AreSo P ls → LexBefore ◌<◌ ks ls → LexBefore ◌<◌ (map G ks) (map G ls)
lex_map G P [] ls up a b h = absurd h
lex_map G P (k ∷ ks) [] up a b h = absurd h
lex_map G P (k ∷ ks) (l ∷ ls) up a b h = ⊎_elim
    (λ y. inl (up k l (a 0 (omega arith)) (b 0 (omega arith)) y))
    (λ y. inr (ap G y.0, lex_map G P ks ls up (λ j m. a (suc j) (omega arith)) (λ j m. b (suc j) (omega arith)) y.1))
    h

before_map : (G : ℕ → ℕ) (P : ℕ → Type 0) (x y : Entry) → AscendsOn G P → AreSo P x.kids → AreSo P y.kids → ComesBefore x y → ComesBefore (entry x.symbol (map G x.kids)) (entry y.symbol (map G y.kids))
before_map G P x y up a b h =
    let tx = has_top G P x.kids up a in
    let ty = has_top G P y.kids up b in
    ⊎_elim
    (λ l. inl (stage_less G P x.kids y.kids up tx ty l))
    (λ s. inr (stage_equal G P x.kids y.kids tx ty s.0, ⊎_elim (λ f. inl f) (λ f. inr (f.0, lex_map G P x.kids y.kids up a b f.1)) s.1))
    h

-- ---- the classes of first states ascend

abbrev IsFirstState : List ℕ → ℕ → Type 0
IsFirstState classes q = (q < length classes) × (leader classes q ≡ q)

classes_ascend : (classes : List ℕ) → AreNumbered classes → AscendsOn (class_of classes) (IsFirstState classes)
classes_ascend classes numbered p q hp hq l =
    let len : length (take q classes) ≡ q = omega (arith, length-take q classes, hq.0) in
    omega (arith, new_class classes q numbered hq.0 hq.1, get_or-take q classes p 0 l, kid_below (take q classes) p (omega (arith, len)))

module _ (l : Listed) (classes : List ℕ) (is : IsListed l) (m : IsMerge (listed_table l) classes) where
  IsTableEntry-classed : (e : Entry) → IsTableEntry (listed_table l) e → IsTableEntry (merged (listed_table l) classes) (classed classes e)
  IsTableEntry-classed e h =
      let count : length (classed classes e).kids ≡ length e.kids = length-map e.kids (class_of classes) in
      let at : (j : ℕ) → j < length e.kids → get_or (classed classes e).kids j 0 ≡ class_of classes (get_or e.kids j 0) = λ j k. get_or-map (class_of classes) e.kids j 0 0 k in
      record {
        symbol = h.symbol;
        count = count ∙ h.count;
        within = λ j k. let b : j < length e.kids = omega (arith, count) in
            omega (arith, at j b, class_count (listed_table l) classes is.table m, class_within classes (get_or e.kids j 0) (omega (arith, m.count, h.within j b)));
        presence = λ j k. let b : j < length e.kids = omega (arith, count) in
            let q = get_or e.kids j 0 in
            let w : q < length classes = omega (arith, m.count, h.within j b) in
            ap (λ c. get_or (merged (listed_table l) classes).presences c 0) (at j b)
            ∙ (presence-class (listed_table l) classes is.table m (class_of classes q) (class_within classes q w) ∙ (sym (m.columns q w) ∙ h.presence j b));
      }

  entries_are : (e : Entry) → Contains l.entries e → IsTableEntry (listed_table l) e
  entries_are e c = All-contains (IsTableEntry (listed_table l)) l.entries e is.order.are c

  -- an entry that is kept is one over first states
  kept_firsts : (e : Entry) → Contains (filter (is_led classes) l.entries) e → AreSo (IsFirstState classes) e.kids
  kept_firsts e c j b =
      let r = Contains-from_filter (is_led classes) l.entries e c in
      let h = entries_are e r.0 in (
        omega (arith, m.count, h.within j b),
        sym (get_or-map (leader classes) e.kids j 0 0 b) ∙ ap (λ ks. get_or ks j 0) (led_kids classes e r.1),
      )

  kept_are : (x : Entry) → Contains (kept classes l.entries) x → IsTableEntry (merged (listed_table l) classes) x
  kept_are x c =
      let r = Contains-map_from (classed classes) (filter (is_led classes) l.entries) x c in
      subst (IsTableEntry (merged (listed_table l) classes)) r.2 (IsTableEntry-classed r.0 (entries_are r.0 (Contains-from_filter (is_led classes) l.entries r.0 r.1).0))

  kept_in_order : AllPairs ComesBefore (kept classes l.entries)
  kept_in_order =
      let es = filter (is_led classes) l.entries in
      let R : Entry → Entry → Type 0 = λ x y. ComesBefore (classed classes x) (classed classes y) in
      AllPairs-map R ComesBefore (classed classes) (λ x y h. h) es
      (AllPairs-weaker ComesBefore R es
      (λ x y c d h. before_map (class_of classes) (IsFirstState classes) x y (classes_ascend classes m.numbered) (kept_firsts x c) (kept_firsts y d) h)
      (AllPairs-filter ComesBefore (is_led classes) l.entries is.order.order))

  first_again : (c : ℕ) → c < count_of classes → leader classes (first_of classes c) ≡ first_of classes c
  first_again c b = ap (first_of classes) (first_class classes c m.numbered b)

  kept_all : HasAllEntries l.signature l.columns (merged (listed_table l) classes).presences (kept classes l.entries)
  kept_all x h =
      let low : (j : ℕ) → j < length x.kids → get_or x.kids j 0 < count_of classes = λ j b. omega (arith, class_count (listed_table l) classes is.table m, h.within j b) in
      let e = lifted classes x in
      let len : length e.kids ≡ length x.kids = length-map x.kids (first_of classes) in
      let at : (j : ℕ) → j < length x.kids → get_or e.kids j 0 ≡ first_of classes (get_or x.kids j 0) = λ j b. get_or-map (first_of classes) x.kids j 0 0 b in
      let own : map (leader classes) e.kids ≡ e.kids = ext_get_or 0 (map (leader classes) e.kids) e.kids (length-map e.kids (leader classes))
      (λ j b. let k : j < length e.kids = omega (arith, length-map e.kids (leader classes)) in
      let n : j < length x.kids = omega (arith, len) in
      get_or-map (leader classes) e.kids j 0 0 k ∙ (ap (leader classes) (at j n) ∙ (first_again (get_or x.kids j 0) (low j n) ∙ sym (at j n)))) in
      let back : map (class_of classes) e.kids ≡ x.kids = ext_get_or 0 (map (class_of classes) e.kids) x.kids (length-map e.kids (class_of classes) ∙ len)
      (λ j b. let k : j < length e.kids = omega (arith, length-map e.kids (class_of classes)) in
      let n : j < length x.kids = omega (arith, len) in
      get_or-map (class_of classes) e.kids j 0 0 k ∙ (ap (class_of classes) (at j n) ∙ first_class classes (get_or x.kids j 0) m.numbered (low j n))) in
      let same : classed classes e ≡ x = ap (entry x.symbol) back in
      subst (Contains (kept classes l.entries)) same
      (Contains-map (classed classes) (filter (is_led classes) l.entries) e
      (Contains-filter (is_led classes) l.entries e (is.all e (IsTableEntry-lifted (listed_table l) classes is.table m x h)) (led_from_kids classes e own)))

  -- Result
  pub entries_kept : AreEntriesOf (merged (listed_table l) classes) (kept classes l.entries)
  entries_kept = record {
    order = record { are = All-from_members (IsTableEntry (merged (listed_table l) classes)) (kept classes l.entries) kept_are; order = kept_in_order };
    all = kept_all;
  }

  -- behind one entry
  kept_targets_more : (e : Entry) (es : List Entry) (rest : map (merged (listed_table l) classes).target (kept classes es) ≡ map (λ x. class_of classes ((listed_table l).target x)) (filter (is_led classes) es))
      (b : Bool) → is_led classes e ≡ b
      → map (merged (listed_table l) classes).target (map (classed classes) (if b then e ∷ filter (is_led classes) es else filter (is_led classes) es))
      ≡ map (λ x. class_of classes ((listed_table l).target x)) (if b then e ∷ filter (is_led classes) es else filter (is_led classes) es)
  kept_targets_more e es rest true h = λ i. class_of classes ((listed_table l).target (lifted_classed classes e h i)) ∷ rest i
  kept_targets_more e es rest false h = rest

  kept_targets_from : (es : List Entry) → map (merged (listed_table l) classes).target (kept classes es) ≡ map (λ x. class_of classes ((listed_table l).target x)) (filter (is_led classes) es)
  kept_targets_from [] = refl
  kept_targets_from (e ∷ es) = kept_targets_more e es (kept_targets_from es) (is_led classes e) refl

  -- Result: their targets are the classes of their own targets
  pub targets_kept : map (merged (listed_table l) classes).target (kept classes l.entries) ≡ kept_targets (listed_table l) classes l.entries
  targets_kept = kept_targets_from l.entries
