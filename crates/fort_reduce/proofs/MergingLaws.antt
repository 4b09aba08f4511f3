-- The table of the classes in the making: each target that is given is allowed, and at the end it is the table of the classes.
use Rattle.std.proofs.Common.{◌≡◌, ℕ, ◌+◌, ◌<◌, ◌≤◌, List, [], ◌∷◌, ◌++◌, map, length, get_or, Bool, false, ap, sym, ◌∙◌, arith, subst, ⊎_elim}
use Rattle.std.specs.Prelude.{Contains}
use Rattle.std.proofs.lemmas.Bool.{cases_lt}
use Rattle.std.proofs.lemmas.List.{length_push, get_or_push, get_or_append_left, length-map, get_or-map, ext_get_or, get_or_default}
use Rattle.fort_theory.specs.Signatures.{Signature}
use Rattle.fort_tables.specs.Tuples.{Tuple, kid, kids, kid_count, presence, IsTuple}
use Rattle.fort_tables.specs.Entries.{Entry, entry, no_entry, IsEntry, ComesBefore, stage}
use Rattle.fort_tables.specs.Tables.{Made, Listed, listed_table, finished, full_presence, state_of, IsListed, IsTableEntry, IsMadeDue, IsComplete, IsAllowed, IsGiven, AreFinals}
use Rattle.fort_tables.proofs.EqualTests.{if_equal, if_apart}
use Rattle.fort_tables.proofs.OrderLaws.{before_irrefl, before_trans, stage_within, kid_below}
use Rattle.fort_tables.proofs.NumberLaws.{listed_target}
use Rattle.fort_tables.proofs.TupleLaws.{tuple_induction, fold_tuple-step, IsTuple-kid, length-tabulate, get_or-tabulate}
use Rattle.fort_tables.proofs.TableLaws.{entry_of}
use Rattle.fort_tables.specs.Merges.{first_of, count_of, IsMerge, merged}
use Rattle.fort_tables.proofs.SeparationLaws.{IsTableEntry-states}
use Rattle.fort_tables.proofs.NumberedClasses.{first_within}
use Rattle.fort_tables.proofs.MergeLaws.{presence-class, class_count, IsTable-merged, IsReached-merged}
use Rattle.fort_tables.proofs.ClassOrderLaws.{class_given_before, IsGivenBefore}
use Rattle.fort_reduce.specs.MergedTables.{IsMergedTable}
use Rattle.fort_reduce.specs.Merging.{IsMerging}

-- one more in a list with another beside it
push_each : (P : Entry → ℕ → Type 0) (es : List Entry) (qs : List ℕ) (e : Entry) (q : ℕ) → length qs ≡ length es → ((k : ℕ) (d : Entry) → k < length es → P (get_or es k d) (get_or qs k 0)) → P e q
    → (k : ℕ) (d : Entry) → k < length (es ++ e ∷ []) → P (get_or (es ++ e ∷ []) k d) (get_or (qs ++ q ∷ []) k 0)
push_each P es qs e q c old new k d l =
    ⊎_elim
    (λ m. subst (P (get_or (es ++ e ∷ []) k d)) (sym (get_or_append_left qs (q ∷ []) 0 k (omega arith)))
    (subst (λ (x : Entry). P x (get_or qs k 0)) (sym (get_or_append_left es (e ∷ []) d k m)) (old k d m)))
    (λ m. let at : length es ≡ k = omega (arith, length_push es e) in
    subst (P (get_or (es ++ e ∷ []) k d)) (sym (get_or_push qs q 0 k (c ∙ at)))
    (subst (λ (x : Entry). P x q) (sym (get_or_push es e d k at)) new))
    (cases_lt k (length es))

module _ (l : Listed) (classes : List ℕ) (is : IsListed l) (m : IsMerge (listed_table l) classes) where
  pub merging_none : (x : Made) → x.signature ≡ l.signature → x.columns ≡ l.columns → x.presences ≡ [] → x.entries ≡ [] → x.targets ≡ [] → IsMerging (listed_table l) classes x
  merging_none x s c ps es ts =
      let none : length x.presences ≡ 0 = ap (λ (xs : List ℕ). length xs) ps in
      let no_targets : length x.targets ≡ 0 = ap (λ (xs : List ℕ). length xs) ts in
      let no_entries : length x.entries ≡ 0 = ap (λ (xs : List Entry). length xs) es in
      record {
        signature = s;
        columns_are = c;
        few = omega arith;
        presences = λ k b. absurd (omega arith);
        count = no_targets ∙ sym no_entries;
        inside = λ k b. absurd (omega arith);
        are = λ k d b. absurd (omega arith);
      }

  -- entries over the states so far, and over all classes
  pub made_entry : (x : Made) → IsMerging (listed_table l) classes x → (e : Entry) → IsEntry x.signature x.columns x.presences e → IsTableEntry (merged (listed_table l) classes) e
  made_entry x h e i =
      let k : IsEntry l.signature l.columns x.presences e =
      subst (λ (s : Signature). IsEntry s l.columns x.presences e) h.signature (subst (λ (c : ℕ). IsEntry x.signature c x.presences e) h.columns_are i) in
      record {
        symbol = k.symbol;
        count = k.count;
        within = λ j b. omega (arith, k.within j b, h.few, class_count (listed_table l) classes is.table m);
        presence = λ j b. let low = k.within j b in
            presence-class (listed_table l) classes is.table m (get_or e.kids j 0) (omega (arith, h.few)) ∙ (sym (h.presences (get_or e.kids j 0) low) ∙ k.presence j b);
      }

  pub entry_made : (x : Made) → IsMerging (listed_table l) classes x → (e : Entry) → IsTableEntry (merged (listed_table l) classes) e → ((j : ℕ) → j < length e.kids → get_or e.kids j 0 < length x.presences)
      → IsEntry x.signature x.columns x.presences e
  entry_made x h e i low =
      let k : IsEntry l.signature l.columns x.presences e = record {
        symbol = i.symbol;
        count = i.count;
        within = low;
        presence = λ j b. h.presences (get_or e.kids j 0) (low j b) ∙ (sym (presence-class (listed_table l) classes is.table m (get_or e.kids j 0) (omega (arith, low j b, h.few))) ∙ i.presence j b);
      } in
      subst (λ (s : Signature). IsEntry s x.columns x.presences e) (sym h.signature) (subst (λ (c : ℕ). IsEntry l.signature c x.presences e) (sym h.columns_are) k)

  -- an entry in the list has its class
  given_target : (x : Made) → IsMerging (listed_table l) classes x → (e : Entry) → Contains x.entries e → (merged (listed_table l) classes).target e < length x.presences
  given_target x h e c =
      let k = c.0 in
      let b : k < length x.targets = omega (arith, c.1, h.count) in
      let same : get_or x.targets k 0 ≡ (merged (listed_table l) classes).target e = h.are k e c.1 ∙ ap (merged (listed_table l) classes).target c.2 in
      omega (arith, h.inside k b)

  pub target_low : (x : Made) → IsMerging (listed_table l) classes x → (e : Entry) → IsMadeDue x e → (merged (listed_table l) classes).target e < count_of classes
  target_low x h e d = omega (arith, class_count (listed_table l) classes is.table m, (IsTable-merged (listed_table l) classes is.table m).within e (made_entry x h e d.is_entry))

  -- Result: the class of the due entry is allowed
  pub merging_allowed : (x : Made) → IsMerging (listed_table l) classes x → (e : Entry) (q : ℕ) → IsMadeDue x e → q ≡ (merged (listed_table l) classes).target e → IsAllowed x e q
  merging_allowed x h e q d same =
      let t = merged (listed_table l) classes in
      let p = length x.presences in
      let i = made_entry x h e d.is_entry in
      let low : t.target e < count_of classes = target_low x h e d in
      record {
        due = d;
        known = ⊎_elim
            (λ b.
            let g : IsGivenBefore (listed_table l) classes p e = class_given_before l classes is m e p i (omega arith) in
            let stage_low : stage g.earlier.kids ≤ p = ⊎_elim
            (λ s. omega (arith, s, stage_within p e.kids d.is_entry.within))
            (λ s. omega (arith, s.0, stage_within p e.kids d.is_entry.within))
            g.before in
            let there = entry_made x h g.earlier g.is_entry (λ j c. omega (arith, kid_below g.earlier.kids j c, stage_low)) in
            let missing : Contains x.entries g.earlier → ⊥ = λ c. omega (arith, given_target x h g.earlier c, g.target) in
            absurd (⊎_elim
            (λ s. before_irrefl e (subst (λ (y : Entry). ComesBefore y e) (sym s) g.before))
            (λ s. before_irrefl e (before_trans e g.earlier e s g.before))
            (d.first g.earlier there missing)))
            (λ b. omega arith)
            (cases_lt p q);
        fits = λ b.
            ap (λ c. get_or x.presences c 0) same
            ∙ (h.presences (t.target e) (omega arith)
            ∙ (sym (presence-class (listed_table l) classes is.table m (t.target e) low) ∙ (IsTable-merged (listed_table l) classes is.table m).presence e i));
      }

  -- the entry has its target
  grown : (x y : Made) (e : Entry) (q : ℕ) → IsMerging (listed_table l) classes x → IsGiven x e q y → q ≡ (merged (listed_table l) classes).target e
      → length x.presences ≤ length y.presences → q < length y.presences → length y.presences ≤ count_of classes
      → ((c : ℕ) → c < length y.presences → get_or y.presences c 0 ≡ get_or l.presences (first_of classes c) 0) → IsMerging (listed_table l) classes y
  grown x y e q h g same more low few presences =
      let t = merged (listed_table l) classes in
      let P : Entry → ℕ → Type 0 = λ a i. (i ≡ t.target a) × (i < length y.presences) in
      let each : (k : ℕ) (d : Entry) → k < length (x.entries ++ e ∷ []) → P (get_or (x.entries ++ e ∷ []) k d) (get_or (x.targets ++ q ∷ []) k 0) =
      push_each P x.entries x.targets e q h.count
      (λ k d b. (h.are k d b, omega (arith, more, h.inside k (omega (arith, h.count)))))
      (same, low) in
      let made : (k : ℕ) (d : Entry) → k < length y.entries → P (get_or y.entries k d) (get_or y.targets k 0) =
      subst (λ (es : List Entry). (k : ℕ) (d : Entry) → k < length es → P (get_or es k d) (get_or y.targets k 0)) (sym g.entries)
      (subst (λ (qs : List ℕ). (k : ℕ) (d : Entry) → k < length (x.entries ++ e ∷ []) → P (get_or (x.entries ++ e ∷ []) k d) (get_or qs k 0)) (sym g.targets) each) in
      let entry_count : length y.entries ≡ length x.entries + 1 = ap (λ (es : List Entry). length es) g.entries ∙ length_push x.entries e in
      let target_count : length y.targets ≡ length x.targets + 1 = ap (λ (qs : List ℕ). length qs) g.targets ∙ length_push x.targets q in
      record {
        signature = g.signature ∙ h.signature;
        columns_are = g.columns_are ∙ h.columns_are;
        few = few;
        presences = presences;
        count = omega (arith, h.count);
        inside = λ k b. (made k e (omega (arith, h.count))).1;
        are = λ k d b. (made k d b).0;
      }

  pub merging_give : (x y : Made) (e : Entry) (q : ℕ) → IsMerging (listed_table l) classes x → IsMadeDue x e → q ≡ (merged (listed_table l) classes).target e → IsGiven x e q y → IsMerging (listed_table l) classes y
  merging_give x y e q h d same g =
      let allowed = merging_allowed x h e q d same in
      let p = length x.presences in
      let w = presence e.symbol in
      let low : (merged (listed_table l) classes).target e < count_of classes = target_low x h e d in
      ⊎_elim
      (λ b.
      let stays : y.presences ≡ x.presences = g.presences ∙ if_apart q p (x.presences ++ w ∷ []) x.presences (λ s. omega arith) in
      let len : length y.presences ≡ p = ap (λ (ps : List ℕ). length ps) stays in
      grown x y e q h g same (omega arith) (omega arith) (omega (arith, h.few))
      (λ c k. ap (λ (ps : List ℕ). get_or ps c 0) stays ∙ h.presences c (omega arith)))
      (λ b.
      let new : q ≡ p = omega (arith, allowed.known) in
      let more : y.presences ≡ x.presences ++ w ∷ [] = g.presences ∙ if_equal q p (x.presences ++ w ∷ []) x.presences new in
      let len : length y.presences ≡ p + 1 = ap (λ (ps : List ℕ). length ps) more ∙ length_push x.presences w in
      let i = made_entry x h e d.is_entry in
      let word : w ≡ get_or l.presences (first_of classes q) 0 =
      sym ((IsTable-merged (listed_table l) classes is.table m).presence e i)
      ∙ (ap (λ c. get_or (merged (listed_table l) classes).presences c 0) (sym same) ∙ presence-class (listed_table l) classes is.table m q (omega arith)) in
      grown x y e q h g same (omega arith) (omega arith) (omega (arith, h.few))
      (λ c k. ap (λ (ps : List ℕ). get_or ps c 0) more ∙ ⊎_elim
      (λ a. get_or_append_left x.presences (w ∷ []) 0 c a ∙ h.presences c a)
      (λ a. let at : p ≡ c = omega arith in get_or_push x.presences w 0 c at ∙ (word ∙ ap (λ i. get_or l.presences (first_of classes i) 0) (new ∙ at)))
      (cases_lt c p)))
      (cases_lt q p)

  -- every entry over the states so far has a target, so all states of tuples are among them
  states_closed : (x : Made) → IsMerging (listed_table l) classes x → IsComplete x → (t : Tuple) → IsTuple l.signature l.columns t → state_of (merged (listed_table l) classes) t < length x.presences
  states_closed x h all = tuple_induction (λ t. IsTuple l.signature l.columns t → state_of (merged (listed_table l) classes) t < length x.presences)
      (λ t ih k.
      let table = merged (listed_table l) classes in
      let e = entry_of (state_of table) t in
      let i = IsTableEntry-states table (IsTable-merged (listed_table l) classes is.table m) t k in
      let us = kids t in
      let count : length us ≡ kid_count t = length-tabulate (kid_count t) (kid t) in
      let low : (j : ℕ) → j < length (map (state_of table) us) → get_or (map (state_of table) us) j 0 < length x.presences =
      λ j b. let n : j < length us = omega (arith, length-map us (state_of table)) in
      let at : get_or us j [] ≡ kid t j = get_or-tabulate (kid_count t) (kid t) j [] (omega (arith, count)) in
      let s : get_or (map (state_of table) us) j 0 ≡ state_of table (kid t j) = get_or-map (state_of table) us j [] 0 n ∙ ap (state_of table) at in
      omega (arith, s, ih j (omega (arith, count)) (IsTuple-kid l.signature l.columns t j k (omega (arith, count)))) in
      let own : state_of table t ≡ table.target e = fold_tuple-step (λ f ks. table.target (entry f ks)) t in
      omega (arith, own, given_target x h e (all e (entry_made x h e i low))))

  -- Result: all classes are there at the end
  pub merging_whole : (x : Made) → IsMerging (listed_table l) classes x → IsComplete x → length x.presences ≡ count_of classes
  merging_whole x h all = ⊎_elim
      (λ b.
      let u = IsReached-merged (listed_table l) classes is.table m is.reached (length x.presences) (omega (arith, class_count (listed_table l) classes is.table m)) in
      absurd (omega (arith, u.2, states_closed x h all u.0 u.1)))
      (λ b. omega (arith, h.few))
      (cases_lt (length x.presences) (count_of classes))

  pub merging_finals : (x : Made) (leaders : List ℕ) (finals : List Bool) → IsMerging (listed_table l) classes x → IsComplete x → length finals ≡ count_of classes
      → ((c : ℕ) → c < count_of classes → get_or finals c false ≡ get_or l.finals (first_of classes c) false) → AreFinals x finals
  merging_finals x leaders finals h all count are =
      let whole = merging_whole x h all in
      record {
        count = count ∙ sym whole;
        full = λ q b a.
            let low : q < count_of classes = omega arith in
            h.presences q b ∙ (is.table.full (first_of classes q) (omega (arith, m.count, first_within classes q m.numbered low)) (sym (are q low) ∙ a) ∙ ap full_presence (sym h.columns_are));
      }

  -- Result: the finished table is the table of the classes
  pub merging_made : (x : Made) (t : Listed) (finals : List Bool) → IsMerging (listed_table l) classes x → IsComplete x → IsListed t → t ≡ finished x finals
      → ((c : ℕ) → c < count_of classes → get_or finals c false ≡ get_or l.finals (first_of classes c) false) → IsMergedTable (listed_table l) classes (listed_table t)
  merging_made x t finals h all listed same are =
      let whole = merging_whole x h all in
      let ps : t.presences ≡ x.presences = ap (λ (a : Listed). a.presences) same in
      let es : t.entries ≡ x.entries = ap (λ (a : Listed). a.entries) same in
      let qs : t.targets ≡ x.targets = ap (λ (a : Listed). a.targets) same in
      record {
        signature = ap (λ (a : Listed). a.signature) same ∙ h.signature;
        columns_are = ap (λ (a : Listed). a.columns) same ∙ h.columns_are;
        presences = ps ∙ ext_get_or 0 x.presences (merged (listed_table l) classes).presences (whole ∙ sym (class_count (listed_table l) classes is.table m))
            (λ c b. h.presences c b ∙ sym (presence-class (listed_table l) classes is.table m c (omega arith)));
        targets = λ e i.
            let there = entry_made x h e i (λ j b. omega (arith, whole, class_count (listed_table l) classes is.table m, i.within j b)) in
            let c = all e there in
            let k = c.0 in
            let kt : k < length t.targets = omega (arith, c.1, h.count, ap (λ (a : List ℕ). length a) qs) in
            let d = no_entry t.columns in
            let at : get_or t.entries k d ≡ e = ap (λ (a : List Entry). get_or a k d) es ∙ (get_or_default x.entries k d e c.1 ∙ c.2) in
            ap (listed_table t).target (sym at) ∙ (listed_target t k listed kt ∙ (ap (λ (a : List ℕ). get_or a k 0) qs ∙ (h.are k e c.1 ∙ ap (merged (listed_table l) classes).target c.2)));
        accepting = λ c b. ap (λ (a : Listed). get_or a.finals c false) same ∙ are c b;
      }
