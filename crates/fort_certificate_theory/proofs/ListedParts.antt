-- A table whose states are one for each label, listed in order, has right targets.
use Rattle.std.proofs.Common.{◌≡◌, ℕ, zero, suc, ◌<◌, ◌≤◌, List, [], ◌∷◌, ◌++◌, map, length, take, get_or, Bool, false, refl, ap, sym, ◌∙◌, arith, subst, inl, inr, ⊎_elim}
use Rattle.std.specs.Prelude.{◌↔◌}
use Rattle.std.proofs.lemmas.Bool.{cases_lt, cases_eq}
use Rattle.std.proofs.lemmas.List.{length-map, get_or-map, ext_get_or, get_or_default, get_or-take, length-take, get_or_append_left, get_or_push, length_push}
use Rattle.fort_tables.specs.Tuples.{Tuple, kid, kids, kid_count, presence, rebuilt, IsTuple}
use Rattle.fort_tables.specs.Entries.{Entry, entry, no_entry, stage, picked, AreTuples, IsEntry, ComesBefore, IsDue, HasAllEntries}
use Rattle.fort_tables.specs.Tables.{Table, Listed, listed_table, target_in, state_of, IsListed, full_presence}
use Rattle.fort_tables.specs.Labels.{first_word, final_by, IsTableOf}
use Rattle.fort_tables.specs.LabelRules.{LabelRule, IsLabelRule, label_of, entry_label, IsTableBy}
use Rattle.fort_tables.proofs.TupleLaws.{tuple_induction, fold_tuple-step, IsTuple-kid, length-tabulate, get_or-tabulate, root-rebuilt, kids-rebuilt}
use Rattle.fort_tables.proofs.EntryLaws.{target_found, get_or-picked, entry_kids, IsTuple-entry}
use Rattle.fort_tables.proofs.OrderLaws.{before_irrefl, before_trans, order_one, stage_within, kid_below}
use Rattle.fort_tables.proofs.EqualTests.{if_equal, if_apart}
use Rattle.fort_tables.proofs.PresenceLaws.{presence_from_full, full_from_presence}
use Rattle.fort_tables.proofs.TableLaws.{entry_of, table_state, IsEntry-states}
use Rattle.fort_tables.proofs.LabelRuleLaws.{TellsPresence-rule}
use Rattle.fort_certificate_theory.specs.PartSteps.{IsDueOver, states_before, IsRightAt, IsRightPart, part_table}
use Rattle.fort_certificate_theory.specs.Written.{NoLabelTwice}
use Rattle.fort_certificate_theory.proofs.StageLaws.{target_states}
use Rattle.fort_certificate_theory.proofs.PartTables.{entry_label_same}

-- a list of tuples, one with the property of each number
record HasEach (P : ℕ → Tuple → Type 0) (n : ℕ) : Type 0 where
  tuples : List Tuple
  count : length tuples ≡ n
  each : (q : ℕ) → q < n → P q (get_or tuples q [])

has_each : (P : ℕ → Tuple → Type 0) (n : ℕ) → ((q : ℕ) → q < n → (u : Tuple) × P q u) → HasEach P n
has_each P zero h = record { tuples = []; count = refl; each = λ q l. absurd (omega arith) }
has_each P (suc n) h =
    let r = has_each P n (λ q l. h q (omega arith)) in
    let u = h n (omega arith) in
    record {
      tuples = r.tuples ++ u.0 ∷ [];
      count = omega (arith, length_push r.tuples u.0, r.count);
      each = λ q l. ⊎_elim
          (λ (m : q < n). subst (P q) (sym (get_or_append_left r.tuples (u.0 ∷ []) [] q (omega (arith, r.count)))) (r.each q m))
          (λ (m : n ≤ q).
          let e : n ≡ q = omega arith in
          subst (P q) (sym (get_or_push r.tuples u.0 [] q (omega (arith, r.count)))) (subst (λ (i : ℕ). P i u.0) e u.1))
          (cases_lt q n);
    }

-- some number is as great as the stage says
stage_high : (ks : List ℕ) (s : ℕ) → s < stage ks → (i : ℕ) × (i < length ks) × (s ≤ get_or ks i 0)
stage_high [] s l = absurd (omega arith)
stage_high (k ∷ ks) s l =
    ⊎_elim
    (λ (m : s < stage ks). let r = stage_high ks s m in (suc r.0, omega (arith, r.1), r.2))
    (λ (m : stage ks ≤ s). (0, omega arith, omega arith))
    (cases_lt s (stage ks))

stage_of : (qs : List ℕ) (m : ℕ) → ((k : ℕ) → k < length qs → get_or qs k 0 < m) → stage qs ≤ m
stage_of qs m h = stage_within m qs h

-- the targets are right, and no two states have one label
pub record AreRightTargets (r : LabelRule) (t : Listed) : Type 0 where
  pub labels : List (List ℕ)
  pub right : IsRightPart r t.targets t.entries labels
  pub once : NoLabelTwice labels
  pub presences_are : map first_word labels ≡ t.presences

-- and they make the table again
pub record HasRightTargets (r : LabelRule) (accepting : List ℕ → Bool) (t : Listed) : Type 0 where
  pub labels : List (List ℕ)
  pub right : IsRightPart r t.targets t.entries labels
  pub once : NoLabelTwice labels
  pub again : part_table r accepting t.entries t.targets labels ≡ t

-- the table is listed, with these entries and targets
module _ (r : LabelRule) (presences targets : List ℕ) (entries : List Entry) (finals : List Bool) where
  abbrev own : Listed
  own = record { signature = r.signature; columns = r.columns; presences = presences; entries = entries; targets = targets; finals = finals }

  abbrev table : Table
  table = listed_table own

  module _ (law : IsLabelRule r) (is : IsListed own)
      (same : (t u : Tuple) → IsTuple r.signature r.columns t → IsTuple r.signature r.columns u → (state_of table t ≡ state_of table u) ↔ (label_of r t ≡ label_of r u)) where
    -- the entry at a place has the target there
    target_at : (j : ℕ) (e : Entry) → j < length entries → get_or entries j e ≡ e → target_in entries targets e ≡ get_or targets j 0
    target_at j e l h =
        let few : length entries ≤ length targets = omega (arith, is.count) in
        let found = target_found entries targets e j l h few in
        let one : found.place ≡ j = order_one r.signature r.columns presences entries found.place j e is.order found.within l (found.is ∙ sym h) in
        found.target ∙ ap (λ i. get_or targets i 0) one

    entry_at : (k : ℕ) → k < length entries → (d : Entry) → IsEntry r.signature r.columns presences (get_or entries k d)
    entry_at k l d = is.order.are k d l

    -- a place before another one, by the order of entries
    place_before : (j k : ℕ) (d x : Entry) → j < length entries → k < length entries → get_or entries j x ≡ x → ComesBefore x (get_or entries k d) → j < k
    place_before j k d x l m h b =
        ⊎_elim (λ (n : j < k). n)
        (λ (n : k ≤ j).
        let at : get_or entries j d ≡ x = get_or_default entries j d x l ∙ h in
        ⊎_elim
        (λ (e : k ≡ j). absurd (before_irrefl x (subst (ComesBefore x) (ap (λ i. get_or entries i d) e ∙ at) b)))
        (λ (other : k ≡ j → ⊥).
        let c : ComesBefore (get_or entries k d) x = subst (ComesBefore (get_or entries k d)) at (is.order.order k j d (omega arith) l) in
        absurd (before_irrefl x (before_trans x (get_or entries k d) x b c)))
        (cases_eq k j))
        (cases_lt j k)

    within_target : (k : ℕ) → k < length targets → get_or targets k 0 < length presences
    within_target k l =
        let m : k < length entries = omega (arith, is.count) in
        let e = get_or entries k (no_entry r.columns) in
        let t = target_at k e m (get_or_default entries k e (no_entry r.columns) m) in
        omega (arith, is.table.within e (entry_at k m (no_entry r.columns)), t)

    -- if some child of an entry were none of the states before it, no tuple would reach that child
    low : (k s : ℕ) (d : Entry) → k < length entries → s ≡ states_before targets k → s < stage (get_or entries k d).kids → (u : Tuple) → IsTuple r.signature r.columns u → state_of table u < s
    low k s d l e high =
        tuple_induction (λ u. IsTuple r.signature r.columns u → state_of table u < s)
        (λ u ih tuple.
        let x = entry_of (state_of table) u in
        let x_is = IsEntry-states r.signature r.columns presences (state_of table) u tuple (λ j m. table_state table is.table (kid u j) (IsTuple-kid r.signature r.columns u j tuple m)) in
        let small : stage x.kids ≤ s = stage_within s x.kids
        (λ j m.
        let len : length x.kids ≡ length (kids u) = length-map (kids u) (state_of table) in
        let count : length (kids u) ≡ kid_count u = length-tabulate (kid_count u) (kid u) in
        let here : j < kid_count u = omega arith in
        let at : get_or x.kids j 0 ≡ state_of table (kid u j) = get_or-map (state_of table) (kids u) j [] 0 (omega arith) ∙ ap (state_of table) (get_or-tabulate (kid_count u) (kid u) j [] here) in
        omega (arith, ih j here (IsTuple-kid r.signature r.columns u j tuple here), at)) in
        let before : ComesBefore x (get_or entries k d) = let b : stage x.kids < stage (get_or entries k d).kids = omega arith in inl b in
        let c = is.all x x_is in
        let j = place_before c.0 k d x c.1 l c.2 before in
        let t = target_at c.0 x c.1 c.2 in
        let state : state_of table u ≡ target_in entries targets x = fold_tuple-step (λ f ks. table.target (entry f ks)) u in
        omega (arith, state, t, e, target_states targets c.0 k j (omega (arith, c.1, is.count))))

    kids_known : (k : ℕ) (d : Entry) → k < length entries → (j : ℕ) → j < length (get_or entries k d).kids → get_or (get_or entries k d).kids j 0 < states_before targets k
    kids_known k d l j m =
        let s = states_before targets k in
        let ks = (get_or entries k d).kids in
        ⊎_elim
        (λ (high : s < stage ks).
        let i = stage_high ks s high in
        let u = is.reached (get_or ks i.0 0) ((entry_at k l d).within i.0 i.1) in
        absurd (omega (arith, low k s d l refl high u.0 u.1, u.2, i.2)))
        (λ (small : stage ks ≤ s). omega (arith, kid_below ks j m))
        (cases_lt s (stage ks))

    -- a tuple for each state
    chosen : HasEach (λ q u. IsTuple r.signature r.columns u × (state_of table u ≡ q)) (length presences)
    chosen = has_each (λ q u. IsTuple r.signature r.columns u × (state_of table u ≡ q)) (length presences) (λ q l. let u = is.reached q l in (u.0, (u.1, u.2)))

    abbrev tuples : List Tuple
    tuples = chosen.tuples

    abbrev labels : List (List ℕ)
    labels = map (label_of r) tuples

    are_tuples : AreTuples r.signature r.columns tuples
    are_tuples q l = (chosen.each q (omega (arith, chosen.count))).0

    label_at : (q : ℕ) → q < length presences → get_or labels q [] ≡ label_of r (get_or tuples q [])
    label_at q l = get_or-map (label_of r) tuples q [] [] (omega (arith, chosen.count))

    length_labels : length labels ≡ length presences
    length_labels = length-map tuples (label_of r) ∙ chosen.count

    presence_at : (q : ℕ) → q < length presences → presence (get_or tuples q []) ≡ get_or presences q 0
    presence_at q l =
        let c = chosen.each q l in
        let s = table_state table is.table (get_or tuples q []) c.0 in
        sym s.presence_is ∙ ap (λ i. get_or presences i 0) c.1

    presences_tuples : map presence tuples ≡ presences
    presences_tuples = ext_get_or 0 (map presence tuples) presences (length-map tuples presence ∙ chosen.count)
        (λ q l.
        let m : q < length presences = omega (arith, length-map tuples presence, chosen.count) in
        get_or-map presence tuples q [] 0 (omega (arith, chosen.count)) ∙ presence_at q m)

    presences_labels : map first_word labels ≡ presences
    presences_labels = ext_get_or 0 (map first_word labels) presences (length-map labels first_word ∙ length_labels)
        (λ q l.
        let m : q < length presences = omega (arith, length-map labels first_word, length_labels) in
        get_or-map first_word labels q [] 0 (omega (arith, length_labels))
        ∙ (ap first_word (label_at q m)
        ∙ (TellsPresence-rule r.signature r law.tells (get_or tuples q []) (chosen.each q m).0
        ∙ presence_at q m)))

    -- the label of an entry is that of a tuple which the table gives the entry's target
    entry_labelled : (e : Entry) → IsEntry r.signature r.columns presences e → get_or labels (target_in entries targets e) [] ≡ entry_label r labels e
    entry_labelled e h =
        let us = picked tuples e.kids in
        let over : IsEntry r.signature r.columns (map presence tuples) e = subst (λ (ps : List ℕ). IsEntry r.signature r.columns ps e) (sym presences_tuples) h in
        let under = entry_kids r.signature r.columns tuples e are_tuples over in
        let t = rebuilt e.symbol us in
        let tuple = IsTuple-entry r.signature r.columns tuples e are_tuples over in
        let q = target_in entries targets e in
        let q_in = is.table.within e h in
        let len : length us ≡ length e.kids = length-map e.kids (λ i. get_or tuples i []) in
        let states : map (state_of table) us ≡ e.kids =
        ext_get_or 0 (map (state_of table) us) e.kids (length-map us (state_of table) ∙ len)
        (λ j l.
        let m : j < length e.kids = omega (arith, length-map us (state_of table)) in
        get_or-map (state_of table) us j [] 0 (omega arith) ∙ (ap (state_of table) (get_or-picked tuples e.kids j m) ∙ (chosen.each (get_or e.kids j 0) (h.within j m)).1)) in
        let words : map (label_of r) us ≡ map (λ i. get_or labels i []) e.kids =
        ext_get_or [] (map (label_of r) us) (map (λ i. get_or labels i []) e.kids) (length-map us (label_of r) ∙ (len ∙ sym (length-map e.kids (λ i. get_or labels i []))))
        (λ j l.
        let m : j < length e.kids = omega (arith, length-map us (label_of r)) in
        get_or-map (label_of r) us j [] [] (omega arith)
        ∙ (ap (label_of r) (get_or-picked tuples e.kids j m)
        ∙ (sym (label_at (get_or e.kids j 0) (h.within j m))
        ∙ sym (get_or-map (λ i. get_or labels i []) e.kids j 0 [] m)))) in
        let state : state_of table t ≡ q =
        fold_tuple-step (λ f ks. table.target (entry f ks)) t
        ∙ (ap (λ f. table.target (entry f (map (state_of table) (kids t)))) (root-rebuilt e.symbol us)
        ∙ (ap (λ ts. table.target (entry e.symbol (map (state_of table) ts))) (kids-rebuilt r.signature e.symbol us under)
        ∙ ap (λ ks. table.target (entry e.symbol ks)) states)) in
        let label : label_of r t ≡ entry_label r labels e =
        fold_tuple-step r.step t
        ∙ (ap (λ f. r.step f (map (label_of r) (kids t))) (root-rebuilt e.symbol us)
        ∙ (ap (λ ts. r.step e.symbol (map (label_of r) ts)) (kids-rebuilt r.signature e.symbol us under)
        ∙ ap (r.step e.symbol) words)) in
        let c = chosen.each q q_in in
        label_at q q_in ∙ ((same (get_or tuples q []) t c.0 tuple).0 (c.1 ∙ sym state) ∙ label)

    -- there are as many states as labels
    states_all : states_before targets (length targets) ≡ length presences
    states_all =
        let most : stage (take (length targets) targets) ≤ length presences =
        stage_within (length presences) (take (length targets) targets)
        (λ i l. omega (arith, get_or-take (length targets) targets i 0 (omega (arith, length-take (length targets) targets)), within_target i (omega (arith, length-take (length targets) targets)))) in
        ⊎_elim
        (λ (short : states_before targets (length targets) < length presences).
        let f = is.numbered (states_before targets (length targets)) short in
        let p = f.1 in
        absurd (omega (arith, target_states targets p.place (length targets) p.within p.within, p.target)))
        (λ (l : length presences ≤ states_before targets (length targets)). omega arith)
        (cases_lt (states_before targets (length targets)) (length presences))

    states_few : (k : ℕ) → states_before targets k ≤ length presences
    states_few k =
        stage_within (length presences) (take k targets)
        (λ i l. let m : i < k = omega (arith, length-take k targets) in omega (arith, get_or-take k targets i 0 m, within_target i (omega (arith, length-take k targets))))

    -- a target is a state before it, or the next one
    known_at : (k : ℕ) → k < length targets → get_or targets k 0 ≤ states_before targets k
    known_at k l =
        let s = states_before targets k in
        let q = get_or targets k 0 in
        ⊎_elim
        (λ (high : s < q).
        let p = (is.numbered s (omega (arith, within_target k l))).1 in
        ⊎_elim
        (λ (m : p.place < k). absurd (omega (arith, target_states targets p.place k m p.within, p.target)))
        (λ (m : k ≤ p.place). ⊎_elim
        (λ (e : k ≡ p.place). absurd (omega (arith, ap (λ i. get_or targets i 0) e, p.target)))
        (λ (other : k ≡ p.place → ⊥). absurd (omega (arith, p.before k (omega arith))))
        (cases_eq k p.place))
        (cases_lt p.place k))
        (λ (m : q ≤ s). m)
        (cases_lt s q)

    presences_before : (s : ℕ) → map first_word (take s labels) ≡ take s presences
    presences_before s =
        ext_get_or 0 (map first_word (take s labels)) (take s presences)
        (omega (arith, length-map (take s labels) first_word, length-take s labels, length-take s presences, length_labels))
        (λ i l.
        let m : i < s = omega (arith, length-map (take s labels) first_word, length-take s labels) in
        let n : i < length labels = omega (arith, length-map (take s labels) first_word, length-take s labels) in
        get_or-map first_word (take s labels) i [] 0 (omega (arith, length-map (take s labels) first_word))
        ∙ (ap first_word (get_or-take s labels i [] m)
        ∙ (sym (get_or-map first_word labels i [] 0 n)
        ∙ (ap (λ ps. get_or ps i 0) presences_labels
        ∙ sym (get_or-take s presences i 0 m)))))

    entry_over_less : (s : ℕ) (e : Entry) → IsEntry r.signature r.columns presences e → ((j : ℕ) → j < length e.kids → get_or e.kids j 0 < s) → IsEntry r.signature r.columns (take s presences) e
    entry_over_less s e h below = record {
      symbol = h.symbol;
      count = h.count;
      within = λ j l. omega (arith, h.within j l, below j l, length-take s presences);
      presence = λ j l. get_or-take s presences (get_or e.kids j 0) 0 (below j l) ∙ h.presence j l;
    }

    entry_over_all : (s : ℕ) (e : Entry) → IsEntry r.signature r.columns (take s presences) e → IsEntry r.signature r.columns presences e
    entry_over_all s e h = record {
      symbol = h.symbol;
      count = h.count;
      within = λ j l. omega (arith, h.within j l, length-take s presences);
      presence = λ j l. sym (get_or-take s presences (get_or e.kids j 0) 0 (omega (arith, h.within j l, length-take s presences))) ∙ h.presence j l;
    }

    due_at : (k : ℕ) (d : Entry) → k < length entries → IsDueOver r (take (states_before targets k) labels) (take k entries) (get_or entries k d)
    due_at k d l =
        let s = states_before targets k in
        let e = get_or entries k d in
        subst (λ (ps : List ℕ). IsDue r.signature r.columns ps (take k entries) e) (sym (presences_before s)) (record {
          is_entry = entry_over_less s e (entry_at k l d) (kids_known k d l);
          missing = λ c.
              let m : c.0 < k = omega (arith, c.1, length-take k entries) in
              let at : get_or entries c.0 d ≡ e = get_or_default entries c.0 d e (omega arith) ∙ (sym (get_or-take k entries c.0 e m) ∙ c.2) in
              before_irrefl e (subst (λ (x : Entry). ComesBefore x e) at (is.order.order c.0 k d m l));
          first = λ x h other.
              let c = is.all x (entry_over_all s x h) in
              let at : get_or entries c.0 d ≡ x = get_or_default entries c.0 d x c.1 ∙ c.2 in
              ⊎_elim
              (λ (m : c.0 < k). absurd (other (c.0, omega (arith, length-take k entries), get_or-take k entries c.0 x m ∙ c.2)))
              (λ (m : k ≤ c.0). ⊎_elim
              (λ (z : k ≡ c.0). inl (ap (λ i. get_or entries i d) z ∙ at))
              (λ (apart : k ≡ c.0 → ⊥). inr (subst (ComesBefore e) at (is.order.order k c.0 d (omega arith) c.1)))
              (cases_eq k c.0))
              (cases_lt c.0 k);
        })

    right_at : (k : ℕ) (d : Entry) → k < length targets → IsRightAt r targets entries labels k (get_or entries k d)
    right_at k d l =
        let m : k < length entries = omega (arith, is.count) in
        let e = get_or entries k d in
        record {
          due = due_at k d m;
          known = known_at k l;
          label = ap (λ q. get_or labels q []) (sym (target_at k e m (get_or_default entries k e d m)))
              ∙ (entry_labelled e (entry_at k m d) ∙ sym (entry_label_same r labels (states_before targets k) e (kids_known k d m)));
        }

    -- the targets are right, over one state for each label
    listed_right : IsRightPart r targets entries labels
    listed_right = record {
      right = record { within = omega arith; count = sym is.count; states = length_labels ∙ sym states_all; right = right_at };
      all = subst (λ (ps : List ℕ). HasAllEntries r.signature r.columns ps entries) (sym presences_labels) is.all;
    }

    listed_once : NoLabelTwice labels
    listed_once i j l m e =
        let a : i < length presences = omega (arith, length_labels) in
        let b : j < length presences = omega (arith, length_labels) in
        let t = chosen.each i a in
        let u = chosen.each j b in
        sym t.1 ∙ ((same (get_or tuples i []) (get_or tuples j []) t.0 u.0).1 (sym (label_at i a) ∙ (e ∙ label_at j b)) ∙ u.1)

    -- and they make the table again, where its accepting states are those of the labels
    part_table_again : (accepting : List ℕ → Bool) → length finals ≡ length presences → IsTableBy r.signature r.columns (label_of r) accepting table
        → part_table r accepting entries targets labels ≡ own
    part_table_again accepting count by =
        let f = final_by r.columns accepting in
        let same_finals : map f labels ≡ finals =
        ext_get_or false (map f labels) finals (length-map labels f ∙ (length_labels ∙ sym count))
        (λ q l.
        let m : q < length presences = omega (arith, length-map labels f, length_labels) in
        let t = chosen.each q m in
        let u = get_or tuples q [] in
        let told : get_or finals q false ≡ table.accepting (state_of table u) = ap table.accepting (sym t.1) in
        let width : full_presence (length u) ≡ full_presence r.columns = ap full_presence t.0.width in
        let word : first_word (label_of r u) ≡ presence u = TellsPresence-rule r.signature r law.tells u t.0 in
        get_or-map f labels q [] false (omega (arith, length_labels))
        ∙ (ap f (label_at q m)
        ∙ ⊎_elim
        (λ (full : presence u ≡ full_presence r.columns).
        if_equal (first_word (label_of r u)) (full_presence r.columns) (accepting (label_of r u)) false (word ∙ full)
        ∙ sym (told ∙ by.full u t.0 (full_from_presence u (full ∙ sym width))))
        (λ (other : presence u ≡ full_presence r.columns → ⊥).
        if_apart (first_word (label_of r u)) (full_presence r.columns) (accepting (label_of r u)) false (λ z. other (sym word ∙ z))
        ∙ sym (told ∙ by.partial u t.0 (λ z. other (presence_from_full u z ∙ width))))
        (cases_eq (presence u) (full_presence r.columns)))) in
        λ i. record { signature = r.signature; columns = r.columns; presences = presences_labels i; entries = entries; targets = targets; finals = same_finals i }

    state_targets : AreRightTargets r own
    state_targets = record { labels = labels; right = listed_right; once = listed_once; presences_are = presences_labels }

    own_targets : (accepting : List ℕ → Bool) → length finals ≡ length presences → IsTableBy r.signature r.columns (label_of r) accepting table → HasRightTargets r accepting own
    own_targets accepting count by = record { labels = labels; right = listed_right; once = listed_once; again = part_table_again accepting count by }

-- Result: of a table whose states are one for each label
pub targets_from_states : (r : LabelRule) (t : Listed) → IsLabelRule r → IsListed t → t.signature ≡ r.signature → t.columns ≡ r.columns
    → ((a b : Tuple) → IsTuple r.signature r.columns a → IsTuple r.signature r.columns b → (state_of (listed_table t) a ≡ state_of (listed_table t) b) ↔ (label_of r a ≡ label_of r b)) → AreRightTargets r t
targets_from_states r t law is sig columns same =
    let here : Listed = own r t.presences t.targets t.entries t.finals in
    let e : here ≡ t = λ i. record {
      signature = sym sig i;
      columns = sym columns i;
      presences = t.presences;
      entries = t.entries;
      targets = t.targets;
      finals = t.finals;
    } in
    subst (AreRightTargets r) e (state_targets r t.presences t.targets t.entries t.finals law (subst IsListed (sym e) is) same)

-- Result: and of one that accepts by its labels
pub right_targets : (r : LabelRule) (accepting : List ℕ → Bool) (t : Listed) → IsLabelRule r → IsListed t → length t.finals ≡ length t.presences
    → IsTableOf r.signature r.columns (label_of r) accepting (listed_table t) → IsTableBy r.signature r.columns (label_of r) accepting (listed_table t) → HasRightTargets r accepting t
right_targets r accepting t law is count of by =
    let here : Listed = own r t.presences t.targets t.entries t.finals in
    let e : here ≡ t = λ i. record {
      signature = sym by.signature i;
      columns = sym by.columns_are i;
      presences = t.presences;
      entries = t.entries;
      targets = t.targets;
      finals = t.finals;
    } in
    let moved = subst (λ (x : Listed). IsTableOf r.signature r.columns (label_of r) accepting (listed_table x)) (sym e) of in
    subst (HasRightTargets r accepting) e
    (own_targets r t.presences t.targets t.entries t.finals law (subst IsListed (sym e) is) moved.same accepting count
    (subst (λ (x : Listed). IsTableBy r.signature r.columns (label_of r) accepting (listed_table x)) (sym e) by))
