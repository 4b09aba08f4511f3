-- A rule whose labels have bounded words has a table: its states are the labels.
use Rattle.std.proofs.Common.{◌≡◌, ℕ, ◌<◌, List, [], map, length, get_or, Bool, false, refl, ap, sym, ◌∙◌, arith}
use Rattle.std.proofs.lemmas.List.{length-map, get_or-map, ext_get_or}
use Rattle.fort_theory.specs.Signatures.{Signature}
use Rattle.fort_tables.specs.Tuples.{Tuple, root, kid, kids, kid_count, IsTuple}
use Rattle.fort_tables.specs.Entries.{Entry, entry}
use Rattle.fort_tables.specs.Tables.{Table, IsTable, state_of, full_presence}
use Rattle.fort_tables.specs.Labels.{Labelling, first_word, final_by, IsTableOf}
use Rattle.fort_tables.specs.LabelRules.{LabelRule, IsLabelRule, label_of, entry_label, IsTableBy}
use Rattle.fort_tables.proofs.EqualTests.{if_equal, if_apart, equal_from_if}
use Rattle.fort_tables.proofs.PresenceLaws.{presence_from_full, full_from_presence}
use Rattle.fort_tables.proofs.TupleLaws.{tuple_induction, fold_tuple-step, IsTuple-kid, length-tabulate, get_or-tabulate}
use Rattle.fort_tables.proofs.TableLaws.{table_state, IsEntry-states}
use Rattle.fort_tables.proofs.LabelRuleLaws.{TellsPresence-rule, IsTableBy-labels}
use Rattle.fort_right_answers.proofs.AllLabels.{place, place_value, place_within, IsBounded, AreAllLabels, all_labels}

pub record HasTable (sig : Signature) (columns : ℕ) (label : Labelling) (accepting : List ℕ → Bool) : Type 0 where
  pub table : Table
  pub of : IsTableOf sig columns label accepting table
  pub by : IsTableBy sig columns label accepting table

module _ (r : LabelRule) (accepting : List ℕ → Bool) (law : IsLabelRule r) (all : AreAllLabels r) where
  abbrev ws : List (List ℕ)
  ws = all.list

  -- a state for each label
  abbrev label_table : Table
  label_table = record {
    signature = r.signature;
    columns = r.columns;
    presences = map first_word ws;
    target = λ e. place ws (entry_label r ws e);
    accepting = λ q. final_by r.columns accepting (get_or ws q []);
  }

  is_table : IsTable label_table
  is_table = record {
    some = law.some;
    narrow = law.narrow;
    within = λ e h. omega (arith, place_within ws (entry_label r ws e) (all.closed e h), length-map ws first_word);
    presence = λ e h.
        let v = entry_label r ws e in
        let l = place_within ws v (all.closed e h) in
        get_or-map first_word ws (place ws v) [] 0 l ∙ (ap first_word (place_value ws v l) ∙ law.tells e.symbol _);
    full = λ q l h.
        let m : q < length ws = omega (arith, length-map ws first_word) in
        get_or-map first_word ws q [] 0 m ∙ equal_from_if (first_word (get_or ws q [])) (full_presence r.columns) (accepting (get_or ws q [])) h;
  }

  within : (t : Tuple) → IsTuple r.signature r.columns t → state_of label_table t < length ws
  within t h = omega (arith, (table_state label_table is_table t h).within, length-map ws first_word)

  kid_words_are : (t : Tuple) → ((j : ℕ) → j < kid_count t → get_or ws (state_of label_table (kid t j)) [] ≡ label_of r (kid t j))
      → map (λ q. get_or ws q []) (map (state_of label_table) (kids t)) ≡ map (label_of r) (kids t)
  kid_words_are t known =
      let state = state_of label_table in
      let word : ℕ → List ℕ = λ q. get_or ws q [] in
      ext_get_or [] (map word (map state (kids t))) (map (label_of r) (kids t))
      (length-map (map state (kids t)) word ∙ (length-map (kids t) state ∙ sym (length-map (kids t) (label_of r))))
      (λ j l.
      let m : j < length (kids t) = omega (arith, length-map (map state (kids t)) word, length-map (kids t) state) in
      let c : j < kid_count t = omega (arith, length-tabulate (kid_count t) (kid t)) in
      let at : get_or (kids t) j [] ≡ kid t j = get_or-tabulate (kid_count t) (kid t) j [] c in
      get_or-map word (map state (kids t)) j 0 [] (omega (arith, length-map (kids t) state))
      ∙ (ap word (get_or-map state (kids t) j [] 0 m ∙ ap state at)
      ∙ (known j c ∙ sym (get_or-map (label_of r) (kids t) j [] [] m ∙ ap (label_of r) at))))

  -- the label of a state is that of each tuple which the table gives the state
  state_label : (t : Tuple) → IsTuple r.signature r.columns t → get_or ws (state_of label_table t) [] ≡ label_of r t
  state_label = tuple_induction (λ t. IsTuple r.signature r.columns t → get_or ws (state_of label_table t) [] ≡ label_of r t)
      (λ t ih k.
      let state = state_of label_table in
      let e : Entry = record { symbol = root t; kids = map state (kids t) } in
      let is = IsEntry-states r.signature r.columns (map first_word ws) state t k
      (λ j l. table_state label_table is_table (kid t j) (IsTuple-kid r.signature r.columns t j k l)) in
      ap (λ q. get_or ws q []) (fold_tuple-step (λ g ks. label_table.target (entry g ks)) t)
      ∙ (place_value ws (entry_label r ws e) (place_within ws (entry_label r ws e) (all.closed e is))
      ∙ (ap (r.step (root t)) (kid_words_are t (λ j l. ih j l (IsTuple-kid r.signature r.columns t j k l)))
      ∙ sym (fold_tuple-step r.step t))))

  final : (t : Tuple) → IsTuple r.signature r.columns t → label_table.accepting (state_of label_table t) ≡ final_by r.columns accepting (label_of r t)
  final t h = ap (final_by r.columns accepting) (state_label t h)

  reached_at : (q : ℕ) → q < length ws → (t : Tuple) × IsTuple r.signature r.columns t × (state_of label_table t ≡ q)
  reached_at q l =
      let ts = all.are.tuples in
      let m : q < length ts = omega (arith, length-map ts (label_of r), ap length all.are.labels) in
      let t = get_or ts q [] in
      let h = all.are.are q m in
      let at : label_of r t ≡ get_or ws q [] = sym (get_or-map (label_of r) ts q [] [] m) ∙ ap (λ vs. get_or vs q []) all.are.labels in
      (t, h, all.are.once (state_of label_table t) q (within t h) l (state_label t h ∙ at))

  is_table_of : IsTableOf r.signature r.columns (label_of r) accepting label_table
  is_table_of =
      let n = r.columns in
      let tells = TellsPresence-rule r.signature r law.tells in
      record {
        signature = refl;
        columns_are = refl;
        same = λ t u h k. (
          (λ e. sym (state_label t h) ∙ (ap (λ q. get_or ws q []) e ∙ state_label u k)),
          (λ e. all.are.once (state_of label_table t) (state_of label_table u) (within t h) (within u k) (state_label t h ∙ (e ∙ sym (state_label u k)))),
        );
        reached = λ q l. reached_at q (omega (arith, length-map ws first_word));
        state = λ t h. (table_state label_table is_table t h).within;
        full = λ t k p. final t k ∙ if_equal (first_word (label_of r t)) (full_presence n) (accepting (label_of r t)) false (tells t k ∙ (presence_from_full t p ∙ ap full_presence k.width));
        partial = λ t k p. final t k ∙ if_apart (first_word (label_of r t)) (full_presence n) (accepting (label_of r t)) false (λ e. p (full_from_presence t (sym (tells t k) ∙ (e ∙ ap full_presence (sym k.width)))));
      }

-- Result: a rule has a table
pub table_exists : (r : LabelRule) (accepting : List ℕ → Bool) → IsLabelRule r → IsBounded r → HasTable r.signature r.columns (label_of r) accepting
table_exists r accepting law bounded =
    let all = all_labels r law bounded in
    let of = is_table_of r accepting law all in
    record {
      table = label_table r accepting law all;
      of = of;
      by = IsTableBy-labels r.signature r.columns (label_of r) accepting (label_table r accepting law all) of (is_table r accepting law all);
    }
