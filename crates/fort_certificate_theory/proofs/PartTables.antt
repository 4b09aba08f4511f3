-- The targets of a part step that is right are a lawful table, and the label of a state is that of every tuple which the table gives the state.
use Rattle.std.proofs.Common.{◌≡◌, ℕ, ◌<◌, ◌≤◌, List, [], ◌++◌, map, length, take, drop, get_or, Bool, ap, sym, ◌∙◌, arith, subst, ⊎_elim}
use Rattle.std.specs.Prelude.{Contains}
use Rattle.std.proofs.lemmas.List.{length-map, get_or-map, ext_get_or, get_or_default, get_or-take, length-take, take-take, take-append-drop, map-append, length-append, get_or_append_left}
use Rattle.fort_theory.specs.Signatures.{Signature}
use Rattle.fort_tables.specs.Tuples.{Tuple, root, kid, kids, kid_count, presence, IsTuple}
use Rattle.fort_tables.specs.Entries.{Entry, entry, no_entry, IsEntry, ComesBefore, AreInOrder}
use Rattle.fort_tables.specs.Tables.{finished, AreFinals, listed_table, target_in, IsTable, state_of, IsFirstWith, IsListed}
use Rattle.fort_tables.specs.Labels.{first_word}
use Rattle.fort_tables.proofs.TupleLaws.{tuple_induction, fold_tuple-step, IsTuple-kid, length-tabulate, get_or-tabulate}
use Rattle.fort_tables.proofs.EntryLaws.{target_found}
use Rattle.fort_tables.proofs.OrderLaws.{order_one, entry_shrinks}
use Rattle.fort_tables.proofs.TableLaws.{table_state, IsEntry-states}
use Rattle.fort_tables.proofs.ReachLaws.{reached_from_firsts}
use Rattle.fort_tables.specs.LabelRules.{LabelRule, IsLabelRule, label_of, entry_label}
use Rattle.fort_certificate_theory.specs.PartSteps.{states_before, IsRightAt, AreRightTo, IsRightPart, part_made}
use Rattle.fort_certificate_theory.proofs.StageLaws.{states_le, target_states, IsFirst, first_target}

-- the labels up to a place begin those up to a later one
words_split : (ws : List (List ℕ)) (i j : ℕ) → i ≤ j → map first_word (take j ws) ≡ map first_word (take i ws) ++ map first_word (drop i (take j ws))
words_split ws i j l =
    ap (map first_word) (sym (take-append-drop i (take j ws)))
    ∙ (map-append first_word (take i (take j ws)) (drop i (take j ws))
    ∙ ap (λ us. map first_word us ++ map first_word (drop i (take j ws))) (take-take i j ws l))

whole_split : (ws : List (List ℕ)) (i : ℕ) → map first_word ws ≡ map first_word (take i ws) ++ map first_word (drop i ws)
whole_split ws i = ap (map first_word) (sym (take-append-drop i ws)) ∙ map-append first_word (take i ws) (drop i ws)

entry_extends : (sig : Signature) (n : ℕ) (ps qs : List ℕ) (e : Entry) → IsEntry sig n ps e → IsEntry sig n (ps ++ qs) e
entry_extends sig n ps qs e h = record {
  symbol = h.symbol;
  count = h.count;
  within = λ j l. omega (arith, h.within j l, length-append ps qs);
  presence = λ j l. get_or_append_left ps qs 0 (get_or e.kids j 0) (h.within j l) ∙ h.presence j l;
}

entry_whole : (sig : Signature) (n : ℕ) (ws : List (List ℕ)) (s : ℕ) (e : Entry) → IsEntry sig n (map first_word (take s ws)) e → IsEntry sig n (map first_word ws) e
entry_whole sig n ws s e h = subst (λ (ps : List ℕ). IsEntry sig n ps e) (sym (whole_split ws s)) (entry_extends sig n (map first_word (take s ws)) (map first_word (drop s ws)) e h)

contains_more : (entries : List Entry) (i j : ℕ) (x : Entry) → i ≤ j → Contains (take i entries) x → Contains (take j entries) x
contains_more entries i j x l (k, b, h) =
    let c : k < i = omega (arith, length-take i entries) in
    (k, omega (arith, length-take i entries, length-take j entries), get_or-take j entries k x (omega arith) ∙ (sym (get_or-take i entries k x c) ∙ h))

-- entries in order
row_before : (r : LabelRule) (qs : List ℕ) (n : ℕ) (entries : List Entry) (ws : List (List ℕ)) (i j : ℕ) (d : Entry) → AreRightTo r qs n entries ws → i < j → j < n → ComesBefore (get_or entries i d) (get_or entries j d)
row_before r qs n entries ws i j d h l m =
    let a = get_or entries i d in
    let b = get_or entries j d in
    let si = states_before qs i in
    let sj = states_before qs j in
    let at = (h.right i d (omega arith)).due in
    let bt = (h.right j d m).due in
    let le : si ≤ sj = states_le qs i j (omega arith) in
    let wide : IsEntry r.signature r.columns (map first_word (take si ws) ++ map first_word (drop si (take sj ws))) b =
    subst (λ (ps : List ℕ). IsEntry r.signature r.columns ps b) (words_split ws si sj le) bt.is_entry in
    ⊎_elim
    (λ k. ⊎_elim
    (λ e. absurd (bt.missing (i, omega (arith, length-take j entries, h.count), get_or-take j entries i b l ∙ (get_or_default entries i b d (omega (arith, h.count)) ∙ e))))
    (λ c. c)
    (at.first b k (λ c. bt.missing (contains_more entries i j b (omega arith) c))))
    (λ c. c)
    (entry_shrinks r.signature r.columns (map first_word (take si ws)) (map first_word (drop si (take sj ws))) a b at.is_entry wide)

pub rows_in_order : (r : LabelRule) (qs : List ℕ) (n : ℕ) (entries : List Entry) (ws : List (List ℕ)) → AreRightTo r qs n entries ws → AreInOrder r.signature r.columns (map first_word ws) entries
rows_in_order r qs n entries ws h = record {
  are = λ k d l. entry_whole r.signature r.columns ws (states_before qs k) (get_or entries k d) (h.right k d (omega (arith, h.count))).due.is_entry;
  order = λ i j d l m. row_before r qs n entries ws i j d h l (omega (arith, h.count));
}

-- where an entry of a part stands, and what is there
record Placed (r : LabelRule) (qs : List ℕ) (entries : List Entry) (ws : List (List ℕ)) (e : Entry) : Type 0 where
  place : ℕ
  within : place < length qs
  target : target_in entries qs e ≡ get_or qs place 0
  right : IsRightAt r qs entries ws place e

placed : (r : LabelRule) (qs : List ℕ) (entries : List Entry) (ws : List (List ℕ)) (e : Entry) → IsRightPart r qs entries ws → IsEntry r.signature r.columns (map first_word ws) e → Placed r qs entries ws e
placed r qs entries ws e h is =
    let c = h.all e is in
    let f = target_found entries qs e c.0 c.1 c.2 (omega (arith, h.right.count)) in
    let l : f.place < length qs = omega (arith, f.within, h.right.count) in
    record {
      place = f.place;
      within = l;
      target = f.target;
      right = subst (IsRightAt r qs entries ws f.place) f.is (h.right.right f.place e l);
    }

target_below : (r : LabelRule) (qs : List ℕ) (entries : List Entry) (ws : List (List ℕ)) (k : ℕ) → IsRightPart r qs entries ws → k < length qs → get_or qs k 0 < length ws
target_below r qs entries ws k h l = omega (arith, target_states qs k (length qs) l l, h.right.states)

pub entry_label_same : (r : LabelRule) (ws : List (List ℕ)) (s : ℕ) (e : Entry) → ((j : ℕ) → j < length e.kids → get_or e.kids j 0 < s) → entry_label r (take s ws) e ≡ entry_label r ws e
entry_label_same r ws s e h =
    ap (r.step e.symbol)
    (ext_get_or [] (map (λ q. get_or (take s ws) q []) e.kids) (map (λ q. get_or ws q []) e.kids)
    (length-map e.kids (λ q. get_or (take s ws) q []) ∙ sym (length-map e.kids (λ q. get_or ws q [])))
    (λ j l. let m : j < length e.kids = omega (arith, length-map e.kids (λ q. get_or (take s ws) q [])) in
    get_or-map (λ q. get_or (take s ws) q []) e.kids j 0 [] m
    ∙ (get_or-take s ws (get_or e.kids j 0) [] (h j m)
    ∙ sym (get_or-map (λ q. get_or ws q []) e.kids j 0 [] m))))

right_label : (r : LabelRule) (qs : List ℕ) (entries : List Entry) (ws : List (List ℕ)) (k : ℕ) (e : Entry) → IsRightAt r qs entries ws k e → get_or ws (get_or qs k 0) [] ≡ entry_label r ws e
right_label r qs entries ws k e h = h.label ∙ entry_label_same r ws (states_before qs k) e
    (λ j l. let m = h.due.is_entry.within j l in omega (arith, m, length-map (take (states_before qs k) ws) first_word, length-take (states_before qs k) ws))

presence_at : (r : LabelRule) (qs : List ℕ) (entries : List Entry) (ws : List (List ℕ)) (e : Entry) → IsLabelRule r → IsRightPart r qs entries ws → (p : Placed r qs entries ws e) → get_or (map first_word ws) (target_in entries qs e) 0 ≡ presence e.symbol
presence_at r qs entries ws e law h p =
    ap (λ q. get_or (map first_word ws) q 0) p.target
    ∙ (get_or-map first_word ws (get_or qs p.place 0) [] 0 (target_below r qs entries ws p.place h p.within)
    ∙ (ap first_word p.right.label ∙ law.tells e.symbol _))

first_known : (r : LabelRule) (qs : List ℕ) (entries : List Entry) (ws : List (List ℕ)) (q : ℕ) → IsRightPart r qs entries ws → q < length ws → (k : ℕ) × (k < length qs) × IsFirst qs q k
first_known r qs entries ws q h l = first_target qs (length qs) q (omega arith) (λ k m. (h.right.right k (no_entry 0) m).known) (omega (arith, h.right.states))

-- the table of a part step that is right
pub part_listed : (r : LabelRule) (qs : List ℕ) (entries : List Entry) (ws : List (List ℕ)) (finals : List Bool) → IsLabelRule r → IsRightPart r qs entries ws → AreFinals (part_made r entries qs ws) finals → IsListed (finished (part_made r entries qs ws) finals)
part_listed r qs entries ws finals law h f =
    let t = finished (part_made r entries qs ws) finals in
    let order = rows_in_order r qs (length qs) entries ws h.right in
    let is : IsTable (listed_table t) = record {
      some = law.some;
      narrow = law.narrow;
      within = λ e k. let p = placed r qs entries ws e h k in omega (arith, p.target, target_below r qs entries ws p.place h p.within, length-map ws first_word);
      presence = λ e k. presence_at r qs entries ws e law h (placed r qs entries ws e h k);
      full = f.full;
    } in
    record {
      order = order;
      all = h.all;
      count = sym h.right.count;
      table = is;
      reached = reached_from_firsts (listed_table t) is (λ q l.
          let m : q < length ws = omega (arith, length-map ws first_word) in
          let p = first_known r qs entries ws q h m in
          let d = no_entry r.columns in
          let e = get_or entries p.0 d in
          let right = h.right.right p.0 d p.1 in
          let here = entry_whole r.signature r.columns ws (states_before qs p.0) e right.due.is_entry in
          let found = target_found entries qs e p.0 (omega (arith, h.right.count)) (get_or_default entries p.0 e d (omega (arith, h.right.count))) (omega (arith, h.right.count)) in
          let l' : p.0 < length entries = omega (arith, p.1, h.right.count) in
          let at : get_or entries found.place e ≡ get_or entries p.0 e = found.is ∙ get_or_default entries p.0 d e l' in
          let same : found.place ≡ p.0 = order_one r.signature r.columns (map first_word ws) entries found.place p.0 e order found.within l' at in
          record {
            first = e;
            is_entry = here;
            target = found.target ∙ (ap (λ i. get_or qs i 0) same ∙ p.2.target);
            earlier = λ j b. omega (arith, right.due.is_entry.within j b, length-map (take (states_before qs p.0) ws) first_word, length-take (states_before qs p.0) ws, p.2.before);
          });
      numbered = λ q l.
          let m : q < length ws = omega (arith, length-map ws first_word) in
          let p = first_known r qs entries ws q h m in
          let d = no_entry r.columns in
          let first : IsFirstWith entries qs q (get_or entries p.0 d) = record {
            place = p.0;
            within = p.1;
            target = p.2.target;
            before = λ j b. omega (arith, target_states qs j p.0 b (omega (arith, p.1)), p.2.before);
            is = λ c. get_or_default entries p.0 c d (omega (arith, h.right.count));
          } in
          (get_or entries p.0 d, first);
    }

-- the label of a state is that of each tuple which the table gives the state
pub state_label : (r : LabelRule) (qs : List ℕ) (entries : List Entry) (ws : List (List ℕ)) (finals : List Bool) → IsLabelRule r → IsRightPart r qs entries ws → AreFinals (part_made r entries qs ws) finals →
    (t : Tuple) → IsTuple r.signature r.columns t → get_or ws (state_of (listed_table (finished (part_made r entries qs ws) finals)) t) [] ≡ label_of r t
state_label r qs entries ws finals law h f =
    let table = listed_table (finished (part_made r entries qs ws) finals) in
    let is : IsTable table = (part_listed r qs entries ws finals law h f).table in
    let state = state_of table in
    tuple_induction (λ t. IsTuple r.signature r.columns t → get_or ws (state t) [] ≡ label_of r t)
    (λ t ih k.
    let e : Entry = record { symbol = root t; kids = map state (kids t) } in
    let entry_is = IsEntry-states r.signature r.columns (map first_word ws) state t k (λ j l. table_state table is (kid t j) (IsTuple-kid r.signature r.columns t j k l)) in
    let p = placed r qs entries ws e h entry_is in
    let labels : map (λ q. get_or ws q []) (map state (kids t)) ≡ map (label_of r) (kids t) =
    ext_get_or [] (map (λ q. get_or ws q []) (map state (kids t))) (map (label_of r) (kids t))
    (length-map (map state (kids t)) (λ q. get_or ws q []) ∙ (length-map (kids t) state ∙ sym (length-map (kids t) (label_of r))))
    (λ j l.
    let m : j < length (kids t) = omega (arith, length-map (map state (kids t)) (λ q. get_or ws q []), length-map (kids t) state) in
    let c : j < kid_count t = omega (arith, length-tabulate (kid_count t) (kid t)) in
    let at : get_or (kids t) j [] ≡ kid t j = get_or-tabulate (kid_count t) (kid t) j [] c in
    get_or-map (λ q. get_or ws q []) (map state (kids t)) j 0 [] (omega (arith, length-map (kids t) state))
    ∙ (ap (λ q. get_or ws q []) (get_or-map state (kids t) j [] 0 m ∙ ap state at)
    ∙ (ih j c (IsTuple-kid r.signature r.columns t j k c)
    ∙ sym (get_or-map (label_of r) (kids t) j [] [] m ∙ ap (label_of r) at)))) in
    ap (λ q. get_or ws q []) (fold_tuple-step (λ g ks. table.target (entry g ks)) t ∙ p.target)
    ∙ (right_label r qs entries ws p.place e p.right
    ∙ (ap (r.step (root t)) labels
    ∙ sym (fold_tuple-step r.step t))))
