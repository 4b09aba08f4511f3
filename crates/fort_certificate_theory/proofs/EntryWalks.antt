-- A walk through the entries of a part, over states that grow.
use Rattle.std.proofs.Common.{◌≡◌, ℕ, zero, suc, ◌<◌, ◌≤◌, ◌⊎◌, List, [], ◌∷◌, ◌++◌, map, length, get_or, refl, ap, sym, ◌∙◌, arith, subst, inl, inr, ⊎_elim}
use Rattle.std.specs.Prelude.{Contains}
use Rattle.std.proofs.lemmas.Bool.{cases_lt}
use Rattle.std.proofs.lemmas.List.{length-map, get_or-map, ext_get_or, get_or_append_left, get_or_push, length_push, map-append, append-nil}
use Rattle.fort_tables.specs.Tuples.{Tuple, kids, rebuilt, IsTuple, AreKids}
use Rattle.fort_tables.specs.Entries.{Entry, no_entry, IsEntry, ComesBefore, IsNextEntry, IsLastEntry}
use Rattle.fort_tables.specs.Labels.{first_word, IsLabel, AreLabels}
use Rattle.fort_tables.proofs.TupleLaws.{IsTuple-rebuilt, fits_presence, root-rebuilt, kids-rebuilt}
use Rattle.fort_tables.proofs.OrderLaws.{before_trans, none_before, up_to_next, after_all_missing}
use Rattle.fort_tables.specs.LabelRules.{LabelRule, IsLabelRule, label_of, entry_label}
use Rattle.fort_tables.proofs.LabelRuleLaws.{label_of-step, TellsPresence-rule}
use Rattle.fort_certificate_theory.specs.PartSteps.{IsDueOver, AreAllOver, states_before, AreRightTo}
use Rattle.fort_certificate_theory.proofs.StageLaws.{states_more}
use Rattle.fort_certificate_theory.proofs.PartLaws.{right_none, right_old, right_new}

-- the targets before place k are right, and the walk through the entries stands at the last of theirs
pub record Walked (r : LabelRule) (qs : List ℕ) (k : ℕ) (entries : List Entry) (ws : List (List ℕ)) (last : Entry) : Type 0 where
  pub right : AreRightTo r qs k entries ws
  pub before : (i : ℕ) (d : Entry) → i < length entries → (get_or entries i d ≡ last) ⊎ ComesBefore (get_or entries i d) last
  pub all : (x : Entry) → IsEntry r.signature r.columns (map first_word ws) x → Contains entries x ⊎ ComesBefore last x

pub walked_none : (r : LabelRule) (qs : List ℕ) → Walked r qs 0 [] [] (no_entry r.columns)
walked_none r qs = record {
  right = right_none r qs;
  before = λ i d l. absurd (omega arith);
  all = λ x h. inr (none_before r.signature r.columns [] x h);
}

abbrev pub IsNextOf : LabelRule → List (List ℕ) → Entry → Entry → Type 0
IsNextOf r ws last e = IsNextEntry r.signature r.columns (map first_word ws) last e

entries_before : (entries : List Entry) (last e : Entry) → ((i : ℕ) (d : Entry) → i < length entries → (get_or entries i d ≡ last) ⊎ ComesBefore (get_or entries i d) last) → ComesBefore last e → (i : ℕ) (d : Entry) → i < length entries → ComesBefore (get_or entries i d) e
entries_before entries last e h b i d l = ⊎_elim (λ s. subst (λ (y : Entry). ComesBefore y e) (sym s) b) (λ c. before_trans (get_or entries i d) last e c b) (h i d l)

pub walked_due : (r : LabelRule) (qs : List ℕ) (k : ℕ) (entries : List Entry) (ws : List (List ℕ)) (last e : Entry) → (w : Walked r qs k entries ws last) → IsNextOf r ws last e → IsDueOver r ws entries e
walked_due r qs k entries ws last e w n = record {
  is_entry = n.is_entry;
  missing = after_all_missing entries e (entries_before entries last e w.before n.after);
  first = λ x h other. ⊎_elim (λ c. absurd (other c)) (λ b. n.first x h b) (w.all x h);
}

pub walked_all : (r : LabelRule) (qs : List ℕ) (k : ℕ) (entries : List Entry) (ws : List (List ℕ)) (last : Entry) → (w : Walked r qs k entries ws last) → IsLastEntry r.signature r.columns (map first_word ws) last → AreAllOver r ws entries
walked_all r qs k entries ws last w n x h = ⊎_elim (λ c. c) (λ b. absurd (n x h b)) (w.all x h)

entries_up_to : (entries : List Entry) (last e : Entry) → ((i : ℕ) (d : Entry) → i < length entries → (get_or entries i d ≡ last) ⊎ ComesBefore (get_or entries i d) last) → ComesBefore last e → (i : ℕ) (d : Entry) → i < length (entries ++ e ∷ []) → (get_or (entries ++ e ∷ []) i d ≡ e) ⊎ ComesBefore (get_or (entries ++ e ∷ []) i d) e
entries_up_to entries last e h b i d l =
    ⊎_elim
    (λ m. inr (subst (λ (y : Entry). ComesBefore y e) (sym (get_or_append_left entries (e ∷ []) d i m)) (entries_before entries last e h b i d m)))
    (λ m. inl (get_or_push entries e d i (omega (arith, length_push entries e))))
    (cases_lt i (length entries))

-- the target is a state there is
pub walked_old : (r : LabelRule) (qs : List ℕ) (k : ℕ) (entries : List Entry) (ws : List (List ℕ)) (last e : Entry) → Walked r qs k entries ws last → IsNextOf r ws last e → k < length qs → get_or qs k 0 < length ws → get_or ws (get_or qs k 0) [] ≡ entry_label r ws e → Walked r qs (suc k) (entries ++ e ∷ []) ws e
walked_old r qs k entries ws last e w n l m label = record {
  right = right_old r qs k entries ws e w.right (walked_due r qs k entries ws last e w n) l m label;
  before = entries_up_to entries last e w.before n.after;
  all = λ x h. up_to_next r.signature r.columns (map first_word ws) [] entries last e w.all n x (subst (λ (ps : List ℕ). IsEntry r.signature r.columns ps x) (sym (append-nil (map first_word ws))) h);
}

-- the target is a new state
pub walked_new : (r : LabelRule) (qs : List ℕ) (k : ℕ) (entries : List Entry) (ws : List (List ℕ)) (last e : Entry) → Walked r qs k entries ws last → IsNextOf r ws last e → k < length qs → get_or qs k 0 ≡ length ws → Walked r qs (suc k) (entries ++ e ∷ []) (ws ++ entry_label r ws e ∷ []) e
walked_new r qs k entries ws last e w n l m =
    let v = entry_label r ws e in
    record {
      right = right_new r qs k entries ws e w.right (walked_due r qs k entries ws last e w n) l m;
      before = entries_up_to entries last e w.before n.after;
      all = λ x h. up_to_next r.signature r.columns (map first_word ws) (map first_word (v ∷ [])) entries last e w.all n x (subst (λ (ps : List ℕ). IsEntry r.signature r.columns ps x) (map-append first_word ws (v ∷ [])) h);
    }

-- there are no more states than targets before a place
states_few : (qs : List ℕ) (n : ℕ) → n ≤ length qs → ((k : ℕ) → k < n → get_or qs k 0 ≤ states_before qs k) → states_before qs n ≤ n
states_few qs zero m h = omega arith
states_few qs (suc n) m h = omega (arith, states_more qs n (omega arith), h n (omega arith), states_few qs n (omega arith) (λ k l. h k (omega arith)))

pub walked_few : (r : LabelRule) (qs : List ℕ) (k : ℕ) (entries : List Entry) (ws : List (List ℕ)) (last : Entry) → Walked r qs k entries ws last → length ws ≤ k
walked_few r qs k entries ws last w = omega (arith, w.right.states, states_few qs k w.right.within (λ i l. (w.right.right i last l).known))

-- some tuples for labels
record Chosen (r : LabelRule) (ws : List (List ℕ)) (ks : List ℕ) : Type 0 where
  tuples : List Tuple
  count : length tuples ≡ length ks
  are : (j : ℕ) → j < length ks → IsTuple r.signature r.columns (get_or tuples j [])
  labels : (j : ℕ) → j < length ks → label_of r (get_or tuples j []) ≡ get_or ws (get_or ks j 0) []

chosen : (r : LabelRule) (ws : List (List ℕ)) (ks : List ℕ) → ((j : ℕ) → j < length ks → IsLabel r.signature r.columns (label_of r) (get_or ws (get_or ks j 0) [])) → Chosen r ws ks
chosen r ws [] h = record { tuples = []; count = refl; are = λ j l. absurd (omega arith); labels = λ j l. absurd (omega arith) }
chosen r ws (k ∷ ks) h =
    let here = h 0 (omega arith) in
    let later = chosen r ws ks (λ j l. h (suc j) (omega arith)) in
    record {
      tuples = here.0 ∷ later.tuples;
      count = ap suc later.count;
      are = λ j. elim j as (λ j. j < length (k ∷ ks) → IsTuple r.signature r.columns (get_or (here.0 ∷ later.tuples) j [])) [ zero ↦ (λ l. here.1) | suc i ↦ (λ l. later.are i (omega arith)) ];
      labels = λ j. elim j as (λ j. j < length (k ∷ ks) → label_of r (get_or (here.0 ∷ later.tuples) j []) ≡ get_or ws (get_or (k ∷ ks) j 0) []) [ zero ↦ (λ l. here.2) | suc i ↦ (λ l. later.labels i (omega arith)) ];
    }

-- the label of an entry over labels of tuples is that of a tuple
pub entry_label_is : (r : LabelRule) (ws : List (List ℕ)) (e : Entry) → IsLabelRule r → AreLabels r.signature r.columns (label_of r) ws → IsEntry r.signature r.columns (map first_word ws) e → IsLabel r.signature r.columns (label_of r) (entry_label r ws e)
entry_label_is r ws e law h k =
    let below : (j : ℕ) → j < length e.kids → get_or e.kids j 0 < length ws = λ j l. omega (arith, k.within j l, length-map ws first_word) in
    let c = chosen r ws e.kids (λ j l. h (get_or e.kids j 0) (below j l)) in
    let tells = TellsPresence-rule r.signature r law.tells in
    let are_kids : AreKids r.signature e.symbol c.tuples = record {
      count = c.count ∙ k.count;
      fits = λ j l.
          let m : j < length e.kids = omega (arith, c.count) in
          fits_presence r.signature e.symbol j (get_or c.tuples j []) ((c.are j m).width ∙ sym k.symbol.width)
          (sym (tells (get_or c.tuples j []) (c.are j m)) ∙ (ap first_word (c.labels j m) ∙ (sym (get_or-map first_word ws (get_or e.kids j 0) [] 0 (below j m)) ∙ k.presence j m)));
      grounded = λ j l. (c.are j (omega (arith, c.count))).grounded;
    } in
    let labels : map (label_of r) c.tuples ≡ map (λ q. get_or ws q []) e.kids =
    ext_get_or [] (map (label_of r) c.tuples) (map (λ q. get_or ws q []) e.kids)
    (length-map c.tuples (label_of r) ∙ (c.count ∙ sym (length-map e.kids (λ q. get_or ws q []))))
    (λ j l.
    let m : j < length c.tuples = omega (arith, length-map c.tuples (label_of r)) in
    get_or-map (label_of r) c.tuples j [] [] m ∙ (c.labels j (omega (arith, c.count)) ∙ sym (get_or-map (λ q. get_or ws q []) e.kids j 0 [] (omega (arith, c.count))))) in
    (rebuilt e.symbol c.tuples, IsTuple-rebuilt r.signature r.columns e.symbol c.tuples k.symbol are_kids, label_of-step r (rebuilt e.symbol c.tuples) ∙ (ap (λ f. r.step f (map (label_of r) (kids (rebuilt e.symbol c.tuples)))) (root-rebuilt e.symbol c.tuples) ∙ (ap (λ ts. r.step e.symbol (map (label_of r) ts)) (kids-rebuilt r.signature e.symbol c.tuples are_kids) ∙ ap (r.step e.symbol) labels)))

pub labels_push : (r : LabelRule) (ws : List (List ℕ)) (e : Entry) → IsLabelRule r → AreLabels r.signature r.columns (label_of r) ws → IsEntry r.signature r.columns (map first_word ws) e → AreLabels r.signature r.columns (label_of r) (ws ++ entry_label r ws e ∷ [])
labels_push r ws e law h k q l =
    let w = entry_label r ws e in
    ⊎_elim
    (λ m. subst (IsLabel r.signature r.columns (label_of r)) (sym (get_or_append_left ws (w ∷ []) [] q m)) (h q m))
    (λ m. subst (IsLabel r.signature r.columns (label_of r)) (sym (get_or_push ws w [] q (omega (arith, length_push ws w)))) (entry_label_is r ws e law h k))
    (cases_lt q (length ws))

-- a part that is right has at most as many states as targets
pub right_few : (r : LabelRule) (qs : List ℕ) (k : ℕ) (entries : List Entry) (ws : List (List ℕ)) → AreRightTo r qs k entries ws → length ws ≤ k
right_few r qs k entries ws h = omega (arith, h.states, states_few qs k h.within (λ i l. (h.right i (no_entry 0) l).known))
