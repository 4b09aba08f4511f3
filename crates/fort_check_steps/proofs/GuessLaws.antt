-- One turn of the walk that makes the states of a part.
use Rattle.std.proofs.Common.{◌≡◌, ℕ, zero, suc, ◌+◌, ◌^◌, ◌<◌, ◌≤◌, ◌⊎◌, List, [], ◌∷◌, ◌++◌, map, length, take, get_or, refl, ap, sym, ◌∙◌, arith, add-one, subst, inl, inr, ⊎_elim, length-append}
use Rattle.std.proofs.lemmas.Bool.{cases_lt}
use Rattle.std.proofs.lemmas.List.{map-append, append-nil, length-map, take_all, take-append-le, get_or_append_left, get_or_push, length_push}
use Rattle.std.proofs.Math.Seq.{take-length}
use Rattle.fort_theory.specs.Signatures.{Signature}
use Rattle.fort_tables.specs.Tuples.{presence}
use Rattle.fort_tables.specs.Entries.{Entry, no_entry, stage, IsEntry, ComesBefore, AreInOrder}
use Rattle.fort_tables.specs.Labels.{first_word, AreLabels}
use Rattle.fort_tables.specs.LabelRules.{LabelRule, IsLabelRule, label_of, entry_label}
use Rattle.fort_tables.proofs.OrderLaws.{before_trans, none_before, up_to_next, after_all_missing, order_push}
use Rattle.fort_certificate_theory.specs.PartSteps.{IsDueOver, states_before}
use Rattle.fort_certificate_theory.proofs.StageLaws.{states_more, states_le, target_states}
use Rattle.fort_certificate_theory.proofs.EntryWalks.{IsNextOf, labels_push}
use Rattle.fort_check_steps.specs.Room.{most_states}
use Rattle.fort_check_steps.specs.OnePlace.{IsNewState, IsKnownState, IsMade}
use Rattle.fort_check_steps.specs.Guesses.{IsGuess, Guessed}

guessed_none : (r : LabelRule) (qs : List ℕ) → Guessed r qs 0 [] [] (no_entry r.columns)
guessed_none r qs = record {
  within = omega arith;
  count = refl;
  states = refl;
  each = λ i d l. absurd (omega arith);
  order = record { are = λ i d l. absurd (omega arith); order = λ i j d l m. absurd (omega arith) };
  before = λ i d l. absurd (omega arith);
  all = λ x h. inr (none_before r.signature r.columns [] x h);
}

-- each entry comes before what comes after the last one
pub all_before : (entries : List Entry) (last x : Entry) → ((i : ℕ) (d : Entry) → i < length entries → (get_or entries i d ≡ last) ⊎ ComesBefore (get_or entries i d) last)
    → ComesBefore last x → (i : ℕ) (d : Entry) → i < length entries → ComesBefore (get_or entries i d) x
all_before entries last x h b i d l =
    ⊎_elim
    (λ e. subst (λ (y : Entry). ComesBefore y x) (sym e) b)
    (λ a. before_trans (get_or entries i d) last x a b)
    (h i d l)

guessed_due : (r : LabelRule) (qs : List ℕ) (k : ℕ) (entries : List Entry) (ws : List (List ℕ)) (last e : Entry) → Guessed r qs k entries ws last → IsNextOf r ws last e → IsDueOver r ws entries e
guessed_due r qs k entries ws last e w n = record {
  is_entry = n.is_entry;
  missing = after_all_missing entries e (all_before entries last e w.before n.after);
  first = λ x h other. ⊎_elim (λ c. absurd (other c)) (λ b. n.first x h b) (w.all x h);
}

-- a guess stays one where entries and states are added
guess_same : (r : LabelRule) (qs : List ℕ) (entries entries' : List Entry) (ws ws' : List (List ℕ)) (k : ℕ) (e : Entry) → IsGuess r qs entries ws k e
    → take k entries' ≡ take k entries → take (states_before qs k) ws' ≡ take (states_before qs k) ws → IsGuess r qs entries' ws' k e
guess_same r qs entries entries' ws ws' k e h a b = record {
  due = subst (λ (us : List (List ℕ)). IsDueOver r us (take k entries') e) (sym b) (subst (λ (es : List Entry). IsDueOver r (take (states_before qs k) ws) es e) (sym a) h.due);
  known = h.known;
}

guesses_push : (r : LabelRule) (qs : List ℕ) (k : ℕ) (entries : List Entry) (ws vs : List (List ℕ)) (last e : Entry) → Guessed r qs k entries ws last → IsDueOver r ws entries e
    → get_or qs k 0 ≤ length ws → (i : ℕ) (d : Entry) → i < suc k → IsGuess r qs (entries ++ e ∷ []) (ws ++ vs) i (get_or (entries ++ e ∷ []) i d)
guesses_push r qs k entries ws vs last e w due known i d l =
    let more = entries ++ e ∷ [] in
    ⊎_elim
    (λ m.
    let at_place : get_or more i d ≡ get_or entries i d = get_or_append_left entries (e ∷ []) d i (omega (arith, w.count)) in
    subst (IsGuess r qs more (ws ++ vs) i) (sym at_place)
    (guess_same r qs entries more ws (ws ++ vs) i (get_or entries i d) (w.each i d m)
    (take-append-le i entries (e ∷ []) (omega (arith, w.count)))
    (take-append-le (states_before qs i) ws vs (omega (arith, states_le qs i k (omega arith), w.states)))))
    (λ m.
    let is : k ≡ i = omega arith in
    let at_place : get_or more i d ≡ e = get_or_push entries e d i (omega (arith, w.count)) in
    let at_end : take k more ≡ entries = take-append-le k entries (e ∷ []) (omega (arith, w.count)) ∙ take_all k entries (omega (arith, w.count)) in
    let old : take (states_before qs k) (ws ++ vs) ≡ ws = take-append-le (states_before qs k) ws vs (omega (arith, w.states)) ∙ take_all (states_before qs k) ws (omega (arith, w.states)) in
    subst (IsGuess r qs more (ws ++ vs) i) (sym at_place)
    (subst (λ (j : ℕ). IsGuess r qs more (ws ++ vs) j e) is
    (record {
      due = subst (λ (us : List (List ℕ)). IsDueOver r us (take k more) e) (sym old) (subst (λ (es : List Entry). IsDueOver r ws es e) (sym at_end) due);
      known = omega (arith, known, w.states);
    })))
    (cases_lt i k)

-- entries in order are so over more states
order_on : (sig : Signature) (n : ℕ) (ps qs : List ℕ) (entries : List Entry) → AreInOrder sig n ps entries → AreInOrder sig n (ps ++ qs) entries
order_on sig n ps qs entries h = record {
  are = λ k d l.
      let e = get_or entries k d in
      let is = h.are k d l in
      record {
        symbol = is.symbol;
        count = is.count;
        within = λ j m. omega (arith, is.within j m, length-append ps qs);
        presence = λ j m. get_or_append_left ps qs 0 (get_or e.kids j 0) (is.within j m) ∙ is.presence j m;
      };
  order = h.order;
}

entries_up_to : (entries : List Entry) (last e : Entry) → ((i : ℕ) (d : Entry) → i < length entries → (get_or entries i d ≡ last) ⊎ ComesBefore (get_or entries i d) last)
    → ComesBefore last e → (i : ℕ) (d : Entry) → i < length (entries ++ e ∷ []) → (get_or (entries ++ e ∷ []) i d ≡ e) ⊎ ComesBefore (get_or (entries ++ e ∷ []) i d) e
entries_up_to entries last e h b i d l =
    ⊎_elim
    (λ m. inr (subst (λ (y : Entry). ComesBefore y e) (sym (get_or_append_left entries (e ∷ []) d i m)) (all_before entries last e h b i d m)))
    (λ m. inl (get_or_push entries e d i (omega (arith, length_push entries e))))
    (cases_lt i (length entries))

-- one more target, and the states that it adds
guessed_push : (r : LabelRule) (qs : List ℕ) (k : ℕ) (entries : List Entry) (ws vs : List (List ℕ)) (last e : Entry) → Guessed r qs k entries ws last → IsNextOf r ws last e
    → k < length qs → get_or qs k 0 ≤ length ws → length (ws ++ vs) ≡ states_before qs (suc k) → Guessed r qs (suc k) (entries ++ e ∷ []) (ws ++ vs) e
guessed_push r qs k entries ws vs last e w n l known states =
    let words = map-append first_word ws vs in
    let order = order_on r.signature r.columns (map first_word ws) (map first_word vs) entries w.order in
    let due = order_on r.signature r.columns (map first_word ws) (map first_word vs) (e ∷ []) (record { are = λ i d m. one e n.is_entry i d m; order = λ i j d a b. absurd (omega arith) }) in
    record {
      within = omega arith;
      count = omega (arith, length_push entries e, w.count);
      states = states;
      each = guesses_push r qs k entries ws vs last e w (guessed_due r qs k entries ws last e w n) known;
      order = subst (λ (ps : List ℕ). AreInOrder r.signature r.columns ps (entries ++ e ∷ [])) (sym words)
          (order_push r.signature r.columns (map first_word ws ++ map first_word vs) entries e order (due.are 0 e (omega arith)) (all_before entries last e w.before n.after));
      before = entries_up_to entries last e w.before n.after;
      all = λ x h. up_to_next r.signature r.columns (map first_word ws) (map first_word vs) entries last e w.all n x (subst (λ (ps : List ℕ). IsEntry r.signature r.columns ps x) words h);
    }
  where
    one : (e : Entry) → IsEntry r.signature r.columns (map first_word ws) e → (i : ℕ) (d : Entry) → i < length (e ∷ []) → IsEntry r.signature r.columns (map first_word ws) (get_or (e ∷ []) i d)
    one e is zero d m = is
    one e is (suc i) d m = absurd (omega arith)

guessed_old : (r : LabelRule) (qs : List ℕ) (k : ℕ) (entries : List Entry) (ws : List (List ℕ)) (last e : Entry) → Guessed r qs k entries ws last → IsNextOf r ws last e
    → k < length qs → get_or qs k 0 < length ws → Guessed r qs (suc k) (entries ++ e ∷ []) ws e
guessed_old r qs k entries ws last e w n l m =
    subst (λ (us : List (List ℕ)). Guessed r qs (suc k) (entries ++ e ∷ []) us e) (append-nil ws)
    (guessed_push r qs k entries ws [] last e w n l (omega arith) (omega (arith, w.states, states_more qs k l, ap length (append-nil ws))))

guessed_new : (r : LabelRule) (qs : List ℕ) (k : ℕ) (entries : List Entry) (ws : List (List ℕ)) (last e : Entry) → Guessed r qs k entries ws last → IsNextOf r ws last e
    → k < length qs → get_or qs k 0 ≡ length ws → Guessed r qs (suc k) (entries ++ e ∷ []) (ws ++ entry_label r ws e ∷ []) e
guessed_new r qs k entries ws last e w n l m =
    let v = entry_label r ws e in
    guessed_push r qs k entries ws (v ∷ []) last e w n l (omega arith) (omega (arith, w.states, states_more qs k l, length_push ws v))

-- there are no more states than targets before a place
states_few : (qs : List ℕ) (n : ℕ) → n ≤ length qs → ((k : ℕ) → k < n → get_or qs k 0 ≤ states_before qs k) → states_before qs n ≤ n
states_few qs zero m h = omega arith
states_few qs (suc n) m h = omega (arith, states_more qs n (omega arith), h n (omega arith), states_few qs n (omega arith) (λ k l. h k (omega arith)))

guessed_few : (r : LabelRule) (qs : List ℕ) (k : ℕ) (entries : List Entry) (ws : List (List ℕ)) (last : Entry) → Guessed r qs k entries ws last → length ws ≤ k
guessed_few r qs k entries ws last w = omega (arith, w.states, states_few qs k w.within (λ i l. (w.each i last l).known))

-- there is room for a new state
pub new_guess_room : (r : LabelRule) (qs : List ℕ) (k : ℕ) (entries : List Entry) (ws : List (List ℕ)) (last : Entry) → Guessed r qs k entries ws last → k < length qs → get_or qs k 0 ≡ length ws → length ws < most_states qs
new_guess_room r qs k entries ws last w l e = omega (arith, guessed_few r qs k entries ws last w, target_states qs k (length qs) l l, ap stage (take-length qs))

-- there are no more states so far than there is room for
pub guessed_most : (r : LabelRule) (qs : List ℕ) (k : ℕ) (entries : List Entry) (ws : List (List ℕ)) (last : Entry) → Guessed r qs k entries ws last → length ws ≤ most_states qs
guessed_most r qs k entries ws last w = omega (arith, guessed_few r qs k entries ws last w, w.within, w.states, states_le qs k (length qs) w.within, ap stage (take-length qs))

-- what is known after a target was taken
pub record IsAfterGuess (r : LabelRule) (qs : List ℕ) (k : ℕ) (entries : List Entry) (ws : List (List ℕ)) (ps : List ℕ) (last : Entry) : Type 0 where
  pub guessed : Guessed r qs k entries ws last
  pub labels : AreLabels r.signature r.columns (label_of r) ws
  pub presences : ps ≡ map first_word ws

pub made : (r : LabelRule) (qs : List ℕ) (k : ℕ) (entries : List Entry) (ws ws' : List (List ℕ)) (ps ps' : List ℕ) (last e last' : Entry) → IsLabelRule r → IsAfterGuess r qs k entries ws ps last → IsNextOf r ws last e
    → k < length qs → IsMade r e (get_or qs k 0) ps ps' ws ws' → last' ≡ e → IsAfterGuess r qs (k + 1) (entries ++ e ∷ []) ws' ps' last'
made r qs k entries ws ws' ps ps' last e last' law a n l h is =
    subst (λ (x : Entry). IsAfterGuess r qs (k + 1) (entries ++ e ∷ []) ws' ps' x) (sym is)
    (subst (λ (i : ℕ). IsAfterGuess r qs i (entries ++ e ∷ []) ws' ps' e) (sym (add-one k)) (⊎_elim new old h))
  where
    new : IsNewState r e (get_or qs k 0) ps ps' ws ws' → IsAfterGuess r qs (suc k) (entries ++ e ∷ []) ws' ps' e
    new t =
        let v = entry_label r ws e in
        let words : ps' ≡ map first_word (ws ++ v ∷ []) =
        t.presences ∙ (ap (λ xs. xs ++ presence e.symbol ∷ []) a.presences
        ∙ (ap (λ p. map first_word ws ++ p ∷ []) (sym (law.tells e.symbol _))
        ∙ sym (map-append first_word ws (v ∷ [])))) in
        let all : IsAfterGuess r qs (suc k) (entries ++ e ∷ []) (ws ++ v ∷ []) ps' e = record {
          guessed = guessed_new r qs k entries ws last e a.guessed n l t.number;
          labels = labels_push r ws e law a.labels n.is_entry;
          presences = words;
        } in
        subst (λ (us : List (List ℕ)). IsAfterGuess r qs (suc k) (entries ++ e ∷ []) us ps' e) (sym t.labels) all

    old : IsKnownState (get_or qs k 0) ps ps' ws ws' → IsAfterGuess r qs (suc k) (entries ++ e ∷ []) ws' ps' e
    old t =
        let all : IsAfterGuess r qs (suc k) (entries ++ e ∷ []) ws ps' e = record {
          guessed = guessed_old r qs k entries ws last e a.guessed n l t.number;
          labels = a.labels;
          presences = t.presences ∙ a.presences;
        } in
        subst (λ (us : List (List ℕ)). IsAfterGuess r qs (suc k) (entries ++ e ∷ []) us ps' e) (sym t.labels) all

pub none_made : (r : LabelRule) (qs : List ℕ) (ws : List (List ℕ)) (ps : List ℕ) (last : Entry) (n : ℕ) → ws ≡ [] → ps ≡ [] → n ≡ r.columns → last ≡ no_entry n → IsAfterGuess r qs 0 [] ws ps last
none_made r qs ws ps last n a b c d =
    let none : IsAfterGuess r qs 0 [] [] [] (no_entry r.columns) = record { guessed = guessed_none r qs; labels = λ q l. absurd (omega arith); presences = refl } in
    subst (λ (x : List (List ℕ)). IsAfterGuess r qs 0 [] x ps last) (sym a)
    (subst (λ (x : List ℕ). IsAfterGuess r qs 0 [] [] x last) (sym b)
    (subst (λ (x : Entry). IsAfterGuess r qs 0 [] [] [] x) (sym (d ∙ ap no_entry c)) none))

-- presences and labels are as many
pub made_states : (r : LabelRule) (qs : List ℕ) (k : ℕ) (entries : List Entry) (ws : List (List ℕ)) (ps : List ℕ) (last : Entry) → IsAfterGuess r qs k entries ws ps last → length ps ≡ length ws
made_states r qs k entries ws ps last a = ap length a.presences ∙ length-map ws first_word

-- the states so far are fewer than 2 ^ 32 where the targets are
pub made_few : (r : LabelRule) (qs : List ℕ) (k : ℕ) (entries : List Entry) (ws : List (List ℕ)) (ps : List ℕ) (last : Entry) → IsAfterGuess r qs k entries ws ps last → length qs < 2 ^ 32 → length ps < 2 ^ 32
made_few r qs k entries ws ps last a l = omega (arith, made_states r qs k entries ws ps last a, guessed_few r qs k entries ws last a.guessed, a.guessed.within)
