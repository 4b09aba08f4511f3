-- A part step has at most one outcome.
use Rattle.std.proofs.Common.{◌≡◌, ℕ, zero, suc, ◌<◌, ◌≤◌, List, [], ◌∷◌, ◌++◌, map, length, take, get_or, refl, ap, sym, ◌∙◌, arith, subst, ⊎_elim}
use Rattle.std.proofs.lemmas.Bool.{cases_lt}
use Rattle.std.proofs.lemmas.List.{length-take-le, get_or-take, take-take, take_all, take-append-le, get_or_append_left, get_or_push, length_push, nil_from_length}
use Rattle.std.proofs.Math.Seq.{take-suc, take-length}
use Rattle.fort_tables.specs.Entries.{Entry, no_entry}
use Rattle.fort_tables.proofs.OrderLaws.{due_one}
use Rattle.fort_tables.specs.LabelRules.{LabelRule, entry_label}
use Rattle.fort_certificate_theory.specs.PartSteps.{IsDueOver, states_before, IsRightAt, AreRightTo}
use Rattle.fort_certificate_theory.proofs.StageLaws.{states_more, states_le, target_states}

-- a right place stays right in a part of the entries and states that has those before it
pub right_at_same : (r : LabelRule) (qs : List ℕ) (entries entries' : List Entry) (ws ws' : List (List ℕ)) (k : ℕ) (e : Entry) → IsRightAt r qs entries ws k e → take k entries' ≡ take k entries → take (states_before qs k) ws' ≡ take (states_before qs k) ws → get_or ws' (get_or qs k 0) [] ≡ get_or ws (get_or qs k 0) [] → IsRightAt r qs entries' ws' k e
right_at_same r qs entries entries' ws ws' k e h a b c = record {
  due = subst (λ (us : List (List ℕ)). IsDueOver r us (take k entries') e) (sym b) (subst (λ (es : List Entry). IsDueOver r (take (states_before qs k) ws) es e) (sym a) h.due);
  known = h.known;
  label = c ∙ (h.label ∙ ap (λ us. entry_label r us e) (sym b));
}

pub right_less : (r : LabelRule) (qs : List ℕ) (n : ℕ) (entries : List Entry) (ws : List (List ℕ)) → AreRightTo r qs (suc n) entries ws → AreRightTo r qs n (take n entries) (take (states_before qs n) ws)
right_less r qs n entries ws h =
    let s = states_before qs n in
    let le : s ≤ length ws = omega (arith, h.states, states_le qs n (suc n) (omega arith)) in
    record {
      within = omega (arith, h.within);
      count = length-take-le n entries (omega (arith, h.count));
      states = length-take-le s ws le;
      right = λ k d l.
          let at_place : get_or (take n entries) k d ≡ get_or entries k d = get_or-take n entries k d l in
          subst (IsRightAt r qs (take n entries) (take s ws) k) (sym at_place)
          (right_at_same r qs entries (take n entries) ws (take s ws) k (get_or entries k d) (h.right k d (omega arith))
          (take-take k n entries (omega arith))
          (take-take (states_before qs k) s ws (states_le qs k n (omega arith)))
          (get_or-take s ws (get_or qs k 0) [] (target_states qs k n l (omega (arith, h.within)))));
    }

-- no targets are right
pub right_none : (r : LabelRule) (qs : List ℕ) → AreRightTo r qs 0 [] []
right_none r qs = record { within = omega arith; count = refl; states = refl; right = λ k d l. absurd (omega arith) }

right_push : (r : LabelRule) (qs : List ℕ) (n : ℕ) (entries : List Entry) (ws ws' : List (List ℕ)) (e : Entry) → AreRightTo r qs n entries ws → IsDueOver r ws entries e → n < length qs → length ws' ≡ states_before qs (suc n) → take (length ws) ws' ≡ ws → get_or qs n 0 ≤ length ws → get_or ws' (get_or qs n 0) [] ≡ entry_label r ws e → AreRightTo r qs (suc n) (entries ++ e ∷ []) ws'
right_push r qs n entries ws ws' e h due l count front known label =
    let at_end : take n (entries ++ e ∷ []) ≡ entries = take-append-le n entries (e ∷ []) (omega (arith, h.count)) ∙ take_all n entries (omega (arith, h.count)) in
    let old : take (states_before qs n) ws' ≡ ws = ap (λ i. take i ws') (sym h.states) ∙ front in
    record {
      within = omega arith;
      count = omega (arith, length_push entries e, h.count);
      states = count;
      right = λ k d m.
          ⊎_elim
          (λ b.
          let at_place : get_or (entries ++ e ∷ []) k d ≡ get_or entries k d = get_or_append_left entries (e ∷ []) d k (omega (arith, h.count)) in
          let before : get_or qs k 0 < length ws = omega (arith, target_states qs k n b (omega arith), h.states) in
          let le : states_before qs k ≤ length ws = omega (arith, states_le qs k n (omega arith), h.states) in
          subst (IsRightAt r qs (entries ++ e ∷ []) ws' k) (sym at_place)
          (right_at_same r qs entries (entries ++ e ∷ []) ws ws' k (get_or entries k d) (h.right k d b)
          (take-append-le k entries (e ∷ []) (omega (arith, h.count)))
          (sym (take-take (states_before qs k) (length ws) ws' le) ∙ ap (take (states_before qs k)) front)
          (sym (get_or-take (length ws) ws' (get_or qs k 0) [] before) ∙ ap (λ us. get_or us (get_or qs k 0) []) front)))
          (λ b.
          let is : n ≡ k = omega arith in
          let at_place : get_or (entries ++ e ∷ []) k d ≡ e = get_or_push entries e d k (omega (arith, h.count)) in
          subst (IsRightAt r qs (entries ++ e ∷ []) ws' k) (sym at_place)
          (subst (λ (i : ℕ). IsRightAt r qs (entries ++ e ∷ []) ws' i e) is
          (record {
            due = subst (λ (us : List (List ℕ)). IsDueOver r us (take n (entries ++ e ∷ [])) e) (sym old) (subst (λ (es : List Entry). IsDueOver r ws es e) (sym at_end) due);
            known = omega (arith, h.states);
            label = label ∙ ap (λ us. entry_label r us e) (sym old);
          })))
          (cases_lt k n);
    }

-- the next target is a state there is
pub right_old : (r : LabelRule) (qs : List ℕ) (n : ℕ) (entries : List Entry) (ws : List (List ℕ)) (e : Entry) → AreRightTo r qs n entries ws → IsDueOver r ws entries e → n < length qs → get_or qs n 0 < length ws → get_or ws (get_or qs n 0) [] ≡ entry_label r ws e → AreRightTo r qs (suc n) (entries ++ e ∷ []) ws
right_old r qs n entries ws e h due l m label = right_push r qs n entries ws ws e h due l (omega (arith, h.states, states_more qs n l)) (take-length ws) (omega arith) label

-- the next target is a new state
pub right_new : (r : LabelRule) (qs : List ℕ) (n : ℕ) (entries : List Entry) (ws : List (List ℕ)) (e : Entry) → AreRightTo r qs n entries ws → IsDueOver r ws entries e → n < length qs → get_or qs n 0 ≡ length ws → AreRightTo r qs (suc n) (entries ++ e ∷ []) (ws ++ entry_label r ws e ∷ [])
right_new r qs n entries ws e h due l m =
    let w = entry_label r ws e in
    right_push r qs n entries ws (ws ++ w ∷ []) e h due l
    (omega (arith, h.states, states_more qs n l, length_push ws w))
    (take-append-le (length ws) ws (w ∷ []) (omega arith) ∙ take-length ws)
    (omega arith)
    (get_or_push ws w [] (get_or qs n 0) (sym m))

-- the target at place n is right, where those before are
pub record GoesOn (r : LabelRule) (qs : List ℕ) (n : ℕ) (entries : List Entry) (ws : List (List ℕ)) (e : Entry) : Type 0 where
  pub within : n < length qs
  pub due : IsDueOver r ws entries e
  pub known : get_or qs n 0 ≤ length ws
  pub label : get_or qs n 0 < length ws → get_or ws (get_or qs n 0) [] ≡ entry_label r ws e

pub goes_on : (r : LabelRule) (qs : List ℕ) (n : ℕ) (entries : List Entry) (ws : List (List ℕ)) (d : Entry) → AreRightTo r qs (suc n) entries ws → GoesOn r qs n (take n entries) (take (states_before qs n) ws) (get_or entries n d)
goes_on r qs n entries ws d h =
    let at = h.right n d (omega arith) in
    let less = right_less r qs n entries ws h in
    record {
      within = omega (arith, h.within);
      due = at.due;
      known = omega (arith, at.known, less.states);
      label = λ l. get_or-take (states_before qs n) ws (get_or qs n 0) [] (omega (arith, less.states)) ∙ at.label;
    }

pub record AreSame (entries entries' : List Entry) (ws ws' : List (List ℕ)) : Type 0 where
  pub entries_same : entries ≡ entries'
  pub labels_same : ws ≡ ws'

-- what was right up to a place has its states, and then its last one
pub states_split : (r : LabelRule) (qs : List ℕ) (n : ℕ) (entries : List Entry) (ws : List (List ℕ)) (d : Entry) → AreRightTo r qs (suc n) entries ws → get_or qs n 0 ≡ states_before qs n → ws ≡ take (states_before qs n) ws ++ entry_label r (take (states_before qs n) ws) (get_or entries n d) ∷ []
states_split r qs n entries ws d h new =
    let s = states_before qs n in
    let at = h.right n d (omega arith) in
    let count : length ws ≡ suc s = omega (arith, h.states, states_more qs n (omega (arith, h.within))) in
    sym (take_all (suc s) ws (omega arith)) ∙ (take-suc ws s [] (omega arith) ∙ ap (λ w. take s ws ++ w ∷ []) (ap (λ i. get_or ws i []) (sym new) ∙ at.label))

pub states_stay : (r : LabelRule) (qs : List ℕ) (n : ℕ) (entries : List Entry) (ws : List (List ℕ)) → AreRightTo r qs (suc n) entries ws → get_or qs n 0 < states_before qs n → ws ≡ take (states_before qs n) ws
states_stay r qs n entries ws h old = sym (take_all (states_before qs n) ws (omega (arith, h.states, states_more qs n (omega (arith, h.within)))))

-- the targets before a place tell the entries and the labels
pub right_same : (r : LabelRule) (qs : List ℕ) (n : ℕ) (entries entries' : List Entry) (ws ws' : List (List ℕ)) → AreRightTo r qs n entries ws → AreRightTo r qs n entries' ws' → AreSame entries entries' ws ws'
right_same r qs zero entries entries' ws ws' h k = record {
  entries_same = nil_from_length entries h.count ∙ sym (nil_from_length entries' k.count);
  labels_same = nil_from_length ws h.states ∙ sym (nil_from_length ws' k.states);
}
right_same r qs (suc n) entries entries' ws ws' h k =
    let s = states_before qs n in
    let d = no_entry 0 in
    let less = right_same r qs n (take n entries) (take n entries') (take s ws) (take s ws') (right_less r qs n entries ws h) (right_less r qs n entries' ws' k) in
    let a = h.right n d (omega arith) in
    let b = k.right n d (omega arith) in
    let b_due : IsDueOver r (take s ws) (take n entries) (get_or entries' n d) =
    subst (λ (us : List (List ℕ)). IsDueOver r us (take n entries) (get_or entries' n d)) (sym less.labels_same)
    (subst (λ (es : List Entry). IsDueOver r (take s ws') es (get_or entries' n d)) (sym less.entries_same) b.due) in
    let at_place : get_or entries n d ≡ get_or entries' n d = due_one r.signature r.columns (map _ (take s ws)) (take n entries) (get_or entries n d) (get_or entries' n d) a.due b_due in
    record {
      entries_same = sym (take_all (suc n) entries (omega (arith, h.count))) ∙ (take-suc entries n d (omega (arith, h.count))
          ∙ (ap (λ es. es ++ get_or entries n d ∷ []) less.entries_same ∙ (ap (λ e. take n entries' ++ e ∷ []) at_place
          ∙ (sym (take-suc entries' n d (omega (arith, k.count))) ∙ take_all (suc n) entries' (omega (arith, k.count))))));
      labels_same = ⊎_elim
          (λ l. states_stay r qs n entries ws h l ∙ (less.labels_same ∙ sym (states_stay r qs n entries' ws' k l)))
          (λ l. let new : get_or qs n 0 ≡ s = omega (arith, a.known) in
          states_split r qs n entries ws d h new
          ∙ (ap (λ us. us ++ entry_label r us (get_or entries n d) ∷ []) less.labels_same
          ∙ (ap (λ e. take s ws' ++ entry_label r (take s ws') e ∷ []) at_place
          ∙ sym (states_split r qs n entries' ws' d k new))))
          (cases_lt (get_or qs n 0) s);
    }

-- where the targets are right up to a later place, they go on at an earlier one
pub goes_on_at : (r : LabelRule) (qs : List ℕ) (m n : ℕ) (entries entries' : List Entry) (ws ws' : List (List ℕ)) → AreRightTo r qs n entries ws → n < m → AreRightTo r qs m entries' ws' → (e : Entry) × GoesOn r qs n entries ws e
goes_on_at r qs zero n entries entries' ws ws' h l k = absurd (omega arith)
goes_on_at r qs (suc m) n entries entries' ws ws' h l k =
    ⊎_elim
    (λ b. goes_on_at r qs m n entries (take m entries') ws (take (states_before qs m) ws') h b (right_less r qs m entries' ws' k))
    (λ b.
    let is : m ≡ n = omega arith in
    let less : AreRightTo r qs n (take m entries') (take (states_before qs m) ws') = subst (λ (i : ℕ). AreRightTo r qs i (take m entries') (take (states_before qs m) ws')) is (right_less r qs m entries' ws' k) in
    let same = right_same r qs n (take m entries') entries (take (states_before qs m) ws') ws less h in
    let on : GoesOn r qs n (take m entries') (take (states_before qs m) ws') (get_or entries' m (no_entry 0)) = subst (λ (i : ℕ). GoesOn r qs i (take m entries') (take (states_before qs m) ws') (get_or entries' m (no_entry 0))) is (goes_on r qs m entries' ws' (no_entry 0) k) in (
      get_or entries' m (no_entry 0),
      subst (λ (es : List Entry). GoesOn r qs n es ws (get_or entries' m (no_entry 0))) same.entries_same
          (subst (λ (us : List (List ℕ)). GoesOn r qs n (take m entries') us (get_or entries' m (no_entry 0))) same.labels_same on),
    ))
    (cases_lt n m)
