-- Two rules of labels that tell the same tuples apart and accept the same ones: by the one the targets of a part are right, or fail, where they do by the other, and they make one table.
use Rattle.std.proofs.Common.{◌≡◌, ◌⊎◌, ℕ, zero, suc, ◌<◌, ◌≤◌, ◌==◌, if◌then◌else◌, List, [], ◌∷◌, ◌++◌, map, length, take, get_or, false, refl, ap, sym, ◌∙◌, arith, subst, ⊎_elim}
use Rattle.std.specs.Prelude.{◌↔◌}
use Rattle.std.proofs.lemmas.Bool.{cases_lt}
use Rattle.std.proofs.lemmas.List.{length-map, get_or-map, ext_get_or, map-append, take_all, nil_from_length}
use Rattle.std.proofs.Math.Seq.{take-suc}
use Rattle.fort_theory.specs.Signatures.{Signature}
use Rattle.fort_tables.specs.Tuples.{Tuple, presence, rebuilt, IsTuple}
use Rattle.fort_tables.specs.Entries.{Entry, no_entry, picked, IsEntry, IsDue, AreTuples}
use Rattle.fort_tables.specs.Tables.{full_presence}
use Rattle.fort_tables.specs.Labels.{first_word, final_by}
use Rattle.fort_tables.specs.LabelRules.{LabelRule, IsLabelRule, label_of, entry_label}
use Rattle.fort_tables.proofs.EntryLaws.{get_or-picked, entry_kids, IsTuple-entry, AreTuples-push}
use Rattle.fort_tables.proofs.FoldLaws.{GivesLabel-rebuilt}
use Rattle.fort_tables.proofs.LabelRuleLaws.{TellsPresence-rule, GivesLabel-rule}
use Rattle.fort_certificate_theory.specs.Outcomes.{Reason}
use Rattle.fort_certificate_theory.specs.PartRules.{Local}
use Rattle.fort_certificate_theory.specs.PartSteps.{IsDueOver, AreAllOver, states_before, AreRightTo, IsRightPart, IsPartFailure, NoState, OtherLabel, TooFew, TooMany, part_table}
use Rattle.fort_certificate_theory.specs.Written.{NoLabelTwice}
use Rattle.fort_certificate_theory.proofs.PartLaws.{GoesOn, goes_on, right_less, right_none, right_old, right_new, states_split, states_stay}

pub record TellTheSame (a b : Local) : Type 0 where
  pub signature : a.rule.signature ≡ b.rule.signature
  pub columns : a.rule.columns ≡ b.rule.columns
  pub law : IsLabelRule a.rule
  pub other_law : IsLabelRule b.rule
  pub labels : (t u : Tuple) → IsTuple a.rule.signature a.rule.columns t → IsTuple a.rule.signature a.rule.columns u
      → (label_of a.rule t ≡ label_of a.rule u) ↔ (label_of b.rule t ≡ label_of b.rule u)
  pub accepted : (t : Tuple) → IsTuple a.rule.signature a.rule.columns t → a.accepting (label_of a.rule t) ≡ b.accepting (label_of b.rule t)

-- ---- the labels of tuples

-- the tuple of an entry over states with these tuples
abbrev node : List Tuple → Entry → Tuple
node ts e = rebuilt e.symbol (picked ts e.kids)

module _ (r : LabelRule) (law : IsLabelRule r) (ts : List Tuple) (are : AreTuples r.signature r.columns ts) where
  first_words : map first_word (map (label_of r) ts) ≡ map presence ts
  first_words =
      let count = length-map ts (label_of r) in
      ext_get_or 0 (map first_word (map (label_of r) ts)) (map presence ts)
      (length-map (map (label_of r) ts) first_word ∙ (count ∙ sym (length-map ts presence)))
      (λ j l.
      let m : j < length ts = omega (arith, length-map (map (label_of r) ts) first_word, count) in
      get_or-map first_word (map (label_of r) ts) j [] 0 (omega (arith, count))
      ∙ (ap first_word (get_or-map (label_of r) ts j [] [] m)
      ∙ (TellsPresence-rule r.signature r law.tells (get_or ts j []) (are j m)
      ∙ sym (get_or-map presence ts j [] 0 m))))

  kid_labels : (ks : List ℕ) → ((j : ℕ) → j < length ks → get_or ks j 0 < length ts) → map (label_of r) (picked ts ks) ≡ map (λ q. get_or (map (label_of r) ts) q []) ks
  kid_labels ks within =
      let count : length (picked ts ks) ≡ length ks = length-map ks (λ q. get_or ts q []) in
      let long : length (map (label_of r) (picked ts ks)) ≡ length ks = length-map (picked ts ks) (label_of r) ∙ count in
      ext_get_or [] (map (label_of r) (picked ts ks)) (map (λ q. get_or (map (label_of r) ts) q []) ks)
      (long ∙ sym (length-map ks (λ q. get_or (map (label_of r) ts) q [])))
      (λ j l.
      let m : j < length ks = omega (arith, long) in
      get_or-map (label_of r) (picked ts ks) j [] [] (omega (arith, count))
      ∙ (ap (label_of r) (get_or-picked ts ks j m)
      ∙ (sym (get_or-map (label_of r) ts (get_or ks j 0) [] [] (within j m))
      ∙ sym (get_or-map (λ q. get_or (map (label_of r) ts) q []) ks j 0 [] m))))

  node_label : (e : Entry) → IsEntry r.signature r.columns (map presence ts) e → label_of r (node ts e) ≡ entry_label r (map (label_of r) ts) e
  node_label e k =
      let words = map (label_of r) ts in
      GivesLabel-rebuilt r.signature r.columns (label_of r) words e (entry_label r words e) (GivesLabel-rule r.signature r.columns r words e (entry_label r words e) refl) k.symbol
      (picked ts e.kids) (entry_kids r.signature r.columns ts e are k) (kid_labels e.kids (λ j l. omega (arith, k.within j l, length-map ts presence)))

-- ---- from the one rule to the other

module _ (a b : Local) (same : TellTheSame a b) where
  -- tuples and entries of the one are those of the other
  tuples_too : (ts : List Tuple) → AreTuples a.rule.signature a.rule.columns ts → AreTuples b.rule.signature b.rule.columns ts
  tuples_too ts are = subst (λ (s : Signature). AreTuples s b.rule.columns ts) same.signature (subst (λ (n : ℕ). AreTuples a.rule.signature n ts) same.columns are)

  -- the first words of both
  presences_same : (ts : List Tuple) → AreTuples a.rule.signature a.rule.columns ts → map first_word (map (label_of a.rule) ts) ≡ map first_word (map (label_of b.rule) ts)
  presences_same ts are = first_words a.rule same.law ts are ∙ sym (first_words b.rule same.other_law ts (tuples_too ts are))

  entry_back : (ps : List ℕ) (e : Entry) → IsEntry b.rule.signature b.rule.columns ps e → IsEntry a.rule.signature a.rule.columns ps e
  entry_back ps e k = subst (λ (s : Signature). IsEntry s a.rule.columns ps e) (sym same.signature) (subst (λ (n : ℕ). IsEntry b.rule.signature n ps e) (sym same.columns) k)

  entry_too : (ps : List ℕ) (e : Entry) → IsEntry a.rule.signature a.rule.columns ps e → IsEntry b.rule.signature b.rule.columns ps e
  entry_too ps e k = subst (λ (s : Signature). IsEntry s b.rule.columns ps e) same.signature (subst (λ (n : ℕ). IsEntry a.rule.signature n ps e) same.columns k)

  module _ (ws : List (List ℕ)) (ts : List Tuple) (are : AreTuples a.rule.signature a.rule.columns ts) (labels : ws ≡ map (label_of a.rule) ts) where
    firsts_same : map first_word ws ≡ map first_word (map (label_of b.rule) ts)
    firsts_same = ap (map first_word) labels ∙ presences_same ts are

    due_too : (es : List Entry) (e : Entry) → IsDueOver a.rule ws es e → IsDueOver b.rule (map (label_of b.rule) ts) es e
    due_too es e due =
        subst (λ (ps : List ℕ). IsDue b.rule.signature b.rule.columns ps es e) firsts_same
        (subst (λ (s : Signature). IsDue s b.rule.columns (map first_word ws) es e) same.signature
        (subst (λ (n : ℕ). IsDue a.rule.signature n (map first_word ws) es e) same.columns due))

    all_too : (es : List Entry) → AreAllOver a.rule ws es → AreAllOver b.rule (map (label_of b.rule) ts) es
    all_too es all x k = all x (entry_back (map first_word ws) x (subst (λ (ps : List ℕ). IsEntry b.rule.signature b.rule.columns ps x) (sym firsts_same) k))

    module _ (e : Entry) (entry : IsEntry a.rule.signature a.rule.columns (map first_word ws) e) where
      over_tuples : IsEntry a.rule.signature a.rule.columns (map presence ts) e
      over_tuples = subst (λ (ps : List ℕ). IsEntry a.rule.signature a.rule.columns ps e) (ap (map first_word) labels ∙ first_words a.rule same.law ts are) entry

      node_is : IsTuple a.rule.signature a.rule.columns (node ts e)
      node_is = IsTuple-entry a.rule.signature a.rule.columns ts e are over_tuples

      own_label : label_of a.rule (node ts e) ≡ entry_label a.rule (map (label_of a.rule) ts) e
      own_label = node_label a.rule same.law ts are e over_tuples

      other_label : label_of b.rule (node ts e) ≡ entry_label b.rule (map (label_of b.rule) ts) e
      other_label = node_label b.rule same.other_law ts (tuples_too ts are) e (entry_too (map presence ts) e over_tuples)

      -- a state has the entry's label by both or by neither
      state_too : (q : ℕ) → q < length ts → (get_or ws q [] ≡ entry_label a.rule ws e) ↔ (get_or (map (label_of b.rule) ts) q [] ≡ entry_label b.rule (map (label_of b.rule) ts) e)
      state_too q l =
          let one = same.labels (get_or ts q []) (node ts e) (are q l) node_is in
          let x = get_or-map (label_of a.rule) ts q [] [] l in
          let y = get_or-map (label_of b.rule) ts q [] [] l in (
            (λ h. y ∙ (one.0 (sym x ∙ (subst (λ (us : List (List ℕ)). get_or us q [] ≡ entry_label a.rule us e) labels h ∙ sym own_label)) ∙ other_label)),
            (λ h. subst (λ (us : List (List ℕ)). get_or us q [] ≡ entry_label a.rule us e) (sym labels) (x ∙ (one.1 (sym y ∙ (h ∙ sym other_label)) ∙ own_label))),
          )

  -- the states have tuples; by the labels of these that the other rule gives, the targets are right too
  record Moved (qs : List ℕ) (n : ℕ) (es : List Entry) (ws : List (List ℕ)) : Type 0 where
    tuples : List Tuple
    are : AreTuples a.rule.signature a.rule.columns tuples
    labels : ws ≡ map (label_of a.rule) tuples
    right : AreRightTo b.rule qs n es (map (label_of b.rule) tuples)

  moved : (qs : List ℕ) (n : ℕ) (es : List Entry) (ws : List (List ℕ)) → AreRightTo a.rule qs n es ws → Moved qs n es ws
  moved qs zero es ws h = record {
    tuples = [];
    are = λ k l. absurd (omega arith);
    labels = nil_from_length ws h.states;
    right = subst (λ (xs : List Entry). AreRightTo b.rule qs 0 xs []) (sym (nil_from_length es h.count)) (right_none b.rule qs);
  }
  moved qs (suc n) es ws h =
      let s = states_before qs n in
      let d = no_entry 0 in
      let e = get_or es n d in
      let less = moved qs n (take n es) (take s ws) (right_less a.rule qs n es ws h) in
      let ts = less.tuples in
      let us = map (label_of b.rule) ts in
      let many : length us ≡ length ts = length-map ts (label_of b.rule) in
      let on : GoesOn a.rule qs n (take n es) (take s ws) e = goes_on a.rule qs n es ws d h in
      let due = due_too (take s ws) ts less.are less.labels (take n es) e on.due in
      let whole : take n es ++ e ∷ [] ≡ es = sym (take-suc es n d (omega (arith, h.count))) ∙ take_all (suc n) es (omega (arith, h.count)) in
      let count : length (take s ws) ≡ length us = ap length less.labels ∙ (length-map ts (label_of a.rule) ∙ sym many) in
      ⊎_elim
      (λ (l : get_or qs n 0 < s).
      let m : get_or qs n 0 < length us = omega (arith, less.right.states) in
      let label = (state_too (take s ws) ts less.are less.labels e on.due.is_entry (get_or qs n 0) (omega (arith, many, m))).0 (on.label (omega (arith, count, m))) in
      record {
        tuples = ts;
        are = less.are;
        labels = states_stay a.rule qs n es ws h l ∙ less.labels;
        right = subst (λ (xs : List Entry). AreRightTo b.rule qs (suc n) xs us) whole (right_old b.rule qs n (take n es) us e less.right due on.within m label);
      })
      (λ (l : s ≤ get_or qs n 0).
      let new : get_or qs n 0 ≡ s = omega (arith, on.known, less.right.states, count) in
      let v = node ts e in
      let own = own_label (take s ws) ts less.are less.labels e on.due.is_entry in
      let other = other_label (take s ws) ts less.are less.labels e on.due.is_entry in
      record {
        tuples = ts ++ v ∷ [];
        are = AreTuples-push a.rule.signature a.rule.columns ts v less.are (node_is (take s ws) ts less.are less.labels e on.due.is_entry);
        labels = states_split a.rule qs n es ws d h new
            ∙ (ap (λ (xs : List (List ℕ)). xs ++ entry_label a.rule xs e ∷ []) less.labels
            ∙ (ap (λ w. map (label_of a.rule) ts ++ w ∷ []) (sym own)
            ∙ sym (map-append (label_of a.rule) ts (v ∷ []))));
        right = subst (λ (xs : List (List ℕ)). AreRightTo b.rule qs (suc n) es xs)
            (ap (λ w. us ++ w ∷ []) (sym other) ∙ sym (map-append (label_of b.rule) ts (v ∷ [])))
            (subst (λ (xs : List Entry). AreRightTo b.rule qs (suc n) xs (us ++ entry_label b.rule us e ∷ [])) whole
            (right_new b.rule qs n (take n es) us e less.right due on.within (omega (arith, less.right.states))));
      })
      (cases_lt (get_or qs n 0) s)

  final_same : (t : Tuple) → IsTuple a.rule.signature a.rule.columns t → final_by a.rule.columns a.accepting (label_of a.rule t) ≡ final_by b.rule.columns b.accepting (label_of b.rule t)
  final_same t is =
      let there = subst (λ (s : Signature). IsTuple s b.rule.columns t) same.signature (subst (λ (n : ℕ). IsTuple a.rule.signature n t) same.columns is) in
      let first : first_word (label_of a.rule t) ≡ first_word (label_of b.rule t) =
      TellsPresence-rule a.rule.signature a.rule same.law.tells t is ∙ sym (TellsPresence-rule b.rule.signature b.rule same.other_law.tells t there) in
      let accepted = same.accepted t is in
      λ i. if first i == full_presence (same.columns i) then accepted i else false

  finals_same : (ts : List Tuple) → AreTuples a.rule.signature a.rule.columns ts
      → map (final_by a.rule.columns a.accepting) (map (label_of a.rule) ts) ≡ map (final_by b.rule.columns b.accepting) (map (label_of b.rule) ts)
  finals_same ts are =
      let f = final_by a.rule.columns a.accepting in
      let g = final_by b.rule.columns b.accepting in
      let xs = map (label_of a.rule) ts in
      let ys = map (label_of b.rule) ts in
      let long = length-map ts (label_of a.rule) in
      let also = length-map ts (label_of b.rule) in
      ext_get_or false (map f xs) (map g ys) (length-map xs f ∙ (long ∙ (sym also ∙ sym (length-map ys g))))
      (λ j l.
      let m : j < length ts = omega (arith, length-map xs f, long) in
      get_or-map f xs j [] false (omega (arith, long))
      ∙ (ap f (get_or-map (label_of a.rule) ts j [] [] m)
      ∙ (final_same (get_or ts j []) (are j m)
      ∙ (ap g (sym (get_or-map (label_of b.rule) ts j [] [] m))
      ∙ sym (get_or-map g ys j [] false (omega (arith, also)))))))

  once_too : (ts : List Tuple) → AreTuples a.rule.signature a.rule.columns ts → NoLabelTwice (map (label_of a.rule) ts) → NoLabelTwice (map (label_of b.rule) ts)
  once_too ts are once i j l m h =
      let x = length-map ts (label_of a.rule) in
      let y = length-map ts (label_of b.rule) in
      let li : i < length ts = omega (arith, y) in
      let lj : j < length ts = omega (arith, y) in
      let e = sym (get_or-map (label_of b.rule) ts i [] [] li) ∙ (h ∙ get_or-map (label_of b.rule) ts j [] [] lj) in
      once i j (omega (arith, x)) (omega (arith, x))
      (get_or-map (label_of a.rule) ts i [] [] li ∙ ((same.labels (get_or ts i []) (get_or ts j []) (are i li) (are j lj)).1 e ∙ sym (get_or-map (label_of a.rule) ts j [] [] lj)))

-- the part by the other rule
pub record MovedPart (a b : Local) (qs : List ℕ) (es : List Entry) (ws : List (List ℕ)) : Type 0 where
  pub labels : List (List ℕ)
  pub right : IsRightPart b.rule qs es labels
  pub table : part_table a.rule a.accepting es qs ws ≡ part_table b.rule b.accepting es qs labels
  pub once : NoLabelTwice ws → NoLabelTwice labels

part_too : (a b : Local) → TellTheSame a b → (qs : List ℕ) (es : List Entry) (ws : List (List ℕ)) → IsRightPart a.rule qs es ws → MovedPart a b qs es ws
part_too a b same qs es ws h =
    let m = moved a b same qs (length qs) es ws h.right in
    let us = map (label_of b.rule) m.tuples in
    let presences = firsts_same a b same ws m.tuples m.are m.labels in
    let finals = ap (map (final_by a.rule.columns a.accepting)) m.labels ∙ finals_same a b same m.tuples m.are in
    record {
      labels = us;
      right = record { right = m.right; all = all_too a b same ws m.tuples m.are m.labels es h.all };
      table = λ i. record {
        signature = same.signature i;
        columns = same.columns i;
        presences = presences i;
        entries = es;
        targets = qs;
        finals = finals i;
      };
      once = λ once. once_too a b same m.tuples m.are (subst NoLabelTwice m.labels once);
    }

failure_too : (a b : Local) → TellTheSame a b → (qs : List ℕ) (place : ℕ) (reason : Reason) → IsPartFailure a.rule qs place reason → IsPartFailure b.rule qs place reason
failure_too a b same qs place reason (NoState n es ws e h l due low) =
    let m = moved a b same qs n es ws h in
    let us = map (label_of b.rule) m.tuples in
    NoState n es us e m.right l (due_too a b same ws m.tuples m.are m.labels es e due) (omega (arith, h.states, m.right.states))
failure_too a b same qs place reason (OtherLabel n es ws e h l due low other) =
    let m = moved a b same qs n es ws h in
    let us = map (label_of b.rule) m.tuples in
    let q = get_or qs n 0 in
    let there : q < length us = omega (arith, h.states, m.right.states) in
    OtherLabel n es us e m.right l (due_too a b same ws m.tuples m.are m.labels es e due) there
    (λ label. other ((state_too a b same ws m.tuples m.are m.labels e due.is_entry q (omega (arith, there, length-map m.tuples (label_of b.rule)))).1 label))
failure_too a b same qs place reason (TooFew n es ws e h l due) =
    let m = moved a b same qs n es ws h in
    TooFew n es (map (label_of b.rule) m.tuples) e m.right l (due_too a b same ws m.tuples m.are m.labels es e due)
failure_too a b same qs place reason (TooMany n es ws h l all) =
    let m = moved a b same qs n es ws h in
    TooMany n es (map (label_of b.rule) m.tuples) m.right l (all_too a b same ws m.tuples m.are m.labels es all)

-- ---- Results: one rule, or two that tell the same

abbrev pub AreOneOrSame : Local → Local → Type 0
AreOneOrSame a b = (a ≡ b) ⊎ TellTheSame a b

pub part_moved : (a b : Local) → AreOneOrSame a b → (qs : List ℕ) (es : List Entry) (ws : List (List ℕ)) → IsRightPart a.rule qs es ws → MovedPart a b qs es ws
part_moved a b either qs es ws h =
    ⊎_elim
    (λ (e : a ≡ b). subst (λ (x : Local). MovedPart a x qs es ws) e (record { labels = ws; right = h; table = refl; once = λ once. once }))
    (λ same. part_too a b same qs es ws h)
    either

pub failure_moved : (a b : Local) → AreOneOrSame a b → (qs : List ℕ) (place : ℕ) (reason : Reason) → IsPartFailure a.rule qs place reason → IsPartFailure b.rule qs place reason
failure_moved a b either qs place reason f =
    ⊎_elim
    (λ (e : a ≡ b). subst (λ (x : Local). IsPartFailure x.rule qs place reason) e f)
    (λ same. failure_too a b same qs place reason f)
    either
