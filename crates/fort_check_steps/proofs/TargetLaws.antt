-- One turn of the check of a part.
use Rattle.std.proofs.Common.{◌≡◌, ℕ, suc, ◌+◌, ◌^◌, ◌<◌, ◌≤◌, List, [], ◌∷◌, ◌++◌, map, length, get_or, false, refl, ap, sym, ◌∙◌, arith, add-one, subst, ⊎_elim}
use Rattle.std.proofs.lemmas.List.{map-append, length-map}
use Rattle.std.proofs.Math.Seq.{take-length}
use Rattle.fort_theory.specs.Signatures.{Signature}
use Rattle.fort_tables.specs.Tuples.{TupleSymbol, presence}
use Rattle.fort_tables.specs.Entries.{Entry, no_entry, stage, IsNextEntry, IsLastEntry}
use Rattle.fort_tables.specs.Labels.{first_word, AreLabels, IsOverLabels}
use Rattle.fort_tables.specs.LabelRules.{LabelRule, IsLabelRule, label_of, entry_label}
use Rattle.fort_tables.specs.Laid.{all_entries}
use Rattle.fort_tables.proofs.AllEntries.{entries_unique}
use Rattle.fort_certificate_theory.specs.Outcomes as steps
use Rattle.fort_certificate_theory.specs.Outcomes.{Fails}
use Rattle.fort_certificate_theory.specs.PartSteps.{IsRightPart, IsPartOutcome, IsFailed, NoState, OtherLabel, TooFew, TooMany}
use Rattle.fort_certificate_theory.proofs.PartByLabels.{part_is_listed}
use Rattle.fort_certificate_theory.proofs.StageLaws.{target_states}
use Rattle.fort_certificate_theory.proofs.EntryWalks.{Walked, IsNextOf, walked_none, walked_due, walked_all, walked_old, walked_new, walked_few, right_few, labels_push}
use Rattle.fort_check_steps.specs.Room.{most_states}
use Rattle.fort_check_steps.specs.StepAnswers.{as_reason}
use Rattle.fort_check_steps.specs.OnePlace.{IsNewState, IsOldState, IsTaken, IsRefused}
use Rattle.fort_check_steps.specs.declared.failure.Reason.{Reason}
use Rattle.fort_check_steps.specs.declared.failure.Reason.TheVariants as reasons

-- the next entry, by the rule's signature and the states' labels
pub next_of : (r : LabelRule) (ws : List (List ℕ)) (last e : Entry) (sig : Signature) (n : ℕ) (ps : List ℕ) → sig ≡ r.signature → n ≡ r.columns → ps ≡ map first_word ws → IsNextEntry sig n ps last e → IsNextOf r ws last e
next_of r ws last e sig n ps a b c h =
    subst (λ (x : List ℕ). IsNextEntry r.signature r.columns x last e) c
    (subst (λ (x : ℕ). IsNextEntry r.signature x ps last e) b
    (subst (λ (x : Signature). IsNextEntry x n ps last e) a h))

pub last_of : (r : LabelRule) (ws : List (List ℕ)) (last : Entry) (sig : Signature) (n : ℕ) (ps : List ℕ) → sig ≡ r.signature → n ≡ r.columns → ps ≡ map first_word ws → IsLastEntry sig n ps last → IsLastEntry r.signature r.columns (map first_word ws) last
last_of r ws last sig n ps a b c h =
    subst (λ (x : List ℕ). IsLastEntry r.signature r.columns x last) c
    (subst (λ (x : ℕ). IsLastEntry r.signature x ps last) b
    (subst (λ (x : Signature). IsLastEntry x n ps last) a h))

-- there is room for a new state
pub new_state_room : (r : LabelRule) (qs : List ℕ) (k : ℕ) (entries : List Entry) (ws : List (List ℕ)) (last : Entry) → Walked r qs k entries ws last → k < length qs → get_or qs k 0 ≡ length ws → length ws < most_states qs
new_state_room r qs k entries ws last w l e = omega (arith, walked_few r qs k entries ws last w, target_states qs k (length qs) l l, ap stage (take-length qs))

-- a target is refused
pub refused : (r : LabelRule) (qs : List ℕ) (k : ℕ) (entries : List Entry) (ws : List (List ℕ)) (last e : Entry) (reason : Reason) → Walked r qs k entries ws last → IsNextOf r ws last e → k < length qs → IsRefused r e (get_or qs k 0) ws reason → IsPartOutcome r qs (Fails k (as_reason reason))
refused r qs k entries ws last e reasons.Target w n l h = IsFailed k steps.Target (NoState k entries ws e w.right l (walked_due r qs k entries ws last e w n) h)
refused r qs k entries ws last e reasons.Label w n l h = IsFailed k steps.Label (OtherLabel k entries ws e w.right l (walked_due r qs k entries ws last e w n) h.0 h.1)
refused r qs k entries ws last e reasons.Due w n l h = absurd h
refused r qs k entries ws last e reasons.Range w n l h = absurd h
refused r qs k entries ws last e reasons.Unfounded w n l h = absurd h
refused r qs k entries ws last e reasons.Open w n l h = absurd h
refused r qs k entries ws last e reasons.Short w n l h = absurd h
refused r qs k entries ws last e reasons.Long w n l h = absurd h
refused r qs k entries ws last e reasons.Class w n l h = absurd h
refused r qs k entries ws last e reasons.Split w n l h = absurd h
refused r qs k entries ws last e reasons.Count w n l h = absurd h
refused r qs k entries ws last e reasons.Rank w n l h = absurd h
refused r qs k entries ws last e reasons.Cycle w n l h = absurd h
refused r qs k entries ws last e reasons.Value w n l h = absurd h
refused r qs k entries ws last e reasons.Verdict w n l h = absurd h

pub too_many : (r : LabelRule) (qs : List ℕ) (k : ℕ) (entries : List Entry) (ws : List (List ℕ)) (last : Entry) → Walked r qs k entries ws last → IsLastEntry r.signature r.columns (map first_word ws) last → k < length qs → IsPartOutcome r qs (Fails k steps.Long)
too_many r qs k entries ws last w n l = IsFailed k steps.Long (TooMany k entries ws w.right l (walked_all r qs k entries ws last w n))

pub too_few : (r : LabelRule) (qs : List ℕ) (entries : List Entry) (ws : List (List ℕ)) (last e : Entry) → Walked r qs (length qs) entries ws last → IsNextOf r ws last e → IsPartOutcome r qs (Fails (length qs) steps.Short)
too_few r qs entries ws last e w n = IsFailed (length qs) steps.Short (TooFew (length qs) entries ws e w.right refl (walked_due r qs (length qs) entries ws last e w n))

right_part : (r : LabelRule) (qs : List ℕ) (entries : List Entry) (ws : List (List ℕ)) (last : Entry) → (w : Walked r qs (length qs) entries ws last) → IsLastEntry r.signature r.columns (map first_word ws) last → IsRightPart r qs entries ws
right_part r qs entries ws last w n = record { right = w.right; all = walked_all r qs (length qs) entries ws last w n }

-- the entries of a part that is right are all those over its labels' presences
pub right_all : (r : LabelRule) (qs : List ℕ) (entries : List Entry) (ws : List (List ℕ)) (last : Entry) → IsLabelRule r → Walked r qs (length qs) entries ws last
    → IsLastEntry r.signature r.columns (map first_word ws) last → IsRightPart r qs (all_entries r.signature r.columns (map first_word ws)) ws
right_all r qs entries ws last law w n =
    let right = right_part r qs entries ws last w n in
    let listed = part_is_listed r (λ (v : List ℕ). false) qs entries ws law right in
    subst (λ (es : List Entry). IsRightPart r qs es ws) (entries_unique r.signature r.columns (map first_word ws) entries listed.order listed.all) right

-- what is known after a target was taken
pub record IsAfter (r : LabelRule) (qs : List ℕ) (k : ℕ) (entries : List Entry) (ws : List (List ℕ)) (ps : List ℕ) (last : Entry) : Type 0 where
  pub walked : Walked r qs k entries ws last
  pub labels : AreLabels r.signature r.columns (label_of r) ws
  pub presences : ps ≡ map first_word ws

pub taken : (r : LabelRule) (qs : List ℕ) (k : ℕ) (entries : List Entry) (ws ws' : List (List ℕ)) (ps ps' : List ℕ) (last e last' : Entry) → IsLabelRule r → IsAfter r qs k entries ws ps last → IsNextOf r ws last e → k < length qs → IsTaken r e (get_or qs k 0) ps ps' ws ws' → last' ≡ e → IsAfter r qs (k + 1) (entries ++ e ∷ []) ws' ps' last'
taken r qs k entries ws ws' ps ps' last e last' law a n l h is =
    subst (λ (x : Entry). IsAfter r qs (k + 1) (entries ++ e ∷ []) ws' ps' x) (sym is)
    (subst (λ (i : ℕ). IsAfter r qs i (entries ++ e ∷ []) ws' ps' e) (sym (add-one k)) (⊎_elim new old h))
  where
    new : IsNewState r e (get_or qs k 0) ps ps' ws ws' → IsAfter r qs (suc k) (entries ++ e ∷ []) ws' ps' e
    new t =
        let v = entry_label r ws e in
        let words : ps' ≡ map first_word (ws ++ v ∷ []) =
        t.presences ∙ (ap (λ xs. xs ++ presence e.symbol ∷ []) a.presences
        ∙ (ap (λ p. map first_word ws ++ p ∷ []) (sym (law.tells e.symbol _))
        ∙ sym (map-append first_word ws (v ∷ [])))) in
        let all : IsAfter r qs (suc k) (entries ++ e ∷ []) (ws ++ v ∷ []) ps' e = record {
          walked = walked_new r qs k entries ws last e a.walked n l t.number;
          labels = labels_push r ws e law a.labels n.is_entry;
          presences = words;
        } in
        subst (λ (us : List (List ℕ)). IsAfter r qs (suc k) (entries ++ e ∷ []) us ps' e) (sym t.labels) all

    old : IsOldState r e (get_or qs k 0) ps ps' ws ws' → IsAfter r qs (suc k) (entries ++ e ∷ []) ws' ps' e
    old t =
        let all : IsAfter r qs (suc k) (entries ++ e ∷ []) ws ps' e = record {
          walked = walked_old r qs k entries ws last e a.walked n l t.number t.label;
          labels = a.labels;
          presences = t.presences ∙ a.presences;
        } in
        subst (λ (us : List (List ℕ)). IsAfter r qs (suc k) (entries ++ e ∷ []) us ps' e) (sym t.labels) all

pub after_none : (r : LabelRule) (qs : List ℕ) (ws : List (List ℕ)) (ps : List ℕ) (last : Entry) (n : ℕ) → ws ≡ [] → ps ≡ [] → n ≡ r.columns → last ≡ no_entry n → IsAfter r qs 0 [] ws ps last
after_none r qs ws ps last n a b c d =
    let none : IsAfter r qs 0 [] [] [] (no_entry r.columns) = record { walked = walked_none r qs; labels = λ q l. absurd (omega arith); presences = refl } in
    subst (λ (x : List (List ℕ)). IsAfter r qs 0 [] x ps last) (sym a)
    (subst (λ (x : List ℕ). IsAfter r qs 0 [] [] x last) (sym b)
    (subst (λ (x : Entry). IsAfter r qs 0 [] [] [] x) (sym (d ∙ ap no_entry c)) none))

-- presences and labels are as many
pub few_states : (r : LabelRule) (qs : List ℕ) (k : ℕ) (entries : List Entry) (ws : List (List ℕ)) (ps : List ℕ) (last : Entry) → IsAfter r qs k entries ws ps last → length ps ≡ length ws
few_states r qs k entries ws ps last a = ap length a.presences ∙ length-map ws first_word

pub over_labels : (r : LabelRule) (qs : List ℕ) (k : ℕ) (entries : List Entry) (ws : List (List ℕ)) (ps : List ℕ) (last e : Entry) → IsAfter r qs k entries ws ps last → IsNextOf r ws last e → IsOverLabels r.signature r.columns (label_of r) ws e
over_labels r qs k entries ws ps last e a n = record { entry = n.is_entry; are = a.labels }

-- the states so far are fewer than 2 ^ 32 where the targets are
pub few_presences : (r : LabelRule) (qs : List ℕ) (k : ℕ) (entries : List Entry) (ws : List (List ℕ)) (ps : List ℕ) (last : Entry) → IsAfter r qs k entries ws ps last → length qs < 2 ^ 32 → length ps < 2 ^ 32
few_presences r qs k entries ws ps last a l = omega (arith, few_states r qs k entries ws ps last a, walked_few r qs k entries ws last a.walked, a.walked.right.within)

-- a part that is right has no more states than there is room for
pub right_states : (r : LabelRule) (qs : List ℕ) (entries : List Entry) (ws : List (List ℕ)) → IsRightPart r qs entries ws → length ws ≤ most_states qs
right_states r qs entries ws h = omega (arith, right_few r qs (length qs) entries ws h.right, h.right.states, ap stage (take-length qs))

pub label_rule : (r : LabelRule) (n : ℕ) → n ≡ r.columns → 0 < n → n ≤ 16 → ((f : TupleSymbol) (ws : List (List ℕ)) → first_word (r.step f ws) ≡ presence f) → IsLabelRule r
label_rule r n e l m h = record { some = omega arith; narrow = omega arith; tells = h }
