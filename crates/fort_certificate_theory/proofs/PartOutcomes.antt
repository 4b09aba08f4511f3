-- A part step has at most one outcome.
use Rattle.std.proofs.Common.{◌≡◌, ℕ, ◌<◌, List, [], map, length, get_or, refl, ap, sym, ◌∙◌, arith, subst, ⊎_elim}
use Rattle.std.proofs.lemmas.Bool.{cases_lt}
use Rattle.fort_tables.specs.Entries.{Entry}
use Rattle.fort_tables.specs.Labels.{first_word}
use Rattle.fort_tables.proofs.OrderLaws.{due_one}
use Rattle.fort_tables.specs.LabelRules.{LabelRule, entry_label}
use Rattle.fort_certificate_theory.specs.Outcomes.{Reason, Target, Label, Short, Long, StepOutcome, Fails}
use Rattle.fort_certificate_theory.specs.PartSteps.{IsDueOver, AreAllOver, AreRightTo, IsRightPart, IsPartFailure, NoState, OtherLabel, TooFew, TooMany, IsPartOutcome, IsRight, IsFailed}
use Rattle.fort_certificate_theory.proofs.PartLaws.{GoesOn, right_same, goes_on_at}

-- what is at the place where a list fails
data Fault (r : LabelRule) (qs : List ℕ) (n : ℕ) (entries : List Entry) (ws : List (List ℕ)) : Reason → Type 0 where
  AtTarget : (e : Entry) → n < length qs → IsDueOver r ws entries e → length ws < get_or qs n 0 → Fault r qs n entries ws Target
  AtLabel : (e : Entry) → n < length qs → IsDueOver r ws entries e → get_or qs n 0 < length ws → (get_or ws (get_or qs n 0) [] ≡ entry_label r ws e → ⊥) → Fault r qs n entries ws Label
  AtShort : (e : Entry) → length qs ≡ n → IsDueOver r ws entries e → Fault r qs n entries ws Short
  AtLong : n < length qs → AreAllOver r ws entries → Fault r qs n entries ws Long

record FaultAt (r : LabelRule) (qs : List ℕ) (n : ℕ) (reason : Reason) : Type 0 where
  entries : List Entry
  labels : List (List ℕ)
  right : AreRightTo r qs n entries labels
  fault : Fault r qs n entries labels reason

fault_at : (r : LabelRule) (qs : List ℕ) (n : ℕ) (reason : Reason) → IsPartFailure r qs n reason → FaultAt r qs n reason
fault_at r qs n reason (NoState m entries ws e h l due b) = record { entries = entries; labels = ws; right = h; fault = AtTarget e l due b }
fault_at r qs n reason (OtherLabel m entries ws e h l due b d) = record { entries = entries; labels = ws; right = h; fault = AtLabel e l due b d }
fault_at r qs n reason (TooFew m entries ws e h l due) = record { entries = entries; labels = ws; right = h; fault = AtShort e l due }
fault_at r qs n reason (TooMany m entries ws h l all) = record { entries = entries; labels = ws; right = h; fault = AtLong l all }

due_same : (r : LabelRule) (entries : List Entry) (ws : List (List ℕ)) (a b : Entry) → IsDueOver r ws entries a → IsDueOver r ws entries b → a ≡ b
due_same r entries ws a b h k = due_one r.signature r.columns (map first_word ws) entries a b h k

-- at a fault the targets don't go on
faulty_stops : (r : LabelRule) (qs : List ℕ) (n : ℕ) (entries : List Entry) (ws : List (List ℕ)) (reason : Reason) (e : Entry) → Fault r qs n entries ws reason → GoesOn r qs n entries ws e → ⊥
faulty_stops r qs n entries ws reason e (AtTarget d l due b) g = omega (arith, g.known)
faulty_stops r qs n entries ws reason e (AtLabel d l due b other) g = other (g.label b ∙ ap (entry_label r ws) (due_same r entries ws e d g.due due))
faulty_stops r qs n entries ws reason e (AtShort d l due) g = omega (arith, g.within)
faulty_stops r qs n entries ws reason e (AtLong l all) g = g.due.missing (all e g.due.is_entry)

-- one fault at one place
fault_same : (r : LabelRule) (qs : List ℕ) (n : ℕ) (entries : List Entry) (ws : List (List ℕ)) (a b : Reason) → Fault r qs n entries ws a → Fault r qs n entries ws b → a ≡ b
fault_same r qs n entries ws a b (AtTarget d l due m) (AtTarget d' l' due' m') = refl
fault_same r qs n entries ws a b (AtTarget d l due m) (AtLabel d' l' due' m' other') = absurd (omega arith)
fault_same r qs n entries ws a b (AtTarget d l due m) (AtShort d' l' due') = absurd (omega arith)
fault_same r qs n entries ws a b (AtTarget d l due m) (AtLong l' all') = absurd (due.missing (all' d due.is_entry))
fault_same r qs n entries ws a b (AtLabel d l due m other) (AtTarget d' l' due' m') = absurd (omega arith)
fault_same r qs n entries ws a b (AtLabel d l due m other) (AtLabel d' l' due' m' other') = refl
fault_same r qs n entries ws a b (AtLabel d l due m other) (AtShort d' l' due') = absurd (omega arith)
fault_same r qs n entries ws a b (AtLabel d l due m other) (AtLong l' all') = absurd (due.missing (all' d due.is_entry))
fault_same r qs n entries ws a b (AtShort d l due) (AtTarget d' l' due' m') = absurd (omega arith)
fault_same r qs n entries ws a b (AtShort d l due) (AtLabel d' l' due' m' other') = absurd (omega arith)
fault_same r qs n entries ws a b (AtShort d l due) (AtShort d' l' due') = refl
fault_same r qs n entries ws a b (AtShort d l due) (AtLong l' all') = absurd (omega arith)
fault_same r qs n entries ws a b (AtLong l all) (AtTarget d' l' due' m') = absurd (due'.missing (all d' due'.is_entry))
fault_same r qs n entries ws a b (AtLong l all) (AtLabel d' l' due' m' other') = absurd (due'.missing (all d' due'.is_entry))
fault_same r qs n entries ws a b (AtLong l all) (AtShort d' l' due') = absurd (omega arith)
fault_same r qs n entries ws a b (AtLong l all) (AtLong l' all') = refl

record IsOneFailure (n m : ℕ) (a b : Reason) : Type 0 where
  place : n ≡ m
  reason : a ≡ b

one_failure : (r : LabelRule) (qs : List ℕ) (n m : ℕ) (a b : Reason) → FaultAt r qs n a → FaultAt r qs m b → IsOneFailure n m a b
one_failure r qs n m a b f g =
    ⊎_elim
    (λ l. let on = goes_on_at r qs m n f.entries g.entries f.labels g.labels f.right l g.right in absurd (faulty_stops r qs n f.entries f.labels a on.0 f.fault on.1))
    (λ l. ⊎_elim
    (λ k. let on = goes_on_at r qs n m g.entries f.entries g.labels f.labels g.right k f.right in absurd (faulty_stops r qs m g.entries g.labels b on.0 g.fault on.1))
    (λ k.
    let is : m ≡ n = omega arith in
    let right : AreRightTo r qs n g.entries g.labels = subst (λ (i : ℕ). AreRightTo r qs i g.entries g.labels) is g.right in
    let fault : Fault r qs n g.entries g.labels b = subst (λ (i : ℕ). Fault r qs i g.entries g.labels b) is g.fault in
    let same = right_same r qs n g.entries f.entries g.labels f.labels right f.right in
    let here : Fault r qs n f.entries f.labels b = subst (λ (es : List Entry). Fault r qs n es f.labels b) same.entries_same (subst (λ (us : List (List ℕ)). Fault r qs n g.entries us b) same.labels_same fault) in
    record { place = sym is; reason = fault_same r qs n f.entries f.labels a b f.fault here })
    (cases_lt m n))
    (cases_lt n m)

right_or_failed : (r : LabelRule) (qs : List ℕ) (entries : List Entry) (ws : List (List ℕ)) (n : ℕ) (reason : Reason) → IsRightPart r qs entries ws → FaultAt r qs n reason → ⊥
right_or_failed r qs entries ws n reason h f =
    ⊎_elim
    (λ l. let on = goes_on_at r qs (length qs) n f.entries entries f.labels ws f.right l h.right in faulty_stops r qs n f.entries f.labels reason on.0 f.fault on.1)
    (λ l. whole f.fault (omega (arith, f.right.within)))
    (cases_lt n (length qs))
  where
    whole : {a : Reason} → Fault r qs n f.entries f.labels a → n ≡ length qs → ⊥
    whole (AtTarget d l due m) e = omega arith
    whole (AtLabel d l due m other) e = omega arith
    whole (AtShort d l due) e =
        let same = right_same r qs (length qs) entries f.entries ws f.labels h.right (subst (λ (i : ℕ). AreRightTo r qs i f.entries f.labels) e f.right) in
        let all : AreAllOver r f.labels f.entries = subst (λ (es : List Entry). AreAllOver r f.labels es) same.entries_same (subst (λ (us : List (List ℕ)). AreAllOver r us entries) same.labels_same h.all) in
        due.missing (all d due.is_entry)
    whole (AtLong l all) e = omega arith

pub outcome_one : (r : LabelRule) (qs : List ℕ) (a b : StepOutcome) → IsPartOutcome r qs a → IsPartOutcome r qs b → a ≡ b
outcome_one r qs a b (IsRight entries ws h) (IsRight entries' ws' k) = refl
outcome_one r qs a b (IsRight entries ws h) (IsFailed n reason f) = absurd (right_or_failed r qs entries ws n reason h (fault_at r qs n reason f))
outcome_one r qs a b (IsFailed n reason f) (IsRight entries ws h) = absurd (right_or_failed r qs entries ws n reason h (fault_at r qs n reason f))
outcome_one r qs a b (IsFailed n reason f) (IsFailed m reason' g) =
    let one = one_failure r qs n m reason reason' (fault_at r qs n reason f) (fault_at r qs m reason' g) in
    ap (λ i. Fails i reason) one.place ∙ ap (Fails m) one.reason
