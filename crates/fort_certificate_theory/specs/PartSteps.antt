-- To believe: when a list of targets is the table of a part: each target in its turn is a state there is, with the label of the entry that is due, or a new state; and at which place a list fails, and why.
use Rattle.std.specs.Prelude.{◌≡◌, ℕ, ◌<◌, ◌≤◌, List, [], map, length, take, get_or, Bool}
use Rattle.fort_tables.specs.Entries.{Entry, stage, IsDue, HasAllEntries}
use Rattle.fort_tables.specs.Tables.{Made, Listed, finished}
use Rattle.fort_tables.specs.Labels.{first_word, final_by}
use Rattle.fort_tables.specs.LabelRules.{LabelRule, entry_label}
use Rattle.fort_certificate_theory.specs.Outcomes.{Target, Label, Short, Long, Reason, StepOutcome, Fine, Fails}

-- the first entry over states with these labels that isn't among these
abbrev pub IsDueOver : LabelRule → List (List ℕ) → List Entry → Entry → Type 0
IsDueOver r labels entries e = IsDue r.signature r.columns (map first_word labels) entries e

-- each entry over states with these labels is among these
abbrev pub AreAllOver : LabelRule → List (List ℕ) → List Entry → Type 0
AreAllOver r labels entries = HasAllEntries r.signature r.columns (map first_word labels) entries

-- how many states the targets before a place name: one more than the greatest
abbrev pub states_before : List ℕ → ℕ → ℕ
states_before targets k = stage (take k targets)

-- the target at place k is that of the entry due there: a state that is named before, with the entry's label, or the next new one,
-- which gets this label
pub record IsRightAt (r : LabelRule) (targets : List ℕ) (entries : List Entry) (labels : List (List ℕ)) (k : ℕ) (e : Entry) : Type 0 where
  pub due : IsDueOver r (take (states_before targets k) labels) (take k entries) e
  pub known : get_or targets k 0 ≤ states_before targets k
  pub label : get_or labels (get_or targets k 0) [] ≡ entry_label r (take (states_before targets k) labels) e

-- the first n targets are right; they are those of these entries, and their states have these labels
pub record AreRightTo (r : LabelRule) (targets : List ℕ) (n : ℕ) (entries : List Entry) (labels : List (List ℕ)) : Type 0 where
  pub within : n ≤ length targets
  pub count : length entries ≡ n
  pub states : length labels ≡ states_before targets n
  pub right : (k : ℕ) (d : Entry) → k < n → IsRightAt r targets entries labels k (get_or entries k d)

-- the targets are a table
pub record IsRightPart (r : LabelRule) (targets : List ℕ) (entries : List Entry) (labels : List (List ℕ)) : Type 0 where
  pub right : AreRightTo r targets (length targets) entries labels
  pub all : AreAllOver r labels entries

-- the first place where the targets fail, and why
pub data IsPartFailure (r : LabelRule) (targets : List ℕ) : ℕ → Reason → Type 0 where
  -- a number greater than that of the states so far
  NoState : (n : ℕ) (entries : List Entry) (labels : List (List ℕ)) (e : Entry) → AreRightTo r targets n entries labels → n < length targets
      → IsDueOver r labels entries e → length labels < get_or targets n 0 → IsPartFailure r targets n Target
  -- a state with another label
  OtherLabel : (n : ℕ) (entries : List Entry) (labels : List (List ℕ)) (e : Entry) → AreRightTo r targets n entries labels
      → n < length targets → IsDueOver r labels entries e → get_or targets n 0 < length labels
      → (get_or labels (get_or targets n 0) [] ≡ entry_label r labels e → ⊥)
      → IsPartFailure r targets n Label
  -- entries without targets
  TooFew : (n : ℕ) (entries : List Entry) (labels : List (List ℕ)) (e : Entry) → AreRightTo r targets n entries labels → length targets ≡ n
      → IsDueOver r labels entries e → IsPartFailure r targets n Short
  -- targets without entries
  TooMany : (n : ℕ) (entries : List Entry) (labels : List (List ℕ)) → AreRightTo r targets n entries labels → n < length targets
      → AreAllOver r labels entries → IsPartFailure r targets n Long

pub data IsPartOutcome (r : LabelRule) (targets : List ℕ) : StepOutcome → Type 0 where
  IsRight : (entries : List Entry) (labels : List (List ℕ)) → IsRightPart r targets entries labels → IsPartOutcome r targets Fine
  IsFailed : (place : ℕ) (reason : Reason) → IsPartFailure r targets place reason → IsPartOutcome r targets (Fails place reason)

-- the table of a part: these entries with these targets, states with these labels, accepting where the label is and no column is absent
abbrev pub part_made : LabelRule → List Entry → (targets : List ℕ) → (labels : List (List ℕ)) → Made
part_made r entries targets labels = record {
  signature = r.signature;
  columns = r.columns;
  presences = map first_word labels;
  entries = entries;
  targets = targets;
}

abbrev pub part_table : LabelRule → (List ℕ → Bool) → List Entry → (targets : List ℕ) → (labels : List (List ℕ)) → Listed
part_table r accepting entries targets labels = finished (part_made r entries targets labels) (map (final_by r.columns accepting) labels)
