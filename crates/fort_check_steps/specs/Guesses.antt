-- Inside: targets of which each may be that of its entry, where the label of a state that is there isn't held against the entry's.
use Rattle.std.specs.Prelude.{◌≡◌, ℕ, ◌<◌, ◌≤◌, ◌⊎◌, List, map, length, take, get_or, Contains}
use Rattle.fort_tables.specs.Entries.{Entry, IsEntry, ComesBefore, AreInOrder}
use Rattle.fort_tables.specs.Labels.{first_word}
use Rattle.fort_tables.specs.LabelRules.{LabelRule}
use Rattle.fort_certificate_theory.specs.PartSteps.{IsDueOver, states_before}

-- this entry is due at place k, and the target there is a state that is named before, or the next new one
pub record IsGuess (r : LabelRule) (targets : List ℕ) (entries : List Entry) (labels : List (List ℕ)) (k : ℕ) (e : Entry) : Type 0 where
  pub due : IsDueOver r (take (states_before targets k) labels) (take k entries) e
  pub known : get_or targets k 0 ≤ states_before targets k

-- the targets before place k may be those of these entries, which are in order, and behind the last one come all others
pub record Guessed (r : LabelRule) (targets : List ℕ) (k : ℕ) (entries : List Entry) (labels : List (List ℕ)) (last : Entry) : Type 0 where
  pub within : k ≤ length targets
  pub count : length entries ≡ k
  pub states : length labels ≡ states_before targets k
  pub each : (i : ℕ) (d : Entry) → i < k → IsGuess r targets entries labels i (get_or entries i d)
  pub order : AreInOrder r.signature r.columns (map first_word labels) entries
  pub before : (i : ℕ) (d : Entry) → i < length entries → (get_or entries i d ≡ last) ⊎ ComesBefore (get_or entries i d) last
  pub all : (x : Entry) → IsEntry r.signature r.columns (map first_word labels) x → Contains entries x ⊎ ComesBefore last x
