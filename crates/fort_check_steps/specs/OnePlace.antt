-- Inside: what one target does to the states so far.
use Rattle.std.specs.Prelude.{◌≡◌, ℕ, ◌<◌, ◌⊎◌, List, [], ◌∷◌, ◌++◌, length, get_or}
use Rattle.fort_tables.specs.Tuples.{presence}
use Rattle.fort_tables.specs.Entries.{Entry}
use Rattle.fort_tables.specs.LabelRules.{LabelRule, entry_label}
use Rattle.fort_check_steps.specs.declared.failure.Reason.{Reason}
use Rattle.fort_check_steps.specs.declared.failure.Reason.TheVariants.{Target, Label}

-- a new state with the entry's label
pub record IsNewState (r : LabelRule) (e : Entry) (q : ℕ) (ps ps' : List ℕ) (ws ws' : List (List ℕ)) : Type 0 where
  pub number : q ≡ length ws
  pub labels : ws' ≡ ws ++ entry_label r ws e ∷ []
  pub presences : ps' ≡ ps ++ presence e.symbol ∷ []

-- a state there is, of the entry's label
pub record IsOldState (r : LabelRule) (e : Entry) (q : ℕ) (ps ps' : List ℕ) (ws ws' : List (List ℕ)) : Type 0 where
  pub number : q < length ws
  pub label : get_or ws q [] ≡ entry_label r ws e
  pub labels : ws' ≡ ws
  pub presences : ps' ≡ ps

abbrev pub IsTaken : LabelRule → Entry → ℕ → List ℕ → List ℕ → List (List ℕ) → List (List ℕ) → Type 0
IsTaken r e q ps ps' ws ws' = IsNewState r e q ps ps' ws ws' ⊎ IsOldState r e q ps ps' ws ws'

abbrev pub IsRefused : LabelRule → Entry → ℕ → List (List ℕ) → Reason → Type 0
IsRefused r e q ws Target = length ws < q
IsRefused r e q ws Label = (q < length ws) × (get_or ws q [] ≡ entry_label r ws e → ⊥)
IsRefused r e q ws other = ⊥

-- a state there is, of whatever label
pub record IsKnownState (q : ℕ) (ps ps' : List ℕ) (ws ws' : List (List ℕ)) : Type 0 where
  pub number : q < length ws
  pub labels : ws' ≡ ws
  pub presences : ps' ≡ ps

-- the state of a target is there, or made
abbrev pub IsMade : LabelRule → Entry → ℕ → List ℕ → List ℕ → List (List ℕ) → List (List ℕ) → Type 0
IsMade r e q ps ps' ws ws' = IsNewState r e q ps ps' ws ws' ⊎ IsKnownState q ps ps' ws ws'
