-- Inside: the states that targets name, before any is there, and when all are.
use Rattle.std.specs.Prelude.{◌≡◌, ℕ, ◌≤◌, List, [], map, length, vec_capacity}
use Rattle.std.specs.declared.alloc.Global.{Global}
use Rattle.std.specs.declared.vec.Vec.{Vec}
use Rattle.fort_tables.specs.Labels.{first_word, AreLabels}
use Rattle.fort_tables.specs.LabelRules.{LabelRule, label_of}
use Rattle.fort_tables.specs.Laid.{all_entries}
use Rattle.fort_certificate_theory.specs.PartSteps.{IsRightPart}
use Rattle.fort_check_steps.specs.Room.{most_states}
use Rattle.fort_check_steps.specs.StateLabelsView.{KeptLabels, IsAsSpacious}

-- no state is there, with room for all that the targets can make, whose labels have so many words
pub record IsReadyFor (targets : List ℕ) (words : ℕ) (presences : Vec ℕ Global) (rows : KeptLabels) : Type 0 where
  pub no_presences : presences.items ≡ []
  pub no_rows : rows.labels ≡ []
  pub width : rows.width ≡ words
  pub room : most_states targets ≤ rows.room
  pub spare : most_states targets ≤ vec_capacity presences

-- the targets are right for states with these presences and labels
pub record AreRightStates (r : LabelRule) (targets presences : List ℕ) (labels : List (List ℕ)) : Type 0 where
  pub right : IsRightPart r targets (all_entries r.signature r.columns (map first_word labels)) labels
  pub few : length labels ≤ most_states targets
  pub are_labels : AreLabels r.signature r.columns (label_of r) labels
  pub presences_are : presences ≡ map first_word labels

-- labels are of so many words, and there is as much room as before
pub record IsRoomLeft (words : ℕ) (presences left : Vec ℕ Global) (rows rows_left : KeptLabels) : Type 0 where
  pub width : rows_left.width ≡ words
  pub spaces : IsAsSpacious rows.spaces rows_left.spaces
  pub capacity : vec_capacity left ≡ vec_capacity presences
