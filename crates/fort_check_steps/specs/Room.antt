-- To believe: which room the check of a part needs: for states no more than it has targets, and no more than the greatest target names; words for the labels of so many states, of which the wide ones stand by themselves; numbers by which so many states are walked through; for the list of each operand as many as its targets, and one start more; and for a merge as many targets over classes as targets, and as many classes as states.
use Rattle.std.specs.Prelude.{ℕ, ◌≤◌, min, List, length, vec_capacity}
use Rattle.fort_tables.specs.Entries.{stage}
use Rattle.fort_target_lists.specs.LayRooms.{HasLayRoom}
use Rattle.fort_target_lists.specs.TargetLists.{HasListRoom}
use Rattle.fort_check_steps.specs.declared.room.PartRoom.{PartRoom}
use Rattle.fort_check_steps.specs.StateLabelsView.{Spaces, HasSpace, IsAsSpacious}
use Rattle.fort_check_steps.specs.declared.room.ListRoom.{ListRoom}
use Rattle.fort_check_steps.specs.declared.room.LabelRoom.{LabelRoom}
use Rattle.fort_check_steps.specs.declared.room.ListNeeds.{ListNeeds}
use Rattle.fort_check_steps.specs.declared.room.LabelNeeds.{LabelNeeds}

-- the most states that the targets can make
abbrev pub most_states : List ℕ → ℕ
most_states targets = min (length targets) (stage targets)

pub record HasRoom (targets : List ℕ) (r : PartRoom) : Type 0 where
  pub finals : most_states targets ≤ vec_capacity r.finals
  pub presences : most_states targets ≤ vec_capacity r.presences

-- for the targets of the entries over classes
pub record HasMergeRoom (targets : List ℕ) (r : PartRoom) : Type 0 where
  pub merged : length targets ≤ vec_capacity r.merged

-- for labels of this width, and for a walk over their states
pub record HasLabelRoom (width : ℕ) (targets : List ℕ) (r : LabelRoom) : Type 0 where
  pub rows : HasSpace width (most_states targets) r.rows.spaces
  pub out : width ≤ vec_capacity r.out
  pub lay : HasLayRoom (most_states targets) r.lists.lay

-- for the list of an only or first operand with these targets
pub record HasFirstRoom (targets : List ℕ) (r : ListRoom) : Type 0 where
  pub list : HasListRoom (most_states targets) (length targets) r.first
  pub lay : HasLayRoom (most_states targets) r.lay

-- for that of a second one
pub record HasSecondRoom (targets : List ℕ) (r : ListRoom) : Type 0 where
  pub list : HasListRoom (most_states targets) (length targets) r.second
  pub lay : HasLayRoom (most_states targets) r.lay

-- for the check of a merge of a part with these targets: a first state for each class, and the list of its own targets
pub record HasLeaderRoom (targets : List ℕ) (r : LabelRoom) : Type 0 where
  pub leaders : most_states targets ≤ vec_capacity r.leaders
  pub own : HasFirstRoom targets r.lists

-- lists for which there was room still have it
pub record AreAsRoomy (old new : ListRoom) : Type 0 where
  pub first : (n k : ℕ) → HasListRoom n k old.first → HasListRoom n k new.first
  pub second : (n k : ℕ) → HasListRoom n k old.second → HasListRoom n k new.second
  pub lay : (n : ℕ) → HasLayRoom n old.lay → HasLayRoom n new.lay

-- what there was room for, there still is
pub record IsAsRoomy (old new : LabelRoom) : Type 0 where
  pub rows : IsAsSpacious old.rows.spaces new.rows.spaces
  pub out : vec_capacity old.out ≤ vec_capacity new.out
  pub lists : AreAsRoomy old.lists new.lists
  pub leaders : vec_capacity old.leaders ≤ vec_capacity new.leaders

-- what the labels need, as spaces
abbrev pub spaces_of : LabelNeeds → Spaces
spaces_of n = record { narrow = n.narrow; wide = n.wide; most = n.most; widest = n.widest }

-- what so many labels of this width need
pub record IsSpaceFor (width count : ℕ) (n : LabelNeeds) : Type 0 where
  pub rows : HasSpace width count (spaces_of n)
  pub out : width ≤ n.width
  pub states : count ≤ n.states

-- what the list of a table with these targets needs
pub record IsListFor (targets : List ℕ) (n : ListNeeds) : Type 0 where
  pub states : most_states targets ≤ n.states
  pub targets_fit : length targets ≤ n.targets

-- what suffices for the one list does for the other
pub record IsAsLong (less more : ListNeeds) : Type 0 where
  pub states : less.states ≤ more.states
  pub targets : less.targets ≤ more.targets

-- what suffices for the one does for the other
pub record IsAsNeedy (less more : LabelNeeds) : Type 0 where
  pub rows : IsAsSpacious (spaces_of less) (spaces_of more)
  pub out : less.width ≤ more.width
  pub states : less.states ≤ more.states
  pub first : IsAsLong less.first more.first
  pub second : IsAsLong less.second more.second
  pub leaders : less.leaders ≤ more.leaders

-- room for what labels and lists need
pub record HasNeeds (n : LabelNeeds) (r : LabelRoom) : Type 0 where
  pub rows : IsAsSpacious (spaces_of n) r.rows.spaces
  pub out : n.width ≤ vec_capacity r.out
  pub lay : HasLayRoom n.states r.lists.lay
  pub first : HasListRoom n.first.states n.first.targets r.lists.first
  pub second : HasListRoom n.second.states n.second.targets r.lists.second
  pub first_lay : HasLayRoom n.first.states r.lists.lay
  pub second_lay : HasLayRoom n.second.states r.lists.lay
  pub leaders : n.leaders ≤ vec_capacity r.leaders
