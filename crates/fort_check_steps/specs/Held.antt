-- To believe: when a room holds the table of a part, and which table it holds: where it is merged, the one over classes.
use Rattle.std.specs.Prelude.{◌≡◌, ℕ, ◌<◌, ◌^◌, List, Bool, map, length, if◌then◌else◌}
use Rattle.fort_tables.specs.Entries.{Entry}
use Rattle.fort_tables.specs.Labels.{first_word, final_by}
use Rattle.fort_tables.specs.LabelRules.{LabelRule, IsLabelRule}
use Rattle.fort_theory.specs.Signatures.{Signature}
use Rattle.fort_tables.specs.Tables.{Listed, IsListed}
use Rattle.fort_tables.specs.Laid.{all_entries}
use Rattle.fort_certificate_theory.specs.PartSteps.{IsRightPart}
use Rattle.fort_check_steps.specs.declared.room.PartRoom.{PartRoom}

-- the entries over its states
abbrev pub held_entries : LabelRule → PartRoom → List Entry
held_entries r room = all_entries r.signature r.columns room.presences.items

abbrev pub held_table : LabelRule → List ℕ → PartRoom → Listed
held_table r targets room = record {
  signature = r.signature;
  columns = r.columns;
  presences = room.presences.items;
  entries = held_entries r room;
  targets = targets;
  finals = room.finals.items;
}

-- its states have these labels
pub record HoldsPart (r : LabelRule) (accepting : List ℕ → Bool) (targets : List ℕ) (room : PartRoom) : Type 0 where
  pub labels : List (List ℕ)
  pub lawful : IsLabelRule r
  pub right : IsRightPart r targets (held_entries r room) labels
  pub presences : room.presences.items ≡ map first_word labels
  pub finals : room.finals.items ≡ map (final_by r.columns accepting) labels

-- the targets of the entries over its states, where those of the part are these
abbrev pub own_targets : List ℕ → PartRoom → List ℕ
own_targets targets room = if room.is_merged then room.merged.items else targets

-- the table that it holds
abbrev pub room_table : Signature → ℕ → List ℕ → PartRoom → Listed
room_table sig columns targets room = record {
  signature = sig;
  columns = columns;
  presences = room.presences.items;
  entries = all_entries sig columns room.presences.items;
  targets = own_targets targets room;
  finals = room.finals.items;
}

-- that is a table whose states and targets have numbers
pub record IsRoomTable (sig : Signature) (columns : ℕ) (targets : List ℕ) (room : PartRoom) : Type 0 where
  pub listed : IsListed (room_table sig columns targets room)
  pub few : length room.presences.items < 2 ^ 32
  pub few_targets : length (own_targets targets room) < 2 ^ 32
  pub final_count : length room.finals.items ≡ length room.presences.items
