-- Inside: what the fields of a part's labels stand for.
use Rattle.std.specs.Prelude.{◌*◌, ◌≤◌, vec_capacity, if◌then◌else◌}
use Rattle.fort_check_steps.specs.StateLabelsView.{Spaces, KeptLabels}
use Rattle.fort_check_steps.specs.WideKidsInside.{AreWideKids}
use Rattle.fort_check_steps.specs.declared.state_labels.StateLabels.TheInside.{Inside}

abbrev pub spaces_in : Inside → Spaces
spaces_in a = record { narrow = a.dense.space; wide = a.sparse.space; most = a.sparse.most; widest = a.widest }

abbrev pub kept_labels_in : Inside → KeptLabels
kept_labels_in a = record {
  width = if a.wide then a.sparse.width else a.dense.width;
  room = if a.wide then a.sparse.room else a.dense.room;
  spaces = spaces_in a;
  labels = if a.wide then a.sparse.labels else a.dense.labels;
}

pub record AreStateLabels (a : Inside) : Type 0 where
  pub kids : AreWideKids a.sparse a.kids
  pub label_room : a.widest ≤ vec_capacity a.kids.label
  pub kids_space : 8 * a.widest ≤ a.kids.rows.space
