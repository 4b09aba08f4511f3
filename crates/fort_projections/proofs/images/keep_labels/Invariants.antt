use Rattle.std.proofs.Common.{◌≡◌, take}
use Rattle.fort_target_lists.specs.LabelLists.{labels_at}
use Rattle.fort_projections.proofs.images.keep_labels.Given as goal

abbrev pub invariant-loop-j : goal.invariant-loop-j
invariant-loop-j l = record {
  labels : l.kept.labels ≡ labels_at l.rows.labels (take l.j l.row.kids);
  width : l.kept.width ≡ l.initial.kept.width;
  room : l.kept.room ≡ l.initial.kept.room;
}
