-- Inside: the labels of an entry's children are those of states among wide labels.
use Rattle.std.specs.Prelude.{◌≡◌, ℕ, ◌<◌, ◌≤◌, [], map, length, get_or, vec_capacity}
use Rattle.fort_check_steps.specs.SparseRowsView.{SparseLabels}
use Rattle.fort_check_steps.specs.declared.state_labels.WideKids.{WideKids}

-- it is of the width of the labels and has room for an entry's children; its rows are the labels of the states that are noted
pub record AreWideKids (sparse : SparseLabels) (kids : WideKids) : Type 0 where
  pub label_width : length kids.label.items ≡ sparse.width
  pub width : kids.rows.width ≡ sparse.width
  pub room : 8 ≤ kids.rows.room
  pub noted_room : 8 ≤ vec_capacity kids.noted
  pub noted : (j : ℕ) → j < length kids.noted.items → get_or kids.noted.items j 0 < length sparse.labels
  pub labels : kids.rows.labels ≡ map (λ q. get_or sparse.labels q []) kids.noted.items
