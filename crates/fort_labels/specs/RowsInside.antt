-- Inside: what the fields of rows stand for.
use Rattle.std.specs.Prelude.{◌≡◌, ◌*◌, ◌<◌, ◌≤◌, length, vec_len, vec_capacity}
use Rattle.fort_tables.specs.Pieces.{pieces}
use Rattle.fort_labels.specs.RowsView.{Labels}
use Rattle.fort_labels.specs.declared.rows.Rows.TheInside.{Inside}

abbrev pub labels_in : Inside → Labels
labels_in a = record { width = a.width; room = a.room; space = vec_capacity a.words; labels = pieces a.width a.count a.words.items }

pub record AreRows (a : Inside) : Type 0 where
  pub some : 0 < a.width
  pub size : vec_len a.words ≡ a.count * a.width
  pub words : length a.words.items ≡ a.count * a.width
  pub within : a.count ≤ a.room
  pub reserved : a.room * a.width ≤ vec_capacity a.words
