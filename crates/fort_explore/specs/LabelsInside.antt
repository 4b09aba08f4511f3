-- Inside: what the fields of a set of labels stand for.
use Rattle.std.specs.Prelude.{◌≡◌, ℕ, ◌<◌, ◌≤◌, List, [], map, take, length, get_or}
use Rattle.fort_explore.specs.ShortLabels.{padded}
use Rattle.fort_explore.specs.declared.labels.Storage.{Storage}
use Rattle.fort_explore.specs.declared.labels.Storage.TheVariants.{Short, Long}

abbrev pub labels_in : ℕ → Storage → List (List ℕ)
labels_in width (Short wss) = map (take width) wss
labels_in width (Long labels) = labels

-- four words each, zeros from this width on
pub record ArePadded (width : ℕ) (wss : List (List ℕ)) : Type 0 where
  pub narrow : width ≤ 4
  pub zeros : (q : ℕ) → q < length wss → get_or wss q [] ≡ padded (take width (get_or wss q []))

pub record AreOfWidth (width : ℕ) (labels : List (List ℕ)) : Type 0 where
  pub width_is : (q : ℕ) → q < length labels → length (get_or labels q []) ≡ width

abbrev pub IsStorage : ℕ → Storage → Type 0
IsStorage width (Short wss) = ArePadded width wss
IsStorage width (Long labels) = Unit {0}

pub record AreLabelsIn (width : ℕ) (f : Storage) : Type 0 where
  pub widths : AreOfWidth width (labels_in width f)
  pub storage : IsStorage width f
