-- Inside: what the fields of sparse rows stand for.
use Rattle.std.specs.Prelude.{◌≡◌, ℕ, ◌*◌, ◌<◌, ◌≤◌, List, length, get_or, vec_capacity}
use Rattle.fort_tables.specs.Tuples.{tabulate}
use Rattle.fort_check_steps.specs.SparseWords.{start_of, piece, label_at, HasWords}
use Rattle.fort_check_steps.specs.SparseRowsView.{SparseLabels}
use Rattle.fort_check_steps.specs.declared.sparse_rows.SparseRows.TheInside.{Inside}

abbrev pub sparse_labels : ℕ → List ℕ → List ℕ → List ℕ → List (List ℕ)
sparse_labels width ends places words = tabulate (length ends) (label_at width ends places words)

abbrev pub sparse_labels_in : Inside → SparseLabels
sparse_labels_in a = record {
  width = a.width;
  room = a.room;
  most = a.most;
  space = a.space;
  labels = sparse_labels a.width a.ends.items a.places.items a.words.items;
}

-- the labels' words that aren't zero stand one behind another, each with its place in a label
pub record AreSparse (width : ℕ) (ends places words : List ℕ) : Type 0 where
  pub count : length places ≡ length words
  pub placed : (k : ℕ) → k < length places → get_or places k 0 < width
  pub ordered : (q : ℕ) → q < length ends → start_of ends q ≤ get_or ends q 0
  pub inside : (q : ℕ) → q < length ends → get_or ends q 0 ≤ length places
  pub last : start_of ends (length ends) ≡ length places
  pub exact : (q : ℕ) → q < length ends → HasWords (label_at width ends places words q) (piece (start_of ends q) (get_or ends q 0) places) (piece (start_of ends q) (get_or ends q 0) words)
  -- no more than without zeros
  pub few : length places ≤ length ends * width

pub record AreSparseRows (a : Inside) : Type 0 where
  pub sparse : AreSparse a.width a.ends.items a.places.items a.words.items
  pub within : length a.ends.items ≤ a.room
  pub fits : a.room * a.width ≤ a.space
  pub within_most : a.room ≤ a.most
  pub ends_room : a.most ≤ vec_capacity a.ends
  pub places_room : a.space ≤ vec_capacity a.places
  pub words_room : a.space ≤ vec_capacity a.words
