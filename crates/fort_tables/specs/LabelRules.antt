-- To believe: a label rule gives each optional tuple a label, from its root and the children's labels; a table by labels is lawful, has no idle state, and accepts exactly the tuples of terms whose label is accepting.
use Rattle.std.specs.Prelude.{◌≡◌, ℕ, ◌<◌, ◌≤◌, List, [], map, get_or, Bool, false}
use Rattle.fort_theory.specs.Signatures.{Signature, most_columns}
use Rattle.fort_tables.specs.Tuples.{Tuple, TupleSymbol, presence, IsTuple, IsFull, fold_tuple}
use Rattle.fort_tables.specs.Entries.{Entry}
use Rattle.fort_tables.specs.Tables.{Table, IsTable, IsReached, state_of}
use Rattle.fort_tables.specs.Labels.{Labelling, first_word}

-- how the label of an entry comes from its symbol and the labels of its states
pub record LabelRule : Type 0 where
  pub signature : Signature
  pub columns : ℕ
  pub step : TupleSymbol → List (List ℕ) → List ℕ

-- the first word of a label is the presence
pub record IsLabelRule (r : LabelRule) : Type 0 where
  pub some : 0 < r.columns
  pub narrow : r.columns ≤ most_columns
  pub tells : (f : TupleSymbol) (ws : List (List ℕ)) → first_word (r.step f ws) ≡ presence f

-- the label of a tuple
abbrev pub label_of : LabelRule → Labelling
label_of r t = fold_tuple r.step t

-- the label of an entry, where the states have these labels
abbrev pub entry_label : LabelRule → List (List ℕ) → Entry → List ℕ
entry_label r labels e = r.step e.symbol (map (λ q. get_or labels q []) e.kids)

-- a table that accepts by labels; two of its states may stand for one label
pub record IsTableBy (sig : Signature) (columns : ℕ) (label : Labelling) (accepting : List ℕ → Bool) (table : Table) : Type 0 where
  pub signature : table.signature ≡ sig
  pub columns_are : table.columns ≡ columns
  pub lawful : IsTable table
  pub reached : IsReached table
  -- a tuple of terms is accepted exactly where its label is, and no other tuple is
  pub full : (t : Tuple) → IsTuple sig columns t → IsFull t → table.accepting (state_of table t) ≡ accepting (label t)
  pub partial : (t : Tuple) → IsTuple sig columns t → (IsFull t → ⊥) → table.accepting (state_of table t) ≡ false
