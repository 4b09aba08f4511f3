-- To believe: a number is that of the body's view of some place, where the states have this presence.
use Rattle.std.specs.Prelude.{◌≡◌, ℕ, ◌/◌}
use Rattle.fort_tables.specs.Tuples.{TupleSymbol, kid_presence}
use Rattle.fort_tables.specs.Tables.{Table}
use Rattle.fort_table_classes.specs.ClassViews.{IsPlaceUnder}
use Rattle.fort_projection_keys.specs.ProjectionViews.{presence_in}

pub record IsViewed (table : Table) (number : TupleSymbol → ℕ → ℕ) (view presence : ℕ) : Type 0 where
  pub symbol : TupleSymbol
  pub place : ℕ
  pub under : IsPlaceUnder table symbol place
  pub view_is : number symbol place ≡ view
  pub presence_is : kid_presence table.signature symbol place ≡ presence

-- the word is that of a view
abbrev pub IsPart : Table → (TupleSymbol → ℕ → ℕ) → ℕ → ℕ → ℕ → Type 0
IsPart table number c presence word = IsViewed table number (word / 2) (presence_in c presence word)
