-- Inside: the truths of a table's complement, one for each state.
use Rattle.std.specs.Prelude.{◌≡◌, ℕ, ◌<◌, List, length, get_or, Bool, false}
use Rattle.fort_tables.specs.Tables.{Table}
use Rattle.fort_tables.specs.OperationTruth.{complemented}

pub record AreTurned (table : Table) (finals : List Bool) : Type 0 where
  pub count : length finals ≡ length table.presences
  pub each : (q : ℕ) → q < length table.presences → get_or finals q false ≡ (complemented table).accepting q
