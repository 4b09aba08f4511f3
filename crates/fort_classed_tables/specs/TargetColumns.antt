-- Inside: the targets under a tuple symbol, in runs that the children before a place and the child there tell; those over one state there are its column.
use Rattle.std.specs.Prelude.{ℕ, ◌+◌, ◌*◌, ◌^◌, ◌<◌, ◌≤◌, List, length}
use Rattle.std.specs.List.{slice_range}
use Rattle.fort_tables.specs.Laid.{joined_below}
use Rattle.fort_classed_tables.specs.declared.columns.Columns.{Columns}

-- where the targets begin that are over these children before the place, and a state of this rank there
abbrev pub run_start : Columns → ℕ → ℕ → ℕ
run_start c rank run = c.start + (run * c.count + rank) * c.inner

abbrev pub run_at : Columns → ℕ → ℕ → List ℕ
run_at c rank run = slice_range c.targets.now (run_start c rank run) (run_start c rank run + c.inner)

-- all targets over a state of this rank
abbrev pub column_at : Columns → ℕ → List ℕ
column_at c rank = joined_below c.outer (run_at c rank)

pub record IsWithin (c : Columns) : Type 0 where
  pub some : 0 < c.inner
  pub few : length c.targets.now < 2 ^ 64
  pub all : c.start + c.outer * c.count * c.inner ≤ length c.targets.now
