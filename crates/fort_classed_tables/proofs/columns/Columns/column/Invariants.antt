use Rattle.std.proofs.Common.{◌≡◌}
use Rattle.fort_tables.specs.Laid.{joined_below}
use Rattle.fort_classed_tables.specs.TargetColumns.{run_at}
use Rattle.fort_classed_tables.proofs.columns.Columns.column.Given as goal

abbrev pub invariant-loop-run : goal.invariant-loop-run
invariant-loop-run l = l.column.items ≡ joined_below l.run (run_at l.self l.rank)
