use Rattle.std.proofs.Common.{◌≡◌, false}
use Rattle.fort_tables.specs.Tables.{listed_table}
use Rattle.fort_tables.specs.Projections.{some_below}
use Rattle.fort_engine.proofs.projected.accepts_some.Given as goal

abbrev pub invariant-loop-q : goal.invariant-loop-q
invariant-loop-q l = some_below l.q (listed_table l.table).accepting ≡ false
