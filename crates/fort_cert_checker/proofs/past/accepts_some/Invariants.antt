use Rattle.std.proofs.Common.{◌≡◌, false}
use Rattle.fort_tables.specs.Projections.{some_below}
use Rattle.fort_cert_checker.proofs.past.accepts_some.Given as goal

abbrev pub invariant-loop-q : goal.invariant-loop-q
invariant-loop-q g l = some_below l.q (g.T.Table.table l.table).accepting ≡ false
