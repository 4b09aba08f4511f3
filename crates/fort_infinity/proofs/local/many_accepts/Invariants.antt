use Rattle.std.proofs.Common.{◌≡◌, ◌&&◌, false, length}
use Rattle.fort_tables.specs.Projections.{some_below}
use Rattle.fort_tables.specs.ManyLabels.{has_many}
use Rattle.fort_infinity.proofs.local.many_accepts.Given as goal

abbrev pub invariant-loop-q : goal.invariant-loop-q
invariant-loop-q g l =
    let body = g.T.Table.table l.body in
    some_below l.q (λ q. has_many (length body.presences) l.label q && body.accepting q) ≡ false
