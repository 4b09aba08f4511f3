use Rattle.fort_tables.specs.Projections.{ArePureBelow}
use Rattle.fort_projections.proofs.pure.pure_states.Given as goal

abbrev pub invariant-loop-q : goal.invariant-loop-q
invariant-loop-q g l = ArePureBelow (g.T.Table.table l.table) l.column l.q l.states.items
