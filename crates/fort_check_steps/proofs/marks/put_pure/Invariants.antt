use Rattle.std.proofs.Common.{◌≡◌, ◌≤◌, length, vec_capacity}
use Rattle.fort_tables.specs.Projections.{ArePureBelow}
use Rattle.fort_check_steps.proofs.marks.put_pure.Given as goal

abbrev pub invariant-loop-q : goal.invariant-loop-q
invariant-loop-q g l = record {
  pure : ArePureBelow (g.T.Table.table l.table) l.column l.q l.states.items;
  count : length l.states.items ≤ l.q;
  capacity : vec_capacity l.states ≡ vec_capacity l.initial.states;
}
