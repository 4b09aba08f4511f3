use Rattle.std.proofs.Common.{◌≡◌, ℕ, ◌<◌, ◌≤◌, ◌-◌, ◌&&◌, false, length}
use Rattle.fort_tables.specs.Projections.{has_state}
use Rattle.fort_projections.proofs.local.project_accepts.Given as goal

abbrev pub decreases-states : goal.decreases-states
decreases-states g l = length (g.T.Table.table l.body).presences - l.from

abbrev pub invariant-states : goal.invariant-states
invariant-states g l = record {
  low : l.from ≤ length (g.T.Table.table l.body).presences;
  none : (q : ℕ) → q < l.from → (has_state l.label q && (g.T.Table.table l.body).accepting q) ≡ false;
}
