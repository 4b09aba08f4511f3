use Rattle.std.proofs.Common.{◌≡◌, ℕ, ◌-◌, ◌≤◌, length}
use Rattle.fort_tables.specs.BitRows.{has_bit}
use Rattle.fort_operand_keys.specs.ProjectionKeys.{some_led}
use Rattle.fort_projection_keys.specs.ProjectionViews.{is_member}
use Rattle.fort_projection_keys.proofs.members.mark_leaders.Given as goal

abbrev pub decreases-members : goal.decreases-members
decreases-members g l = length (g.T.Table.table l.body).presences - l.from

abbrev pub invariant-members : goal.invariant-members
invariant-members g l = record {
  low : l.from ≤ length (g.T.Table.table l.body).presences;
  marked : (i : ℕ) → has_bit l.row i ≡ some_led l.from (g.T.TableClasses.leader_in l.body l.at.view) (is_member (g.T.Table.table l.body) l.at.presence l.first l.label) i;
}
