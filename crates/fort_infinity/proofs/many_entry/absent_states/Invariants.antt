use Rattle.std.proofs.Common.{◌≡◌, ℕ, ◌<◌, [], get_or, length}
use Rattle.fort_tables.specs.Projections.{absent_state}
use Rattle.fort_infinity.proofs.many_entry.absent_states.Given as goal

abbrev pub invariant-loop-j : goal.invariant-loop-j
invariant-loop-j l = record {
  size : length l.states ≡ 8;
  done : (k : ℕ) → k < l.j → get_or l.states k 0 ≡ absent_state (get_or l.rows.labels (get_or l.row.kids k 0) []);
}
