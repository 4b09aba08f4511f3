use Rattle.std.proofs.Common.{◌≤◌}
use Rattle.fort_check_steps.proofs.quick.known_from.Given as goal

abbrev pub invariant-loop-place : goal.invariant-loop-place
invariant-loop-place l = l.known ≤ l.place
