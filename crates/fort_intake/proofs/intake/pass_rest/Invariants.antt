use Rattle.std.proofs.Common.{◌≡◌, length, ◌<◌, ◌≤◌, ◌-◌}
use Rattle.fort_intake.proofs.Passing.{IsPassing}
use Rattle.fort_intake.proofs.intake.pass_rest.Given as goal

abbrev pub invariant-loop-n : goal.invariant-loop-n
invariant-loop-n g l = record {
  some : 0 < length l.piece;
  sized : length l.piece ≡ length l.fn.piece;
  within : l.count ≤ l.left;
  passing : IsPassing l.count (g.S.Source.rest l.fn.source) (g.S.Source.rest l.source);
  quiet : g.S.Source.faults l.source ≡ g.S.Source.faults l.fn.source;
}

abbrev pub decreases-loop-n : goal.decreases-loop-n
decreases-loop-n g l = l.left - l.count
