use Rattle.std.proofs.Common.{◌≡◌, map, take, vec_capacity}
use Rattle.fort_findings.specs.FindingView.{as_count}
use Rattle.fort_check_steps.specs.Marks.{starts}
use Rattle.fort_check_steps.proofs.marks.put_starts.Given as goal

abbrev pub invariant-loop-mark : goal.invariant-loop-mark
invariant-loop-mark l = record {
  starts : l.holds.items ≡ map (λ mark. starts (as_count mark)) (take l.mark-index l.marks);
  capacity : vec_capacity l.holds ≡ vec_capacity l.initial.holds;
}
