use Rattle.std.proofs.Common.{◌≡◌, ℕ, take}
use Rattle.std.specs.Prelude.{Contains}
use Rattle.fort_gtt_closure.specs.Marks.{IsMarked, KeepsSet}
use Rattle.fort_gtt_closure.proofs.marks.mark_meeting_one.Given as goal

abbrev pub invariant-loop-left : goal.invariant-loop-left
invariant-loop-left l = record {
  kept : KeepsSet l.initial.cells l.cells;
  marked : (left : ℕ × ℕ) → Contains (take l.left-index l.lefts) left → l.right.0 ≡ left.0 → IsMarked l.shape l.cells l.right.1 left.1;
}
