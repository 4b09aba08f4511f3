use Rattle.std.proofs.Common.{ℕ, take}
use Rattle.std.specs.Prelude.{Contains}
use Rattle.fort_gtt_closure.specs.Marks.{IsMarked, KeepsSet}
use Rattle.fort_gtt_closure.proofs.marks.mark_rights.Given as goal

abbrev pub invariant-loop-right : goal.invariant-loop-right
invariant-loop-right l = record {
  kept : KeepsSet l.initial.cells l.cells;
  marked : (right : ℕ × ℕ) → Contains (take l.right-index l.rights) right → IsMarked l.shape l.cells right.1 l.q;
}
