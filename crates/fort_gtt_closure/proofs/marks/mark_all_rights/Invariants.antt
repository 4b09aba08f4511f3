use Rattle.std.proofs.Common.{ℕ, ◌<◌}
use Rattle.fort_gtt_closure.specs.Marks.{IsMarked, KeepsSet}
use Rattle.fort_gtt_closure.proofs.marks.mark_all_rights.Given as goal

abbrev pub invariant-loop-p : goal.invariant-loop-p
invariant-loop-p l = record {
  kept : KeepsSet l.initial.cells l.cells;
  marked : (p : ℕ) → p < l.p → IsMarked l.shape l.cells p l.q;
}
