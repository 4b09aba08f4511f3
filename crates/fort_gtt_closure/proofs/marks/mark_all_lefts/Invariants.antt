use Rattle.std.proofs.Common.{ℕ, ◌<◌}
use Rattle.fort_gtt_closure.specs.Marks.{IsMarked, KeepsSet}
use Rattle.fort_gtt_closure.proofs.marks.mark_all_lefts.Given as goal

abbrev pub invariant-loop-q : goal.invariant-loop-q
invariant-loop-q l = record {
  kept : KeepsSet l.initial.cells l.cells;
  marked : (q : ℕ) → q < l.q → IsMarked l.shape l.cells l.p q;
}
