use Rattle.std.proofs.Common.{◌≡◌, ℕ, ◌<◌, true}
use Rattle.fort_gtt_closure.specs.Grids.{is_listed}
use Rattle.fort_gtt_closure.specs.Marks.{IsMarked, KeepsSet}
use Rattle.fort_gtt_closure.proofs.marks.mark_row.Given as goal

abbrev pub invariant-loop-q : goal.invariant-loop-q
invariant-loop-q l = record {
  kept : KeepsSet l.initial.cells l.cells;
  marked : (q : ℕ) → q < l.q → is_listed l.grid.entries.items l.through q ≡ true → IsMarked l.shape l.cells l.p q;
}
