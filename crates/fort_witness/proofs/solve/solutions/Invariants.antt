use Rattle.std.proofs.Common.{◌≡◌, suc, ◌≤◌, ◌-◌, [], length}
use Rattle.std.specs.BinaryHeap.{heap_items, IsHeap}
use Rattle.fort_tables.specs.Entries.{tuples_of}
use Rattle.fort_tables.specs.Tables.{listed_table}
use Rattle.fort_witness.specs.Heads.{head_cmp}
use Rattle.fort_witness.specs.Solving.{AreKeptNodes}
use Rattle.fort_witness.specs.Making.{AreOld}
use Rattle.fort_witness.proofs.solve.solutions.Given as goal

abbrev pub invariant-heights : goal.invariant-heights
invariant-heights l = record {
  nodes : AreKeptNodes (listed_table l.table) (suc l.most) l.kept;
  old : AreOld (listed_table l.table) (suc l.most) l.level l.low (tuples_of l.kept.dag);
  few : length l.kept.accepted.items ≤ l.most;
  none : heap_items l.heads ≡ [];
  heap : IsHeap head_cmp (heap_items l.heads);
  up : l.level ≤ l.height;
}

abbrev pub decreases-heights : goal.decreases-heights
decreases-heights l = l.height - l.level
