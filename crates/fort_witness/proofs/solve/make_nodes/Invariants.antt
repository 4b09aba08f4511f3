use Rattle.std.proofs.Common.{ℕ, length}
use Rattle.std.specs.BinaryHeap.{heap_items, heap_len}
use Rattle.fort_tables.specs.Tables.{listed_table}
use Rattle.fort_witness.specs.Solving.{IsMaking, work_left}
use Rattle.fort_witness.proofs.solve.make_nodes.Given as goal

abbrev pub invariant-heads : goal.invariant-heads
invariant-heads l = (h : ℕ) → IsMaking (listed_table l.table) l.most h l.span.low l.span.end l.initial.kept (heap_items l.initial.heads) → IsMaking (listed_table l.table) l.most h l.span.low l.span.end l.kept (heap_items l.heads)

abbrev pub decreases-heads : goal.decreases-heads
decreases-heads l = work_left (length l.table.presences) l.most (length l.kept.dag) (heap_len l.heads)
