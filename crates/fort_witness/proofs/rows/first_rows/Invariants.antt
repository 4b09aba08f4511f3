use Rattle.std.proofs.Common.{ℕ, suc}
use Rattle.std.specs.BinaryHeap.{heap_items}
use Rattle.fort_tables.specs.Entries.{tuples_of}
use Rattle.fort_tables.specs.Tables.{Table, IsTable}
use Rattle.fort_witness.specs.Solving.{AreEntries, AreKeptNodes, AreFirstRows}
use Rattle.fort_witness.specs.Making.{AreOld}
use Rattle.fort_witness.proofs.rows.first_rows.Given as goal

abbrev pub invariant-loop-k : goal.invariant-loop-k
invariant-loop-k l = (t : Table) (h : ℕ) → IsTable t → AreEntries t l.entries → AreKeptNodes t (suc l.most) l.kept → AreOld t (suc l.most) h l.span.low (tuples_of l.kept.dag) → AreFirstRows t (suc l.most) h l.span.low (tuples_of l.kept.dag) l.kept.states.items l.entries l.k (heap_items l.heads)
