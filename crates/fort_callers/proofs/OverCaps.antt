-- What is said of the tuples of an exploration that is over its cap.
use Rattle.std.proofs.Common.{List}
use Rattle.fort_tables.specs.Entries.{Entry}
use Rattle.fort_explore.specs.Answer.{IfOver}
use Rattle.fort_explore.specs.declared.table.ExploreFault.{ExploreFault}
use Rattle.fort_explore.specs.declared.table.ExploreFault.TheVariants.{Memory, Over}

pub IfOver-weaker : (fault : ExploreFault) (P Q : List Entry → Type 0) → ((tuples : List Entry) → P tuples → Q tuples) → IfOver fault P → IfOver fault Q
IfOver-weaker Memory P Q by p = tt
IfOver-weaker (Over tuples) P Q by p = by tuples p
