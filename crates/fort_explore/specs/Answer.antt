-- To believe: a fault of an exploration is want of memory, or tuples that are too many.
use Rattle.std.specs.Prelude.{List}
use Rattle.fort_tables.specs.Entries.{Entry}
use Rattle.fort_explore.specs.declared.table.ExploreFault.{ExploreFault}
use Rattle.fort_explore.specs.declared.table.ExploreFault.TheVariants.{Over, Memory}

-- P of the tuples, where there are too many labels
abbrev pub IfOver : ExploreFault → (List Entry → Type 0) → Type 0
IfOver Memory P = Unit {0}
IfOver (Over tuples) P = P tuples
