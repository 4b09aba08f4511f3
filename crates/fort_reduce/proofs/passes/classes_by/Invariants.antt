use Rattle.std.proofs.Common.{◌-◌, length}
use Rattle.fort_tables.specs.Tables.{listed_table}
use Rattle.fort_tables.specs.Refinement.{IsRefined}
use Rattle.fort_reduce.proofs.passes.classes_by.Given as goal

abbrev pub invariant-passes : goal.invariant-passes
invariant-passes l = IsRefined (listed_table l.table) l.classes.of.items l.classes.leaders.items

abbrev pub decreases-passes : goal.decreases-passes
decreases-passes l = length l.table.presences - length l.classes.leaders.items
