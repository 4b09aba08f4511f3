use Rattle.std.proofs.Common.{map, vec_items}
use Rattle.fort_relation_exprs.specs.LeadRows.{HasGathered, off_rows}
use Rattle.fort_relation_exprs.proofs.leads.settle.Given as goal

abbrev pub invariant-passes : goal.invariant-passes
invariant-passes l = HasGathered l.nta (map vec_items l.initial.rows.items) (map vec_items l.rows.items)

abbrev pub decreases-passes : goal.decreases-passes
decreases-passes l = off_rows (map vec_items l.rows.items)
