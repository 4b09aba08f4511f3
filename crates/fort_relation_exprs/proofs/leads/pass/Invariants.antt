use Rattle.std.proofs.Common.{map, take, vec_items}
use Rattle.fort_relation_exprs.specs.LeadRows.{HasPassed}
use Rattle.fort_relation_exprs.proofs.leads.pass.Given as goal

abbrev pub invariant-loop-step : goal.invariant-loop-step
invariant-loop-step l = HasPassed l.nta (map vec_items l.initial.rows.items) (take l.step-index l.nta.silent.items) l.more (map vec_items l.rows.items)
