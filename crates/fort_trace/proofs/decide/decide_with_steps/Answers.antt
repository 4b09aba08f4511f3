use Rattle.fort_formulas.specs.CoreView.{as_core}
use Rattle.fort_trace.proofs.RecordLaws.{no_table}
use Rattle.fort_trace.proofs.decide.decide_with_steps.Goals as goal

pub unreachable-requires : goal.unreachable-requires
unreachable-requires c = no_table c.args.system.now (as_core c.args.core.now) c.in-Ok.traced.last c.in-Auto.field-0 c.requires.closed c.in-Ok.ensures.truth c.in-Auto.is
