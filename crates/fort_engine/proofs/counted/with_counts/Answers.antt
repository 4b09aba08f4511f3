use Rattle.std.proofs.Common.{ap, sym}
use Rattle.fort_engine.specs.Found.{counted_with}
use Rattle.fort_engine.proofs.counted.with_counts.Goals as goal

pub returns-in-Ok : goal.returns-in-Ok
returns-in-Ok c = sym (ap (counted_with c.args.counts) c.in-Ok.is)

pub returns-in-Err : goal.returns-in-Err
returns-in-Err c = sym (ap (counted_with c.args.counts) c.in-Err.is)
