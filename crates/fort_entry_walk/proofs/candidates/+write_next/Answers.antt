use Rattle.std.proofs.Common.{arith}
use Rattle.fort_entry_walk.proofs.CandidateLaws.{none_after}
use Rattle.fort_entry_walk.proofs.candidates.+write_next.Goals as goal

pub returns-then-range-clause-next : goal.returns-then-range-clause-next
returns-then-range-clause-next t c = none_after c.args.sig.now c.args.range c.args.digits.now (omega arith)
