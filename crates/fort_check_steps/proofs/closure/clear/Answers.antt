use Rattle.std.proofs.Common.{arith}
use Rattle.fort_check_steps.proofs.PairStepLaws.{has_bit-clear}
use Rattle.fort_check_steps.proofs.closure.clear.Goals as goal

pub returns : goal.returns
returns c i = has_bit-clear c.loop-i.words (λ j l. c.loop-i.invariant j (omega arith)) i
