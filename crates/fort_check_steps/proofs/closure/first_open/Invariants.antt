use Rattle.fort_check_steps.specs.PairSteps.{AreNoneOpenBelow}
use Rattle.fort_check_steps.proofs.closure.first_open.Given as goal

abbrev pub invariant-rights : goal.invariant-rights
invariant-rights l = AreNoneOpenBelow l.rules l.listed l.p
