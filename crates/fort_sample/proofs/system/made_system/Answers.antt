use Rattle.fort_sample.proofs.MadeRules.{constant_arity}
use Rattle.fort_sample.proofs.system.made_system.Goals as goal

pub new-requires-clause-constant : goal.new-requires-clause-constant
new-requires-clause-constant c = (0, rw c.in_ok-signature.ensures (constant_arity c.args.n 0 c.requires.low))
