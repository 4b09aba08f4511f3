use Rattle.std.proofs.Common.{arith}
use Rattle.std.proofs.lemmas.Nat.{or_lt}
use Rattle.fort_relation_exprs.proofs.leads.both.Goals as goal

pub returns-clause-small : goal.returns-clause-small
returns-clause-small c = or_lt 64 c.args.a c.args.b (omega arith) (omega arith)
