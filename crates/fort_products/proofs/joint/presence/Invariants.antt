use Rattle.std.proofs.Common.{◌≡◌, drop}
use Rattle.fort_tables.specs.Tuples.{presence}
use Rattle.fort_products.proofs.joint.presence.Given as goal

abbrev pub invariant-loop-k : goal.invariant-loop-k
invariant-loop-k l = l.presence ≡ presence (drop l.k l.symbol)
