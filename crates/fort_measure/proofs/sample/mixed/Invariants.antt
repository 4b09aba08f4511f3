use Rattle.std.specs.Prelude.{Contains}
use Rattle.fort_tables.specs.Entries.{Entry}
use Rattle.fort_measure.proofs.sample.mixed.Given as goal

abbrev pub invariant-loop-k : goal.invariant-loop-k
invariant-loop-k l = (e : Entry) → Contains l.mixed.items e → Contains l.rows e
