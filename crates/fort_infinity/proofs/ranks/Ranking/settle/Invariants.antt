use Rattle.std.proofs.Common.{ℕ}
use Rattle.fort_tables.specs.Tables.{Table}
use Rattle.fort_infinity.specs.Rankings.{AreReady}
use Rattle.fort_infinity.proofs.ranks.Ranking.settle.Given as goal

abbrev pub invariant-loop-round : goal.invariant-loop-round
invariant-loop-round l = (body : Table) (c : ℕ) → AreReady body c l.children 0 l.fn.self l.fn.alone.items → AreReady body c l.children l.round l.self l.tried.items
