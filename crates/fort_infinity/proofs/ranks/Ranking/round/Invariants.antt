use Rattle.std.proofs.Common.{ℕ, drop}
use Rattle.fort_tables.specs.Tables.{Table}
use Rattle.fort_infinity.specs.Rankings.{AreTried, AreReady}
use Rattle.fort_infinity.proofs.ranks.Ranking.round.Given as goal

abbrev pub invariant-loop-q : goal.invariant-loop-q
invariant-loop-q l = (body : Table) (c : ℕ) → AreReady body c l.children l.round l.initial.self l.tried → AreTried body c l.children l.round l.initial.self l.self (drop l.q-index l.tried) l.ranked.items
