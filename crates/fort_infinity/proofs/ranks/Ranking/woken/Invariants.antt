use Rattle.std.proofs.Common.{take}
use Rattle.fort_infinity.specs.Rankings.{AreWoken}
use Rattle.fort_infinity.proofs.ranks.Ranking.woken.Given as goal

abbrev pub invariant-loop-k : goal.invariant-loop-k
invariant-loop-k l = AreWoken l.self (take l.k-index l.ranked) l.woken.items
