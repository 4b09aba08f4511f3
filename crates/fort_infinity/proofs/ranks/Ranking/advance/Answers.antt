use Rattle.std.proofs.Common.{arith}
use Rattle.fort_infinity.proofs.ranks.Ranking.advance.Goals as goal

pub overflow_add-round : goal.overflow_add-round
overflow_add-round c = omega (arith, c.requires.early, c.requires.small)
