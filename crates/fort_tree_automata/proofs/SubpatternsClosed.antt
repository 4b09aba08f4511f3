-- The patterns within some patterns are closed under arguments, in order.
use Rattle.std.specs.Prelude.{List}
use Rattle.fort_theory.specs.Patterns.{Pattern}
use Rattle.fort_theory.specs.PatternOrder.{AreSubpatternsInOrder}
use Rattle.fort_theory.proofs.ClosedPatterns.{HaveArguments-subpatterns}
use Rattle.fort_tree_automata.specs.PatternMoves.{IsClosedInOrder}

pub IsClosedInOrder-subpatterns : (tops ps : List Pattern) → AreSubpatternsInOrder tops ps → IsClosedInOrder ps
IsClosedInOrder-subpatterns tops ps are = record { ordered = are.ordered; closed = HaveArguments-subpatterns tops ps are }
