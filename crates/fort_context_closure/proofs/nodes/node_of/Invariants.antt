use Rattle.std.proofs.Common.{◌≡◌, List, take}
use Rattle.fort_theory.specs.Trees.{Tree, trees}
use Rattle.fort_alike.specs.TermRule.{numbers}
use Rattle.fort_context_closure.specs.TermNodes.{AreNumbersIn}
use Rattle.fort_context_closure.proofs.nodes.node_of.Given as goal

abbrev pub invariant-loop-kid : goal.invariant-loop-kid
invariant-loop-kid l = (listed : List Tree) → AreNumbersIn listed l.numbers.entries → l.kids.items ≡ numbers listed (trees (take l.kid-index l.kid-items))
