use Rattle.std.proofs.Common.{map, take}
use Rattle.fort_context_closure.specs.TermNodes.{AreNumbersIn}
use Rattle.fort_context_closure.proofs.nodes.numbers_in.Given as goal

abbrev pub invariant-loop-place : goal.invariant-loop-place
invariant-loop-place l = AreNumbersIn (map (λ t. t.now) (take l.place l.listed)) l.numbers.entries
