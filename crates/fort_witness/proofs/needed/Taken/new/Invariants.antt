use Rattle.std.proofs.Common.{◌≡◌, replicate}
use Rattle.fort_witness.specs.Visiting.{untaken}
use Rattle.fort_witness.proofs.needed.Taken.new.Given as goal

abbrev pub invariant-loop : goal.invariant-loop
invariant-loop l = l.numbers.items ≡ replicate l.counter untaken
