use Rattle.std.proofs.Common.{◌≡◌, ◌++◌, ◌-◌, length, drop}
use Rattle.fort_witness.specs.Visiting.{wholes_of}
use Rattle.fort_witness.proofs.needed.push_wholes.Given as goal

abbrev pub invariant-loop-j : goal.invariant-loop-j
invariant-loop-j l = l.visits.items ≡ l.fn.visits.items ++ wholes_of (drop (length l.nodes - l.j) l.nodes)
