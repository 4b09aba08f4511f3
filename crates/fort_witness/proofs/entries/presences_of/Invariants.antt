use Rattle.std.proofs.Common.{◌≡◌, take}
use Rattle.fort_witness.proofs.entries.presences_of.Given as goal

abbrev pub invariant-loop-q : goal.invariant-loop-q
invariant-loop-q l = l.presences.items ≡ take l.q l.table.presences
