use Rattle.fort_entry_walk.specs.WalkPlaces.{IsFlat}
use Rattle.fort_entry_walk.proofs.candidates.flat_digits.Given as goal

abbrev pub invariant-loop-digit : goal.invariant-loop-digit
invariant-loop-digit l = IsFlat l.sig l.digit
