use Rattle.std.proofs.Common.{◌≡◌, ◌-◌, ◌≤◌, length}
use Rattle.fort_tuple_symbols.specs.DigitNumbers.{AreUpTo}
use Rattle.fort_entry_walk.specs.WalkFacts.{later_entries, IsSameButDigits}
use Rattle.fort_entry_walk.proofs.walk.Walk.find_after.Given as goal

abbrev pub invariant-stages : goal.invariant-stages
invariant-stages l = record {
  stage : l.stage ≤ length l.presences;
  width : length l.self.digits ≡ l.columns;
  arities : l.self.arities ≡ l.initial.self.arities;
  columns : l.columns ≡ length l.initial.self.digits;
  digits : AreUpTo (length l.sig) l.self.digits;
  others : IsSameButDigits l.initial.self l.self;
  same : later_entries l.sig l.presences l.stage l.self.digits ≡ later_entries l.sig l.presences l.initial.self.stage l.initial.self.digits;
}

abbrev pub decreases-stages : goal.decreases-stages
decreases-stages l = length l.presences - l.stage
