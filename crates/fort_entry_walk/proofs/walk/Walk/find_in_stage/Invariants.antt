use Rattle.std.proofs.Common.{◌≡◌, length}
use Rattle.fort_tuple_symbols.specs.DigitNumbers.{AreUpTo}
use Rattle.fort_entry_walk.specs.Walks.{digits_after, stage_entries}
use Rattle.fort_entry_walk.specs.WalkFacts.{IsSameButDigits}
use Rattle.fort_entry_walk.specs.Candidates.{candidates_after}
use Rattle.fort_entry_walk.proofs.walk.Walk.find_in_stage.Given as goal

abbrev pub invariant-symbols : goal.invariant-symbols
invariant-symbols l = record {
  width : length l.self.digits ≡ length l.initial.self.digits;
  arities : l.self.arities ≡ l.initial.self.arities;
  digits : AreUpTo (length l.sig) l.self.digits;
  others : IsSameButDigits l.initial.self l.self;
  same : stage_entries l.sig l.presences l.stage (digits_after (length l.sig) l.self.digits) ≡ stage_entries l.sig l.presences l.stage (digits_after (length l.sig) l.initial.self.digits);
}

abbrev pub decreases-symbols : goal.decreases-symbols
decreases-symbols l = length (candidates_after l.sig l.range l.self.digits)
