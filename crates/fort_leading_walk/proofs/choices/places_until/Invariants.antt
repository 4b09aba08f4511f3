use Rattle.std.proofs.Common.{◌≡◌, ◌≤◌, length, drop, false}
use Rattle.fort_leading_walk.specs.Choices.{is_in_some}
use Rattle.fort_leading_walk.proofs.choices.places_until.Given as goal

abbrev pub invariant-loop-until : goal.invariant-loop-until
invariant-loop-until g l = record {
  within : l.until ≤ length (g.L.LeaderLists.lists l.lists);
  none : is_in_some l.newest (drop l.until (g.L.LeaderLists.lists l.lists)) ≡ false;
}

abbrev pub decreases-loop-until : goal.decreases-loop-until
decreases-loop-until g l = l.until
