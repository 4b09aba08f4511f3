use Rattle.std.proofs.Common.{◌≡◌, ℕ, ◌+◌, ◌-◌, ◌≤◌, List}
use Rattle.fort_entry_walk.specs.Walks.{states_with}
use Rattle.fort_entry_walk.proofs.kid_lists.skip_fours.Given as goal

pub record AreSkipped (ps : List ℕ) (want m from q : ℕ) : Type 0 where
  pub behind : from ≤ q
  pub within : q ≤ m + 1
  pub same : states_with ps want q (m + 1 - q) ≡ states_with ps want from (m + 1 - from)

abbrev pub invariant-loop-q : goal.invariant-loop-q
invariant-loop-q l = AreSkipped l.presences l.want l.greatest l.fn.from l.q

abbrev pub decreases-loop-q : goal.decreases-loop-q
decreases-loop-q l = l.end - l.q
