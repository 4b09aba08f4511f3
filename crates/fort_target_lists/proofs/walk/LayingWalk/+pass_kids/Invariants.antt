use Rattle.std.proofs.Common.{◌≡◌, ◌-◌, length, vec_capacity}
use Rattle.fort_target_lists.specs.Walks.{Stop, IsStopOf, HasPassedTo}
use Rattle.fort_target_lists.proofs.WalkTurns.{IsTurn}
use Rattle.fort_target_lists.proofs.walk.LayingWalk.+pass_kids.Given as goal

abbrev pub decreases-pass_kids : goal.decreases-pass_kids
decreases-pass_kids l = l.rest

abbrev pub decreases-states : goal.decreases-states
decreases-states l = length l.self.chains.now.nexts.items - l.q

abbrev pub invariant-states : goal.invariant-states
invariant-states l = record {
  turn : (p : Stop) → IsStopOf p l.self l.symbol l.latest l.j l.rest → HasPassedTo p l.self.lays l.initial.cursors l.initial.laid.items
      → IsTurn p l.self l.symbol l.j (l.rest - 1) l.q l.cursors l.laid.items;
  room : vec_capacity l.laid ≡ vec_capacity l.initial.laid;
}
