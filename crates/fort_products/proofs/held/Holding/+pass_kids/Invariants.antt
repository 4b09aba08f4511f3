use Rattle.std.proofs.Common.{◌≡◌, ◌-◌, take, length}
use Rattle.fort_target_lists.specs.Walks.{Stop}
use Rattle.fort_products.specs.HeldWalks.{Operands, IsHoldingAt, HasHeldTo}
use Rattle.fort_products.proofs.HoldLaws.{IsHeldTurn}
use Rattle.fort_products.proofs.held.Holding.+pass_kids.Given as goal

abbrev pub decreases-pass_kids : goal.decreases-pass_kids
decreases-pass_kids l = l.rest

abbrev pub decreases-states : goal.decreases-states
decreases-states l = length l.self.walk.chains.now.nexts.items - l.q

abbrev pub invariant-states : goal.invariant-states
invariant-states l = record {
  turn : (o : Operands) (p : Stop) → IsHoldingAt o p l.self l.symbol l.joint l.latest l.j l.rest → take l.j l.chosen ≡ p.kids → HasHeldTo o p l.self l.initial.cursors
      → IsHeldTurn o p l.self l.symbol l.j (l.rest - 1) l.q l.cursors;
}
