use Rattle.std.proofs.Common.{◌≡◌, ◌-◌, ◌^◌, min, take}
use Rattle.fort_target_lists.specs.Places.{place_from}
use Rattle.fort_target_lists.proofs.flat.Spots.place_of.Given as goal

abbrev pub invariant-loop-state : goal.invariant-loop-state
invariant-loop-state l = l.place ≡ min (place_from l.self.ranks.items l.self.alike.items 0 (take l.state-index l.states)) (2 ^ 64 - 1)
