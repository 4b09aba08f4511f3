use Rattle.std.proofs.Common.{◌-◌, ◌^◌}
use Rattle.fort_target_lists.proofs.PlaceLaws.{place_turn}
use Rattle.fort_target_lists.proofs.flat.Spots.place_of.Goals as goal

pub loop-state-preserved : goal.loop-state-preserved
loop-state-preserved c =
    let s = c.args.self.now in
    place_turn s.ranks.items s.alike.items c.args.states.now c.loop-state.state-index c.loop-state.place c.next_place-place.result (2 ^ 64 - 1) c.loop-state-test.true c.loop-state.invariant c.next_place-place.ensures
