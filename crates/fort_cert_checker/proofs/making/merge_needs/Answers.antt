use Rattle.std.proofs.Common.{subst, sym, ◌∙◌, arith}
use Rattle.fort_check_steps.specs.Room.{IsListFor}
use Rattle.fort_check_steps.proofs.RoomLaws.{leader_room}
use Rattle.fort_cert_checker.proofs.making.merge_needs.Goals as goal

pub returns : goal.returns
returns c = λ is scratch has.
    let own : IsListFor c.args.targets.now c.with_leaders.result.first =
    subst (IsListFor c.args.targets.now) (sym (c.with_leaders.ensures.first ∙ c.with_lists-listed.ensures.first)) (record { states = omega (arith, c.most_states-states.ensures); targets_fit = omega arith }) in
    leader_room own (omega (arith, c.with_leaders.ensures.leaders, c.most_states-states.ensures)) has
