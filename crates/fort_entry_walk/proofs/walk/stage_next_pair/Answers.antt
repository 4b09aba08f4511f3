use Rattle.std.proofs.Common.{◌-◌, arith}
use Rattle.fort_entry_walk.specs.KidPairs.{two_kids}
use Rattle.fort_entry_walk.proofs.StageLaws.{at_stage, some_stage, next_there, pair_there, stage_of_pair}
use Rattle.fort_entry_walk.proofs.walk.stage_next_pair.Goals as goal

pub returns-clause-stage_is : goal.returns-clause-stage_is
returns-clause-stage_is c =
    let next = pair_there c.args.presences.now (c.args.stage - 1) c.args.wanted.now c.args.kids.now (two_kids c.next_pair.result) c.requires.wanted c.requires.kids c.next_pair.ensures.next in
    stage_of_pair c.args.stage c.next_pair.result (at_stage c.args.presences.now c.args.stage c.args.wanted.now c.args.kids.now (two_kids c.next_pair.result) (some_stage c.args.stage c.args.kids.now c.requires.stage_is (omega arith)) c.requires.states next)

pub returns-clause-next : goal.returns-clause-next
returns-clause-next c =
    let next = pair_there c.args.presences.now (c.args.stage - 1) c.args.wanted.now c.args.kids.now (two_kids c.next_pair.result) c.requires.wanted c.requires.kids c.next_pair.ensures.next in
    next_there c.args.presences.now c.args.stage c.args.wanted.now c.args.kids.now (two_kids c.next_pair.result) (some_stage c.args.stage c.args.kids.now c.requires.stage_is (omega arith)) next

pub overflow_sub-stage : goal.overflow_sub-stage
overflow_sub-stage c = omega (arith, some_stage c.args.stage c.args.kids.now c.requires.stage_is (omega arith))
