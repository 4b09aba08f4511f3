use Rattle.std.proofs.Common.{arith}
use Rattle.fort_entry_walk.proofs.KidLaws.{none_for_one}
use Rattle.fort_entry_walk.proofs.StageLaws.{at_stage, some_stage, next_there}
use Rattle.fort_entry_walk.proofs.walk.stage_next.Goals as goal

pub returns-else-kids-lt2-clause-stage_is : goal.returns-else-kids-lt2-clause-stage_is
returns-else-kids-lt2-clause-stage_is c = at_stage c.args.presences.now c.args.stage c.args.wanted.now c.args.kids.now c.next_kids.result (some_stage c.args.stage c.args.kids.now c.requires.stage_is (omega arith)) c.requires.states c.next_kids.ensures.next

pub returns-then-kids-lt2-clause-next : goal.returns-then-kids-lt2-clause-next
returns-then-kids-lt2-clause-next c = none_for_one c.args.presences.now c.args.stage c.args.wanted.now c.args.kids.now c.requires.stage_is (omega arith)

pub returns-else-kids-lt2-clause-next : goal.returns-else-kids-lt2-clause-next
returns-else-kids-lt2-clause-next c = next_there c.args.presences.now c.args.stage c.args.wanted.now c.args.kids.now c.next_kids.result (some_stage c.args.stage c.args.kids.now c.requires.stage_is (omega arith)) c.next_kids.ensures.next

pub overflow_sub-stage : goal.overflow_sub-stage
overflow_sub-stage c = omega (arith, some_stage c.args.stage c.args.kids.now c.requires.stage_is (omega arith))

pub next_kids-requires-clause-within : goal.next_kids-requires-clause-within
next_kids-requires-clause-within c = omega (arith, some_stage c.args.stage c.args.kids.now c.requires.stage_is (omega arith))
