use Rattle.std.proofs.Common.{arith, refl}
use Rattle.fort_entry_walk.proofs.walk.Walk.advance_kids.Goals as goal

pub returns-then-self-presences-clause-none : goal.returns-then-self-presences-clause-none
returns-then-self-presences-clause-none c = λ _ within. absurd (omega arith)

pub returns-in-Some-stage_next-clause-next : goal.returns-in-Some-stage_next-clause-next
returns-in-Some-stage_next-clause-next c = λ _.
    let next = rw (c.states-wanted.ensures.states, c.states-kids.ensures.states) at c.in-Some-stage_next.ensures.next in
    record {
      within = omega arith;
      at_stage = c.in-Some-stage_next.ensures.stage_is;
      states = c.in-Some-stage_next.ensures.states;
      next = next;
      stays = refl;
      digits = refl;
      wanted = refl;
      arities = refl;
    }

pub returns-in-None-stage_next-clause-none : goal.returns-in-None-stage_next-clause-none
returns-in-None-stage_next-clause-none c = λ _ within. rw (c.states-wanted.ensures.states, c.states-kids.ensures.states) at c.in-None-stage_next.ensures.next

pub returns-in-Some-clause-next : goal.returns-in-Some-clause-next
returns-in-Some-clause-next c = λ _.
    let next = rw (c.states-wanted.ensures.states, c.states-kids.ensures.states) at c.in-Some.ensures.next in
    rw c.pair-self.ensures (record {
      within = omega arith;
      at_stage = c.in-Some.ensures.stage_is;
      states = c.in-Some.ensures.states;
      next = next;
      stays = refl;
      digits = refl;
      wanted = refl;
      arities = refl;
    })

pub returns-in-None-clause-none : goal.returns-in-None-clause-none
returns-in-None-clause-none c = λ _ within. rw (c.states-wanted.ensures.states, c.states-kids.ensures.states) at c.in-None.ensures.next
