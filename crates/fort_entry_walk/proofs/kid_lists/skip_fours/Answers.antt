use Rattle.std.proofs.Common.{arith, ◌∙◌}
use Rattle.fort_entry_walk.proofs.KidLaws.{states_none}
use Rattle.fort_entry_walk.proofs.kid_lists.skip_fours.Goals as goal

pub loop-q-preserved : goal.loop-q-preserved
loop-q-preserved c =
    let none = c.is_in_four.ensures c.if-not-is_in_four.true in record {
      behind = omega arith;
      within = omega arith;
      same = states_none c.args.presences.now c.args.want c.args.greatest 4 c.loop-q.q none (omega arith) ∙ c.loop-q.invariant.same;
    }
