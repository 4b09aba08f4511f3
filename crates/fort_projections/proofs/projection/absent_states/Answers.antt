use Rattle.std.proofs.Common.{length, ap, arith}
use Rattle.fort_tables.specs.Projections.{absent_state}
use Rattle.fort_target_lists.proofs.StateLists.{states_all}
use Rattle.fort_projections.proofs.projection.absent_states.Goals as goal

pub returns : goal.returns
returns c =
    let n = ap length c.kids-kids.ensures.states in
    states_all absent_state c.args.rows.now.labels c.args.row.now.kids c.loop-j.states (omega (arith, n, c.kids-kids.ensures.few, c.loop-j.invariant.size)) (λ k l. c.loop-j.invariant.done k (omega (arith, n, l, c.loop-j-test.false)))
