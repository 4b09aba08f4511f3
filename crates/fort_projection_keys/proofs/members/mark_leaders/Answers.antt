use Rattle.std.proofs.Common.{arith}
use Rattle.fort_tables.specs.BitRows.{has_bit}
use Rattle.fort_projection_keys.proofs.MemberLaws.{marked_more, marked_all}
use Rattle.fort_projection_keys.proofs.members.mark_leaders.Goals as goal

pub members-preserved : goal.members-preserved
members-preserved g c = record {
  low = omega (arith, c.in-Some.ensures.small, c.states-states.ensures.count);
  marked = λ i.
      marked_more (g.T.Table.table c.args.body.now) (g.T.TableClasses.leader_in c.args.body.now) c.args.at.view c.args.at.presence c.args.first c.args.label.now i c.members.from c.in-Some.state
      (has_bit c.mark_leader.new.row i) (has_bit c.members.row i) c.in-Some.ensures.some.low c.in-Some.ensures.some (c.mark_leader.ensures i) (c.members.invariant.marked i);
}

pub returns-clause-bits : goal.returns-clause-bits
returns-clause-bits g c i =
    marked_all (g.T.Table.table c.args.body.now) (g.T.TableClasses.leader_in c.args.body.now) c.args.at.view c.args.at.presence c.args.first c.args.label.now i c.members.from (has_bit c.members.row i)
    c.members.invariant.low (λ q a b. c.in_default.ensures.none q a (omega (arith, b, c.states-states.ensures.count))) (c.members.invariant.marked i)
