use Rattle.std.proofs.Common.{arith}
use Rattle.fort_projection_keys.proofs.MemberLaws.{row_is}
use Rattle.fort_projection_keys.proofs.members.write_leaders.Goals as goal

pub returns : goal.returns
returns g c =
    row_is (g.T.Table.table c.args.body.now) (g.T.TableClasses.leader_in c.args.body.now) c.args.at.view c.args.at.presence c.args.first c.args.label.now c.mark_leaders.new.row
    (omega (arith, c.requires.room, c.mark_leaders.ensures.width)) (λ i l. omega (arith, c.type_inv.row i)) c.mark_leaders.ensures.bits
