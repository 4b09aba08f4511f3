use Rattle.std.proofs.Common.{arith}
use Rattle.fort_check_merges.specs.GivenMerges.{table_in}
use Rattle.fort_check_merges.proofs.LeaderLaws.{leaders_begin, leaders_stay, class_begins}
use Rattle.fort_check_merges.proofs.classes.has_right_class.Goals as goal

pub returns-then-class-len-clause-right : goal.returns-then-class-len-clause-right
returns-then-class-len-clause-right c e =
    class_begins c.args.given.now.classes.now c.args.leaders.now.items c.args.q c.requires.leaders c.requires.state (table_in c.args.given.now) (omega (arith, c.if-class-len.true, c.len.ensures))

pub returns-then-class-len-clause-leaders : goal.returns-then-class-len-clause-leaders
returns-then-class-len-clause-leaders c e =
    rw c.push_reserved.ensures.items (leaders_begin c.args.given.now.classes.now c.args.leaders.now.items c.args.q c.requires.leaders c.requires.state (omega (arith, c.if-class-len.true, c.len.ensures)))

pub returns-then-given-q-clause-leaders : goal.returns-then-given-q-clause-leaders
returns-then-given-q-clause-leaders c e =
    leaders_stay c.args.given.now.classes.now c.args.leaders.now.items c.args.q c.requires.leaders c.requires.state (omega (arith, c.if-class-len.false, c.if-class-len-2.false, c.len.ensures, c.len-2.ensures))
