use Rattle.std.proofs.Common.{◌+◌}
use Rattle.fort_infinity.proofs.ManyMarks.{given_marked, many_unmarked, given_still, many_marked}
use Rattle.fort_infinity.proofs.many_choices.mark_state.Goals as goal

pub returns-then-endless-clause-given : goal.returns-then-endless-clause-given
returns-then-endless-clause-given c = λ q l.
    let m = c.args.states in
    let x = c.args.state in
    given_still m x q c.set_bit-then-endless.new.words c.set_bit.new.words c.args.out.now l (c.set_bit-then-endless.ensures.bits (128 + q))
    (given_marked x q c.set_bit.new.words c.args.out.now (c.set_bit.ensures.bits (128 + q)))

pub returns-else-endless-clause-given : goal.returns-else-endless-clause-given
returns-else-endless-clause-given c = λ q l. given_marked c.args.state q c.set_bit.new.words c.args.out.now (c.set_bit.ensures.bits (128 + q))

pub returns-then-endless-clause-many : goal.returns-then-endless-clause-many
returns-then-endless-clause-many c = λ q.
    let m = c.args.states in
    many_marked m c.args.state q c.args.endless c.set_bit-then-endless.new.words c.set_bit.new.words c.args.out.now c.requires.state c.if-endless.true (c.set_bit-then-endless.ensures.bits (128 + (m + q))) (c.set_bit.ensures.bits (128 + (m + q)))

pub returns-else-endless-clause-many : goal.returns-else-endless-clause-many
returns-else-endless-clause-many c = λ q.
    let m = c.args.states in
    many_unmarked m c.args.state q c.args.endless c.set_bit.new.words c.args.out.now c.requires.state c.if-endless.false (c.set_bit.ensures.bits (128 + (m + q)))
