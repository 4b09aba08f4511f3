use Rattle.std.proofs.Common.{length, arith}
use Rattle.fort_witness.specs.Choices.{lists_of}
use Rattle.fort_witness.proofs.ChoiceLaws.{knows_rest, without_at, with_at}
use Rattle.fort_witness.proofs.choices.+first_kids.Goals as goal

pub start_of-start-requires : goal.start_of-start-requires
start_of-start-requires t c = knows_rest (lists_of c.args.lists.now) c.args.states.now c.in-Some.state.now c.in-Some.rest.now c.in-Some.ensures.cases.0 c.requires.known

pub first_kids-requires : goal.first_kids-requires
first_kids-requires t c = (
  omega (arith, c.in-Some.ensures.cases.1),
  (
    knows_rest (lists_of c.args.lists.now) c.args.states.now c.in-Some.state.now c.in-Some.rest.now c.in-Some.ensures.cases.0 c.requires.known,
    omega (arith, c.in-Some.ensures.cases.1, c.in-Some-split_first_mut.ensures.cases.1, c.requires.count),
  ),
)

pub returns-in-None-first_from-clause-first : goal.returns-in-None-first_from-clause-first
returns-in-None-first_from-clause-first t c = λ qs h.
    let n = length (lists_of c.args.lists.now) in
    without_at qs c.args.span.low c.args.span.end c.in-Some.state.now c.args.states.now c.in-Some.rest.now c.args.need c.args.from c.start_of-start.result c.args.kids.now c.in-Some.ensures.cases.0
    (record { from_is = c.start_of-start.ensures.from; free = c.start_of-start.ensures.free qs h; skips = c.start_of-start.ensures.skips qs h })
    (c.in-None-first_from.ensures n qs h)

pub returns-in-Some-split_first_mut-clause-first : goal.returns-in-Some-split_first_mut-clause-first
returns-in-Some-split_first_mut-clause-first t c = λ qs h.
    let n = length (lists_of c.args.lists.now) in
    with_at qs c.args.span.low c.args.span.end c.in-Some.state.now c.args.states.now c.in-Some.rest.now c.args.need c.still_needs-needs.result c.args.from c.start_of-start.result c.in-Some-first_from.node c.first_kids.new.kids c.first_kids.result c.in-Some.ensures.cases.0
    (record { from_is = c.start_of-start.ensures.from; free = c.start_of-start.ensures.free qs h; skips = c.start_of-start.ensures.skips qs h })
    (c.in-Some-first_from.ensures n qs h) c.still_needs-needs.ensures (c.first_kids.ensures.first qs h)
