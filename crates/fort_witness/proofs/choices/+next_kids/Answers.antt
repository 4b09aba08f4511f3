use Rattle.std.proofs.Common.{◌≡◌, suc, ◌+◌, arith, subst}
use Rattle.fort_witness.specs.Choices.{lists_of, IsFirstChoice}
use Rattle.fort_witness.proofs.ChoiceLaws.{knows_rest, small_rest, next_rest_at, next_first_at}
use Rattle.fort_witness.proofs.choices.+next_kids.Goals as goal

pub next_kids-requires : goal.next_kids-requires
next_kids-requires t c = (
  omega (arith, c.in-Some.ensures.cases.1),
  (
    knows_rest (lists_of c.args.lists.now) c.args.states.now c.in-Some._state.now c.in-Some.rest.now c.in-Some.ensures.cases.0 c.requires.known,
    (
      omega (arith, c.in-Some.ensures.cases.1, c.in-Some-split_first_mut.ensures.cases.1, c.requires.count),
      small_rest 4294967295 c.args.kids.now c.in-Some-split_first_mut.first.now c.in-Some-split_first_mut.others.now c.in-Some-split_first_mut.ensures.cases.0 c.requires.small,
    ),
  ),
)

pub returns-then-next_kids-clause-next : goal.returns-then-next_kids-clause-next
returns-then-next_kids-clause-next t c = λ qs h g.
    next_rest_at qs c.args.span.low c.args.span.end c.in-Some._state.now c.args.states.now c.in-Some.rest.now c.args.need c.still_needs-needs.result c.in-Some-split_first_mut.first.now c.args.kids.now c.in-Some-split_first_mut.others.now c.next_kids.new.kids
    c.in-Some.ensures.cases.0 c.in-Some-split_first_mut.ensures.cases.0 g c.still_needs-needs.ensures (c.if-next_kids.ensures.next qs h)

pub returns-else-next_kids-clause-next : goal.returns-else-next_kids-clause-next
returns-else-next_kids-clause-next t c = λ qs h g.
    let node = c.in-Some-split_first_mut.first.now in
    let e : node + 1 ≡ suc node = omega arith in
    next_first_at qs c.args.span.low c.args.span.end c.in-Some._state.now c.args.states.now c.in-Some.rest.now c.args.need c.still_needs-needs.result node c.args.kids.now c.in-Some-split_first_mut.others.now c.next_kids.new.kids c.first_kids.new.kids c.first_kids.result
    c.in-Some.ensures.cases.0 c.in-Some-split_first_mut.ensures.cases.0 g c.still_needs-needs.ensures (c.if-next_kids.ensures.next qs h)
    (subst (λ m. IsFirstChoice qs c.args.span.low c.args.span.end c.args.states.now c.args.need m c.first_kids.new.kids c.first_kids.result) e (c.first_kids.ensures.first qs h))
