use Rattle.std.proofs.Common.{◌^◌, slice_get, ap, ◌∙◌, arith}
use Rattle.fort_sexpr.proofs.FormLists.{node_count-element}
use Rattle.fort_ari.proofs.Rests.{left_behind, left_at, left_next, left_end, one_fewer}
use Rattle.fort_ari.proofs.SideElements.{right_head, right_argument, room_for_argument, read_none, read_more, read_all}
use Rattle.fort_ari.proofs.SideHeads.{head_symbol}
use Rattle.fort_ari.proofs.side.+side_of.Goals as goal

pub unreachable-requires-in_default-symbol_of : goal.unreachable-requires-in_default-symbol_of
unreachable-requires-in_default-symbol_of t c =
    let forms = c.in-Some.list.forms in
    let split = c.in-Some-split_first.ensures.some in
    let h = right_head _ _ _ _ c.in-Some.ensures.some c.requires.right in
    let s = head_symbol _ _ _ _ h (ap (λ fs. slice_get fs 0) split) in
    let count = c.len.ensures ∙ one_fewer forms c.in-Some-split_first.rest.forms c.in-Some-split_first.head.form split in
    (rw (c.in-Some-split_first.ensures.bytes.0 ∙ c.in-Some.ensures.bytes, count) at c.in_default-symbol_of.ensures.none) h.g
    (record { name = h.named.name; word = s.0; is = h.named.declared; takes = s.1 })

pub arguments-init : goal.arguments-init
arguments-init t c = (
  λ es is. left_behind _ c.args.form.now.form es c.in-Some.list.forms c.in-Some-split_first.rest.forms c.in-Some-split_first.head.form is
      c.in-Some.ensures.some c.in-Some-split_first.ensures.some (rw c.new-args.ensures.items (read_none _ _ es _)),
  c.in-Some-split_first.ensures.bytes.1 ∙ c.in-Some.ensures.bytes,
)

pub side_of-requires : goal.side_of-requires
side_of-requires t c =
    let forms = c.in-Some.list.forms in
    let left = c.arguments.invariant.0 forms c.in-Some.ensures.some in
    let argument = c.in-Some-split_first-2.argument in
    let here = left_at _ forms c.arguments.rest.forms left argument.form _ c.in-Some-split_first-2.ensures.some in
    let smaller = node_count-element c.args.form.now.form argument.form _ _ c.in-Some.ensures.some here in
    let few = room_for_argument _ _ (λ name. name.now) c.args.form.now.form _ left.place (2 ^ 32) _ _ _ _ c.in-Some.ensures.some left.holds
    here c.requires.few in
    let right = right_argument _ _ _ _ _ _ c.in-Some.ensures.some c.requires.right left.holds.low here in
    (omega (arith, c.decreases, smaller), (few, rw (c.in-Some-split_first-2.ensures.bytes.0 ∙ c.arguments.invariant.1) right))

pub arguments-preserved : goal.arguments-preserved
arguments-preserved t c =
    let rest = c.arguments.rest.forms in
    let argument = c.in-Some-split_first-2.argument.form in
    let next = c.in-Some-split_first-2.ensures.some in
    let same = c.in-Some-split_first-2.ensures.bytes.0 ∙ c.arguments.invariant.1 in (
      λ es is. let left = c.arguments.invariant.0 es is in
          left_next _ es rest left _ argument c.in-Some-split_first-2.behind.forms next
          (rw c.in_ok-push.ensures.items (read_more _ _ es left.place argument _ _ _ _ _ left.holds (left_at _ es rest left argument _ next)
          (rw same at c.in_ok-side_of.ensures))),
      c.in-Some-split_first-2.ensures.bytes.1 ∙ c.arguments.invariant.1,
    )

pub returns : goal.returns
returns t c =
    let forms = c.in-Some.list.forms in
    let split = c.in-Some-split_first.ensures.some in
    let left = c.arguments.invariant.0 forms c.in-Some.ensures.some in
    let count = c.len.ensures ∙ one_fewer forms c.in-Some-split_first.rest.forms c.in-Some-split_first.head.form split in
    rw c.new.ensures (read_all _ _ _ _ _ left.place _ _ _ _ c.in-Some.ensures.some (right_head _ _ _ _ c.in-Some.ensures.some c.requires.right)
    (ap (λ fs. slice_get fs 0) split)
    (rw (c.in-Some-split_first.ensures.bytes.0 ∙ c.in-Some.ensures.bytes, count) at c.in-Some-symbol_of.ensures.some) left.holds
    (left_end _ forms c.arguments.rest.forms left c.in_default-split_first-2.ensures.none))
