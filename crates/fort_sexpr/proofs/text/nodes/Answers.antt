use Rattle.std.proofs.Common.{◌≡◌, [], ◌+◌, ◌-◌, length, subst, ap, arith}
use Rattle.fort_sexpr.proofs.TopLaws.{AreTop, top_begun, top_step, top_ended, top_within}
use Rattle.fort_sexpr.proofs.text.nodes.Goals as goal

pub loop-init : goal.loop-init
loop-init c =
    let bytes = c.args.arena.now.bytes.items in
    let left : c.args.count ≡ c.args.count - 0 = omega arith in
    record {
      top = rw c.in_ok-top.ensures.items (subst (AreTop bytes [] 0 0) left (top_begun bytes c.args.count c.requires.forms c.requires.count));
      room = omega (arith, c.in_ok-top.ensures.len, c.in_ok-top.ensures.capacity);
    }

pub next_token-from-requires-clause-within : goal.next_token-from-requires-clause-within
next_token-from-requires-clause-within c =
    omega (arith, top_within c.args.arena.now.bytes.items _ _ _ _ c.loop.invariant.top, ap (λ xs. length xs) c.as_slice.ensures.value)

pub next_token-from-requires-clause-outside : goal.next_token-from-requires-clause-outside
next_token-from-requires-clause-outside c = rw c.as_slice.ensures.value c.loop.invariant.top.outside

pub invariant_of-behind : goal.invariant_of-behind
invariant_of-behind c =
    let bytes = c.args.arena.now.bytes.items in
    let token = rw c.as_slice.ensures.value at c.next_token-from.ensures in
    (top_step bytes _ c.loop.at c.loop.list _ c.next_token-from.result c.loop.invariant.top (omega arith) token).first

pub loop-preserved : goal.loop-preserved
loop-preserved c =
    let bytes = c.args.arena.now.bytes.items in
    let from = c.next_token-from.result in
    let token = rw c.as_slice.ensures.value at c.next_token-from.ensures in
    let step = top_step bytes c.loop.top.items c.loop.at c.loop.list _ from c.loop.invariant.top (omega arith) token in
    let left : c.args.count - c.loop.counter - 1 ≡ c.args.count - (c.loop.counter + 1) = omega arith in
    record {
      top = rw (c.push_reserved.ensures.items, c.behind.ensures.number, c.behind.ensures.end) (subst (AreTop bytes _ _ _) left step.rest);
      room = omega (arith, c.loop.invariant.room, c.push_reserved.ensures.len, c.push_reserved.ensures.capacity);
    }

pub returns-clause-nodes : goal.returns-clause-nodes
returns-clause-nodes c = top_ended c.args.arena.now.bytes.items _ _ _ _ c.loop.invariant.top (omega arith)
