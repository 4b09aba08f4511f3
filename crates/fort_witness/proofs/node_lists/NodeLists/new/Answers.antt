use Rattle.std.proofs.Common.{length, ap, arith}
use Rattle.std.proofs.lemmas.List.{length_push, length-map}
use Rattle.fort_witness.proofs.NodeListLaws.{Lists, empty_more, listed_none}
use Rattle.fort_witness.proofs.node_lists.NodeLists.new.Goals as goal

pub loop-preserved : goal.loop-preserved
loop-preserved c = record {
  count = omega (arith, c.loop.invariant.count, ap (λ (vs : Lists). length vs) c.in_ok-push.ensures.items, length_push c.loop.lists.items c.new.result);
  empty = empty_more c.loop.lists.items c.push.new.self.items c.new.result c.loop.invariant.empty c.new.ensures.items c.in_ok-push.ensures.items;
}

pub returns : goal.returns
returns c = listed_none _ c.args.states (omega (arith, length-map c.loop.lists.items (λ v. v.items), c.loop.invariant.count)) c.loop.invariant.empty
