use Rattle.std.proofs.Common.{◌≡◌, take, refl}
use Rattle.std.proofs.lemmas.List.{take_more, take_all}
use Rattle.fort_context_closure.proofs.NodeLaws.{numbers-push}
use Rattle.fort_context_closure.proofs.nodes.node_of.Goals as goal

pub loop-kid-preserved : goal.loop-kid-preserved
loop-kid-preserved c listed are =
    rw (take_more _ _ c.kid-item.result c.loop-kid-test.true, ← c.kid-item.is, numbers-push, c.in_ok-push.ensures.items, c.number_of.ensures listed are, c.loop-kid.invariant listed are) refl

pub returns : goal.returns
returns c listed are =
    let whole : take c.loop-kid.kid-index c.deref-kid-items.result.now ≡ c.deref-kid-items.result.now = take_all _ _ c.loop-kid-test.false in
    rw (c.number_of-2.ensures listed are, ← c.term.view_is, c.loop-kid.invariant listed are, whole, c.deref-kid-items.ensures.value) refl
