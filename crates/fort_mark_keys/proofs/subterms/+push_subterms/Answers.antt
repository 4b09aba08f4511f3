use Rattle.std.proofs.Common.{◌≡◌, take}
use Rattle.std.proofs.lemmas.List.{take_more, take_all}
use Rattle.fort_mark_keys.proofs.SubtermListLaws.{subterms_among-push, listed_push, listed_further}
use Rattle.fort_mark_keys.proofs.subterms.+push_subterms.Goals as goal

pub loop-kid-preserved : goal.loop-kid-preserved
loop-kid-preserved t c =
    rw (take_more _ _ c.kid-item.result c.loop-kid-test.true, ← c.kid-item.is, subterms_among-push)
    (listed_further (λ r. r.now) _ _ _ _ _ c.loop-kid.invariant c.in_ok-push_subterms.ensures)

pub returns : goal.returns
returns t c =
    let whole : take c.loop-kid.kid-index c.deref-kid-items.result.now ≡ c.deref-kid-items.result.now = take_all _ _ c.loop-kid-test.false in
    let within = rw (whole, c.deref-kid-items.ensures.value) at c.loop-kid.invariant in
    let all = listed_push (λ r. r.now) _ _ _ c.args.term _ c.in_ok-push.ensures.items within in
    rw (← c.term.view_is) (rw (← c.term.view_is) at all)
