use Rattle.std.proofs.Common.{◌≡◌, refl, arith}
use Rattle.std.proofs.lemmas.Bool.{both_ways}
use Rattle.std.proofs.lemmas.Iterator.{empty_from_Zip}
use Rattle.fort_terms.proofs.Instances.{IsInstance-App, AreInstances-long, AreInstances-rest, AreInstances-not, AreInstances-end, roots_differ, roots_same, same_tails, answer_no}
use Rattle.fort_terms.proofs.pattern.Pattern.+is_instance.Goals as goal
use Rattle.fort_terms.proofs.pattern.Pattern.+is_instance.Goals.{then-ne-via-then-ne, then-ne-via-else-ne+then-len}

pub returns-then-ne : goal.returns-then-ne
returns-then-ne t c =
    let by_parts = IsInstance-App _ _ _ _ _ _ _ c.in-App.is c.args-in-App.view_is c.term.view_is in
    elim c.then-ne.branch [
      | then-ne-via-then-ne w ↦ answer_no (λ h. roots_differ _ _ _ c.ne.ensures w.if-ne.true (by_parts.0 h).0)
      | then-ne-via-else-ne+then-len w ↦
          answer_no (λ h. let e = AreInstances-long _ _ (by_parts.0 h).1 in w.if-len.true (omega (arith, c.args-in-App.inside.items.ok, c.term.inside.kids.ok)))
    ]

pub returns-then-not-is_instance : goal.returns-then-not-is_instance
returns-then-not-is_instance t c =
    let by_parts = IsInstance-App _ _ _ _ _ _ _ c.in-App.is c.args-in-App.view_is c.term.view_is in
    let args : c.into_iter-arg-iterator.result.a.rest.now ≡ c.args-in-App.inside.items.items = cc in
    let kids : c.into_iter-arg-iterator.result.b.rest.now ≡ c.term.inside.kids.items = cc in
    answer_no (λ h.
    AreInstances-not _ _ _ _ _ _ _ c.in-Some.ensures.steps.0 c.in-Some.ensures.steps.1
    (λ here. both_ways _ c.if-not-is_instance.true (c.is_instance.ensures.1 here))
    c.loop-arg.invariant.1 (rw (args, kids) (by_parts.0 h).1))

pub loop-arg-preserved : goal.loop-arg-preserved
loop-arg-preserved t c = (
  same_tails _ _ _ _ _ _ c.in-Some.ensures.steps.0 c.in-Some.ensures.steps.1 c.loop-arg.invariant.0,
  AreInstances-rest _ _ _ _ _ _ _ c.in-Some.ensures.steps.0 c.in-Some.ensures.steps.1 (c.is_instance.ensures.0 c.if-not-is_instance.false) c.loop-arg.invariant.1,
)

pub returns-in-None : goal.returns-in-None
returns-in-None t c =
    let by_parts = IsInstance-App _ _ _ _ _ _ _ c.in-App.is c.args-in-App.view_is c.term.view_is in
    let args : c.into_iter-arg-iterator.result.a.rest.now ≡ c.args-in-App.inside.items.items = cc in
    let kids : c.into_iter-arg-iterator.result.b.rest.now ≡ c.term.inside.kids.items = cc in
    let done = empty_from_Zip c.loop-arg.arg-iterator c.next.new.self _ c.in-None.is c.next.ensures.steps c.loop-arg.invariant.0 in
    let all = AreInstances-end _ _ _ done.0 done.1 c.loop-arg.invariant.1 in
    (λ _. by_parts.1 (roots_same _ _ _ c.ne.ensures c.if-ne.false, rw (← args, ← kids) all), λ _. refl)
