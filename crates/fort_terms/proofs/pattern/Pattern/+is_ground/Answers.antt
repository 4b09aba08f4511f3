use Rattle.std.proofs.Common.{◌≡◌, take, refl, sym}
use Rattle.std.proofs.lemmas.Bool.{both_ways}
use Rattle.std.proofs.lemmas.List.{take_more, take_all}
use Rattle.fort_theory.specs.RightGround.{AreGroundPatterns}
use Rattle.fort_terms.specs.PatternView.{as_patterns}
use Rattle.fort_terms.proofs.GroundPatterns.{AreGroundPatterns-push, AreGroundPatterns-at}
use Rattle.fort_terms.proofs.Instances.{answer_no}
use Rattle.fort_terms.proofs.pattern.Pattern.+is_ground.Goals as goal

pub loop-arg-preserved : goal.loop-arg-preserved
loop-arg-preserved t c =
    rw (take_more _ _ c.arg-item.result c.loop-arg-test.true, ← c.arg-item.is)
    (AreGroundPatterns-push _ _ c.loop-arg.invariant (c.is_ground.ensures.0 c.if-not-is_ground.false))

pub returns-then-not-is_ground : goal.returns-then-not-is_ground
returns-then-not-is_ground t c =
    answer_no (λ h.
    let inner = rw c.in-App.is at h in
    let all : AreGroundPatterns (as_patterns c.deref-arg-items.result.now) = rw (c.deref-arg-items.ensures.value, c.args-in-App.view_is) inner in
    let here = AreGroundPatterns-at c.deref-arg-items.result.now c.arg-item.result (c.loop-arg.arg-index, c.loop-arg-test.true, sym c.arg-item.is) all in
    both_ways _ c.if-not-is_ground.true (c.is_ground.ensures.1 here))

pub returns-after-loop-arg : goal.returns-after-loop-arg
returns-after-loop-arg t c =
    let whole : take c.loop-arg.arg-index c.deref-arg-items.result.now ≡ c.deref-arg-items.result.now = take_all _ _ c.loop-arg-test.false in
    let within = rw (whole, c.deref-arg-items.ensures.value, c.args-in-App.view_is) at c.loop-arg.invariant in
    rw c.in-App.is (λ _. within, λ _. refl)
