use Rattle.std.proofs.Common.{◌≡◌, take, refl, sym}
use Rattle.std.proofs.lemmas.Bool.{both_ways}
use Rattle.std.proofs.lemmas.List.{take_more, take_all}
use Rattle.std.proofs.lemmas.List.Elements.{All-push}
use Rattle.fort_terms.proofs.GroundPatterns.{HasGroundRight, right_ground-all, right_ground-at}
use Rattle.fort_terms.proofs.Instances.{answer_no}
use Rattle.fort_terms.proofs.system.System.right_ground.Goals as goal

pub loop-rule-preserved : goal.loop-rule-preserved
loop-rule-preserved c =
    rw (take_more _ _ c.rule-item.result c.loop-rule-test.true, ← c.rule-item.is)
    (All-push HasGroundRight _ _ c.loop-rule.invariant (c.is_ground.ensures.0 c.if-not-is_ground.false))

pub returns-then-not-is_ground : goal.returns-then-not-is_ground
returns-then-not-is_ground c =
    answer_no (λ h.
    both_ways _ c.if-not-is_ground.true (c.is_ground.ensures.1
    (right_ground-at _ _ c.rule-item.result c.rules-rule-items.ensures.pairs (c.loop-rule.rule-index, c.loop-rule-test.true, sym c.rule-item.is) h)))

pub returns : goal.returns
returns c =
    let whole : take c.loop-rule.rule-index c.rules-rule-items.result.now ≡ c.rules-rule-items.result.now = take_all _ _ c.loop-rule-test.false in
    let all = rw whole at c.loop-rule.invariant in
    (λ _. right_ground-all _ _ c.rules-rule-items.ensures.pairs all, λ _. refl)
