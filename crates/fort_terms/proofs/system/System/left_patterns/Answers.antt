use Rattle.std.proofs.Common.{◌≡◌, take}
use Rattle.std.proofs.lemmas.List.{take_all}
use Rattle.std.proofs.lemmas.Result.{IfOk-weaker}
use Rattle.fort_theory.specs.PatternOrder.{subpatterns}
use Rattle.fort_terms.specs.PatternView.{as_pattern}
use Rattle.fort_terms.proofs.SubpatternsLaws.{HasMore-take, AreSubpatternsInOrder-found}
use Rattle.fort_terms.proofs.system.System.left_patterns.Goals as goal

pub loop-rule-preserved : goal.loop-rule-preserved
loop-rule-preserved c =
    HasMore-take (λ rule. subpatterns (as_pattern rule.0)) _ _ c.rule-item.result _ _ _ c.loop-rule-test.true c.rule-item.is c.loop-rule.invariant c.in_ok-insert_subpatterns.ensures

pub returns : goal.returns
returns c =
    let whole : take c.loop-rule.rule-index c.rules-rule-items.result.now ≡ c.rules-rule-items.result.now = take_all _ _ c.loop-rule-test.false in
    let found = rw whole at c.loop-rule.invariant in
    IfOk-weaker c.in_order.result _ _ (λ ps e. rw e (AreSubpatternsInOrder-found (λ pair. pair.0) _ _ _ c.rules-rule-items.ensures.pairs found c.in_order.ensures.ordered))
    c.in_order.ensures.patterns
