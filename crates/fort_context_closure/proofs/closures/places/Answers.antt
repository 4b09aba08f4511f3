use Rattle.std.proofs.Common.{map}
use Rattle.fort_terms.specs.PatternView.{as_pair, as_pattern}
use Rattle.fort_transducers.proofs.RootStepsLaws.{ArePlaces-more, rule-among}
use Rattle.fort_context_closure.proofs.closures.places.Goals as goal

pub place-requires-clause-among : goal.place-requires-clause-among
place-requires-clause-among c =
    (c.requires.among (as_pair c.rule-item.result) (rule-among c.args.rules.now c.loop-rule.rule-index c.rule-item.result c.loop-rule-test.true c.rule-item.is)).0

pub place-requires-in-loop-rule-clause-among : goal.place-requires-in-loop-rule-clause-among
place-requires-in-loop-rule-clause-among c =
    (c.requires.among (as_pair c.rule-item.result) (rule-among c.args.rules.now c.loop-rule.rule-index c.rule-item.result c.loop-rule-test.true c.rule-item.is)).1

pub loop-rule-preserved : goal.loop-rule-preserved
loop-rule-preserved c =
    ArePlaces-more (map as_pattern c.args.lefts.now) (map as_pattern c.args.rights.now) c.args.rules.now c.loop-rule.rule-index c.rule-item.result c.loop-rule.pairs.items
    c.push.new.self.items (c.place.result, c.place-in-loop-rule.result) c.loop-rule-test.true c.rule-item.is c.in_ok-push.ensures.items c.loop-rule.invariant c.place.ensures
    c.place-in-loop-rule.ensures
