use Rattle.std.proofs.Common.{map, sym}
use Rattle.fort_theory.proofs.Lists.{Contains-map}
use Rattle.fort_terms.specs.PatternView.{as_pair, as_pattern}
use Rattle.fort_label_bits.proofs.RulePlaceLaws.{ArePlacesOf-more}
use Rattle.fort_label_bits.proofs.rule_places.places_of_rules.Goals as goal

pub places_of_rule-requires-clause-left : goal.places_of_rule-requires-clause-left
places_of_rule-requires-clause-left c =
    (c.requires.among (as_pair c.rule-item.result)
    (Contains-map as_pair c.args.rules.now c.rule-item.result (c.loop-rule.rule-index, c.loop-rule-test.true, sym c.rule-item.is))).0

pub places_of_rule-requires-clause-right : goal.places_of_rule-requires-clause-right
places_of_rule-requires-clause-right c =
    (c.requires.among (as_pair c.rule-item.result)
    (Contains-map as_pair c.args.rules.now c.rule-item.result (c.loop-rule.rule-index, c.loop-rule-test.true, sym c.rule-item.is))).1

pub loop-rule-preserved : goal.loop-rule-preserved
loop-rule-preserved c =
    rw c.in_ok-push.ensures.items
    (ArePlacesOf-more (map as_pattern c.args.lefts.now) (map as_pattern c.args.rights.now) c.args.rules.now c.loop-rule.rule-index c.rule-item.result
    c.loop-rule.places.items c.places_of_rule.result c.loop-rule-test.true c.rule-item.is c.loop-rule.invariant c.places_of_rule.ensures)
