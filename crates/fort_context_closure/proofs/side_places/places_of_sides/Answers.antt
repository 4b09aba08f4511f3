use Rattle.std.proofs.Common.{map, sym, arith}
use Rattle.std.proofs.lemmas.List.{length-map}
use Rattle.fort_theory.proofs.Lists.{Contains-map}
use Rattle.fort_terms.specs.PatternView.{as_pair, as_pattern}
use Rattle.fort_context_closure.proofs.SidePlaceLaws.{AreSidesOf-more}
use Rattle.fort_context_closure.proofs.side_places.places_of_sides.Goals as goal

pub place_of-requires-clause-listed : goal.place_of-requires-clause-listed
place_of-requires-clause-listed c =
    c.requires.among (as_pair c.rule-item.result)
    (Contains-map as_pair c.args.rules.now c.rule-item.result (c.loop-rule.rule-index, c.loop-rule-test.true, sym c.rule-item.is))

pub loop-rule-preserved : goal.loop-rule-preserved
loop-rule-preserved c =
    rw c.in_ok-push.ensures.items
    (AreSidesOf-more (map as_pattern c.args.lefts.now) c.args.rules.now c.loop-rule.rule-index c.rule-item.result c.loop-rule.places.items c.place_of.result
    c.loop-rule-test.true c.rule-item.is c.loop-rule.invariant (omega (arith, c.place_of.ensures.within, length-map c.args.lefts.now as_pattern)) c.place_of.ensures.at)
