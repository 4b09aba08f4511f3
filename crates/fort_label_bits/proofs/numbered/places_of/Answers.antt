use Rattle.std.proofs.Common.{map, arith}
use Rattle.std.proofs.lemmas.List.{take_more, length-map}
use Rattle.fort_terms.specs.PatternView.{as_pattern}
use Rattle.fort_label_bits.proofs.NumberedLaws.{AreAt-push}
use Rattle.fort_tree_automata.proofs.PatternMovesLaws.{AllAmong-at}
use Rattle.fort_label_bits.proofs.numbered.places_of.Goals as goal

pub place_of-requires-clause-listed : goal.place_of-requires-clause-listed
place_of-requires-clause-listed c =
    rw (← c.arg-item.is) at (AllAmong-at (map as_pattern c.args.patterns.now) c.args.args.now c.loop-arg.arg-index c.arg-item.result c.loop-arg-test.true c.requires.among)

pub loop-arg-preserved : goal.loop-arg-preserved
loop-arg-preserved c =
    rw (take_more _ _ c.arg-item.result c.loop-arg-test.true, ← c.arg-item.is, c.in_ok-push.ensures.items)
    (AreAt-push _ _ _ _ _ c.loop-arg.invariant (omega (arith, c.place_of.ensures.within, length-map c.args.patterns.now as_pattern)) c.place_of.ensures.at)
