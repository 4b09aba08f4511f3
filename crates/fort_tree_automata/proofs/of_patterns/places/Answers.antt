use Rattle.std.proofs.Common.{map, sym, subst, take}
use Rattle.std.specs.Prelude.{Contains}
use Rattle.std.proofs.lemmas.List.{take_more}
use Rattle.fort_terms.specs.PatternView.{as_pattern}
use Rattle.fort_tree_automata.proofs.PatternMovesLaws.{AllAmong-at, AllStandAt-push}
use Rattle.fort_tree_automata.proofs.of_patterns.places.Goals as goal

pub place-requires-clause-among : goal.place-requires-clause-among
place-requires-clause-among c =
    subst (λ p. Contains (map as_pattern c.args.patterns.now) (as_pattern p)) (sym c.arg-item.is)
    (AllAmong-at (map as_pattern c.args.patterns.now) c.args.args.now c.loop-arg.arg-index c.arg-item.result c.loop-arg-test.true c.requires.among)

pub loop-arg-preserved : goal.loop-arg-preserved
loop-arg-preserved c =
    rw (c.in_ok-push.ensures.items, take_more _ _ c.arg-item.result c.loop-arg-test.true, ← c.arg-item.is)
    (AllStandAt-push (map as_pattern c.args.patterns.now) c.loop-arg.states.items (take c.loop-arg.arg-index c.args.args.now) c.place.result c.arg-item.result c.loop-arg.invariant c.place.ensures)
