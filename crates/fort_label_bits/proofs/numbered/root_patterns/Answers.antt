use Rattle.fort_label_bits.specs.RootPlaces.{root_of}
use Rattle.fort_label_bits.proofs.RootPlaceLaws.{rooted_next}
use Rattle.fort_label_bits.proofs.numbered.root_patterns.Goals as goal

pub loop-k-preserved : goal.loop-k-preserved
loop-k-preserved c = rooted_next root_of c.args.patterns.now c.loop-k.k c.index-patterns-k.result _ _ _ c.loop-k-test.true c.index-patterns-k.is c.root.ensures c.loop-k.invariant c.in_ok-push.ensures
