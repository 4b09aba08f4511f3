use Rattle.fort_synth.proofs.CandidateSides.{ground_sides-more}
use Rattle.fort_synth.proofs.candidate.+ground_side.Goals as goal

pub loop-kid-preserved : goal.loop-kid-preserved
loop-kid-preserved t c =
    ground_sides-more c.loop-kid.kid-index c.loop-kid.sides.items c.push.new.self.items c.deref-kid-items.result.now c.in_ok-ground_side.field-0 c.kid-item.result
    c.loop-kid-test.true c.kid-item.is c.loop-kid.invariant c.in_ok-ground_side.ensures c.in_ok-push.ensures.items
