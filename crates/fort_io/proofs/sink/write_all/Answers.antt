use Rattle.std.proofs.Common.{arith, refl}
use Rattle.fort_io.proofs.Taken.{TakesFront-more}
use Rattle.fort_io.proofs.sink.write_all.Goals as goal

pub loop-rest-preserved : goal.loop-rest-preserved
loop-rest-preserved g c = record {
  given = TakesFront-more _ _ _ _ _ _ _ c.loop-rest.invariant.given c.in_ok-n.ensures.moved refl;
  never_falls = omega (arith, c.in_ok-n.ensures.never_falls, c.loop-rest.invariant.never_falls);
}
