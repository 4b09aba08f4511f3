use Rattle.fort_outline.specs.Roots.{cores_of}
use Rattle.fort_engine.specs.Closures.{closures_asked, AreClosuresOf}
use Rattle.fort_engine.proofs.closures.Closures.new.Given as goal

abbrev pub invariant-loop-i : goal.invariant-loop-i
invariant-loop-i l = AreClosuresOf l.system (closures_asked (cores_of l.roots) l.i 1) l.list.items
