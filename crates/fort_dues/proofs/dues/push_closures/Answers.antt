use Rattle.std.proofs.Common.{map}
use Rattle.fort_outline.specs.Roots.{cores_of}
use Rattle.fort_dues.specs.DueView.{as_due}
use Rattle.fort_dues.proofs.DueLists.{closures_more}
use Rattle.fort_dues.proofs.dues.push_closures.Goals as goal

pub loop-i-preserved : goal.loop-i-preserved
loop-i-preserved c =
    closures_more (cores_of c.args.roots.now) c.loop-i.i (map as_due c.args.dues.now.items) (map as_due c.loop-i.dues.items) (map as_due c.push_closure.new.dues.items)
    (map as_due c.push_closure-in-loop-i.new.dues.items) c.loop-i.invariant c.in_ok-push_closure.ensures c.in_ok-push_closure-2.ensures
