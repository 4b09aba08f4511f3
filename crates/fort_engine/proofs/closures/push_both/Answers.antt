use Rattle.std.proofs.Common.{◌++◌, List, ℕ, subst, append_assoc}
use Rattle.fort_alike.specs.ListedClosures.{Which, Star, Conv}
use Rattle.fort_outline.specs.Roots.{cores_of}
use Rattle.fort_engine.specs.Closures.{closure_asked, AreClosuresOf}
use Rattle.fort_engine.proofs.closures.push_both.Goals as goal

pub returns : goal.returns
returns c names h =
    let parts = cores_of c.args.roots.now in
    let star = closure_asked parts c.args.index Star in
    subst (λ (ns : List (Which × ℕ)). AreClosuresOf c.args.system.now ns c.push_closure-2.new.list.items) (append_assoc names star (closure_asked parts c.args.index Conv))
    (c.in_ok-push_closure-2.ensures (names ++ star) (c.in_ok-push_closure.ensures names h))
