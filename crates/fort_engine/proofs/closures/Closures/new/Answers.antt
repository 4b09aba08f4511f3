use Rattle.std.proofs.Common.{◌≡◌, ◌+◌, ℕ, length, refl, subst, arith}
use Rattle.fort_outline.specs.Roots.{cores_of}
use Rattle.fort_engine.specs.Closures.{closures_asked, AreClosuresOf}
use Rattle.fort_engine.proofs.ClosureLaws.{AreClosuresOf-none, AreClosuresOf-index}
use Rattle.fort_engine.proofs.closures.Closures.new.Goals as goal

pub loop-i-init : goal.loop-i-init
loop-i-init c = AreClosuresOf-none c.args.system.now c.new-list.result.items c.new-list.ensures.items

pub loop-i-preserved : goal.loop-i-preserved
loop-i-preserved c =
    let parts = cores_of c.args.roots.now in
    AreClosuresOf-index c.args.system.now parts c.loop-i.i (c.loop-i.i + 1) c.push_both.new.list.items refl
    (c.in_ok-push_both.ensures (closures_asked parts c.loop-i.i 1) c.loop-i.invariant)

pub returns : goal.returns
returns c =
    let parts = cores_of c.args.roots.now in
    let all : c.loop-i.i ≡ length c.args.system.now.rules = omega (arith, c.loop-i-test.false, c.loop-i.auto.i-end, c.number-i-end.ensures.count) in
    subst (λ (n : ℕ). AreClosuresOf c.args.system.now (closures_asked parts n 1) c.loop-i.list.items) all c.loop-i.invariant
