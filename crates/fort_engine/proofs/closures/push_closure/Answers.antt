use Rattle.std.proofs.Common.{sym, subst}
use Rattle.fort_theory.specs.Sides.{at_index}
use Rattle.fort_theory.specs.Cores.{Rel}
use Rattle.fort_outline.specs.Roots.{cores_of}
use Rattle.fort_findings.specs.FindingView.{as_which}
use Rattle.fort_context_closure.specs.ClosedAtoms.{ListsPasses}
use Rattle.fort_engine.proofs.ClosureLaws.{AreClosuresOf-unasked, AreClosuresOf-asked}
use Rattle.fort_engine.proofs.closures.push_closure.Goals as goal

pub returns-then-not-is_closure_asked : goal.returns-then-not-is_closure_asked
returns-then-not-is_closure_asked c names h =
    AreClosuresOf-unasked c.args.system.now (cores_of c.args.roots.now) (as_which c.args.which) c.args.index names c.args.list.now.items (sym c.if-not-is_closure_asked.ensures) h

pub returns : goal.returns
returns c names h =
    let system = c.args.system.now in
    AreClosuresOf-asked system (cores_of c.args.roots.now) names c.args.list.now.items c.push.new.self.items
    (record { which = c.args.which; index = c.args.index; entries = c.in_ok-entries.entries }) (sym c.if-not-is_closure_asked.ensures)
    (subst (λ (r : Rel). ListsPasses r (at_index c.args.index system.rules) c.in_ok-entries.entries.items) c.relation.ensures c.in_ok-entries.ensures.passes)
    c.in_ok-push.ensures.items h
