use Rattle.std.proofs.Common.{◌≡◌, ◌<◌, length, map, subst, arith}
use Rattle.std.proofs.lemmas.List.Elements.{Contains-get_or}
use Rattle.fort_theory.specs.Cores as core
use Rattle.fort_outline.specs.Outlines.{parts_in, core_at}
use Rattle.fort_steps.specs.StepView.{as_step}
use Rattle.fort_outline.proofs.RootLaws.{length-cores_of}
use Rattle.fort_cert_checker.specs.Makings.{ArePlansMade}
use Rattle.fort_cert_checker.proofs.MakingLaws.{made_more}
use Rattle.fort_cert_checker.proofs.making.plans_of.Goals as goal

pub new-requires-clause-within : goal.new-requires-clause-within
new-requires-clause-within c = omega (arith, c.loop-k-test.true, c.len-k-end.ensures, c.args.outline.now.roots.ok.0)

pub new-requires-clause-fit : goal.new-requires-clause-fit
new-requires-clause-fit c =
    let o = c.args.outline.now in
    let k = c.loop-k.k in
    let low : k < length (parts_in o) = omega (arith, c.loop-k-test.true, c.len-k-end.ensures, o.roots.ok.0, length-cores_of o.roots.items) in
    c.requires.fit (core_at o k) (Contains-get_or (parts_in o) k core.True low)

pub loop-k-preserved : goal.loop-k-preserved
loop-k-preserved c =
    made_more _ c.loop-k.k c.loop-k.plans.items c.push.new.self.items c.in_ok-new.field-0 c.loop-k.invariant c.in_ok-new.ensures c.in_ok-push.ensures.items

pub returns : goal.returns
returns c =
    let o = c.args.outline.now in
    let n : c.loop-k.k ≡ length (parts_in o) = omega (arith, c.loop-k-test.false, c.loop-k.auto.k-end, c.len-k-end.ensures, o.roots.ok.0, length-cores_of o.roots.items) in
    subst (λ m. ArePlansMade c.args.system.now (parts_in o) (map as_step c.args.steps.now) m c.loop-k.plans.items) n c.loop-k.invariant
