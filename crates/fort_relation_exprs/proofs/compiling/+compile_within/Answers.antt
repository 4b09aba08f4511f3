use Rattle.std.proofs.Common.{◌≡◌, arith, ◌∙◌, sym, subst, ap, inl, inr}
use Rattle.fort_theory.specs.Expressions.{RootSteps, Inverse, Union, Composition, Closure}
use Rattle.fort_relations.specs.RexView.{as_expression}
use Rattle.fort_relation_exprs.specs.CompiledWithin.{CanCompile, IsCompiledWithin}
use Rattle.fort_relation_exprs.proofs.OperandLaws.{root_index, only_operand, first_operand, second_operand}
use Rattle.fort_relation_exprs.proofs.CompiledWithinLaws.{root-within, inverse-within, closure-within}
use Rattle.fort_relation_exprs.proofs.compiling.+compile_within.Goals as goal

pub root_steps-requires : goal.root_steps-requires
root_steps-requires t c = root_index c.args.system.now c.in-Root.index (subst (CanCompile c.args.system.now) (ap as_expression c.in-Root.is) c.requires)

pub compile_within-requires : goal.compile_within-requires
compile_within-requires t c =
    let w = only_operand c.args.system.now (as_expression c.args.rex.now) c.in-Inv.e _ (inl (ap as_expression c.in-Inv.is)) c.as_rex.ensures c.requires in
    (omega (arith, c.decreases, w.0), w.1)

pub compile_within-requires-in-Union : goal.compile_within-requires-in-Union
compile_within-requires-in-Union t c =
    let w = first_operand c.args.system.now (as_expression c.args.rex.now) c.in-Union.a c.in-Union.b _ (inl (ap as_expression c.in-Union.is)) c.as_rex-in-Union.ensures c.requires in
    (omega (arith, c.decreases, w.0), w.1)

pub compile_within-requires-in-Union-2 : goal.compile_within-requires-in-Union-2
compile_within-requires-in-Union-2 t c =
    let w = second_operand c.args.system.now (as_expression c.args.rex.now) c.in-Union.a c.in-Union.b _ (inl (ap as_expression c.in-Union.is)) c.as_rex-in-Union-2.ensures c.requires in
    (omega (arith, c.decreases, w.0), w.1)

pub compile_within-requires-in-Comp : goal.compile_within-requires-in-Comp
compile_within-requires-in-Comp t c =
    let w = first_operand c.args.system.now (as_expression c.args.rex.now) c.in-Comp.a c.in-Comp.b _ (inr (ap as_expression c.in-Comp.is)) c.as_rex-in-Comp.ensures c.requires in
    (omega (arith, c.decreases, w.0), w.1)

pub compile_within-requires-in-Comp-2 : goal.compile_within-requires-in-Comp-2
compile_within-requires-in-Comp-2 t c =
    let w = second_operand c.args.system.now (as_expression c.args.rex.now) c.in-Comp.a c.in-Comp.b _ (inr (ap as_expression c.in-Comp.is)) c.as_rex-in-Comp-2.ensures c.requires in
    (omega (arith, c.decreases, w.0), w.1)

pub compile_within-requires-in-Clos : goal.compile_within-requires-in-Clos
compile_within-requires-in-Clos t c =
    let w = only_operand c.args.system.now (as_expression c.args.rex.now) c.in-Clos.e _ (inr (ap as_expression c.in-Clos.is)) c.as_rex-in-Clos.ensures c.requires in
    (omega (arith, c.decreases, w.0), w.1)

pub returns-in_ok-steps-in-Root : goal.returns-in_ok-steps-in-Root
returns-in_ok-steps-in-Root t c =
    let system = c.args.system.now in
    let made = c.in_ok-steps-in-Root in
    let is : as_expression c.args.rex.now ≡ RootSteps c.in-Root.index = ap as_expression c.in-Root.is in
    subst (λ e. IsCompiledWithin system e made.steps) (sym is)
    (root-within system c.in-Root.index made.steps (subst (CanCompile system) is c.requires) made.ensures.states made.ensures.named)

pub returns-in_ok-turned-in-Inv : goal.returns-in_ok-turned-in-Inv
returns-in_ok-turned-in-Inv t c =
    let system = c.args.system.now in
    let inner = c.in_ok-inner-in-Inv in
    let made = c.in_ok-turned-in-Inv in
    let is : as_expression c.args.rex.now ≡ Inverse (as_expression c.as_rex.result.now) = ap as_expression c.in-Inv.is ∙ ap Inverse (sym c.as_rex.ensures) in
    subst (λ e. IsCompiledWithin system e made.turned) (sym is)
    (inverse-within system _ inner.inner made.turned inner.ensures made.ensures.left made.ensures.right made.ensures.pairs made.ensures.named made.ensures.related)

pub returns-in_ok-both-in-Union : goal.returns-in_ok-both-in-Union
returns-in_ok-both-in-Union t c =
    let system = c.args.system.now in
    let one = c.in_ok-one-in-Union in
    let other = c.in_ok-other-in-Union in
    let made = c.in_ok-both-in-Union in
    let is : as_expression c.args.rex.now ≡ Union (as_expression c.as_rex-in-Union.result.now) (as_expression c.as_rex-in-Union-2.result.now) =
    ap as_expression c.in-Union.is ∙ (λ i. Union (sym c.as_rex-in-Union.ensures i) (sym c.as_rex-in-Union-2.ensures i)) in
    subst (λ e. IsCompiledWithin system e made.both) (sym is)
    (made.ensures system _ _ one.ensures other.ensures)

pub returns-in_ok-composed-in-Comp : goal.returns-in_ok-composed-in-Comp
returns-in_ok-composed-in-Comp t c =
    let system = c.args.system.now in
    let first = c.in_ok-first-in-Comp in
    let second = c.in_ok-second-in-Comp in
    let made = c.in_ok-composed-in-Comp in
    let is : as_expression c.args.rex.now ≡ Composition (as_expression c.as_rex-in-Comp.result.now) (as_expression c.as_rex-in-Comp-2.result.now) =
    ap as_expression c.in-Comp.is ∙ (λ i. Composition (sym c.as_rex-in-Comp.ensures i) (sym c.as_rex-in-Comp-2.ensures i)) in
    subst (λ e. IsCompiledWithin system e made.composed) (sym is)
    (made.ensures system _ _ first.ensures second.ensures)

pub returns-in_ok-closure-in-Clos : goal.returns-in_ok-closure-in-Clos
returns-in_ok-closure-in-Clos t c =
    let system = c.args.system.now in
    let step = c.in_ok-step-in-Clos in
    let made = c.in_ok-closure-in-Clos in
    let is : as_expression c.args.rex.now ≡ Closure (as_expression c.as_rex-in-Clos.result.now) = ap as_expression c.in-Clos.is ∙ ap Closure (sym c.as_rex-in-Clos.ensures) in
    subst (λ e. IsCompiledWithin system e made.closure) (sym is)
    (closure-within system _ step.step made.closure step.ensures made.ensures.named made.ensures.states made.ensures.sizes made.ensures.related)
