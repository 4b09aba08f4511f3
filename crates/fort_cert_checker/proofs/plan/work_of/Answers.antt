use Rattle.std.proofs.Common.{map, sym, ap, ◌∙◌, subst, arith}
use Rattle.std.proofs.lemmas.Result.{IfOk-weaker}
use Rattle.fort_theory.specs.Cores.{Core}
use Rattle.fort_theory.specs.Parts.{BindsFree, HasManyRootsAt}
use Rattle.fort_parts.specs.DecidedCores.{IsOverSystem}
use Rattle.fort_parts.proofs.PartColumnLaws.{column-from_free}
use Rattle.fort_outline.specs.Outlines.{core_at}
use Rattle.fort_findings.specs.FindingView.{as_count}
use Rattle.fort_steps.specs.StepView.{as_step}
use Rattle.fort_outline.proofs.OutlineLaws.{part_is, over_is}
use Rattle.fort_cert_checker.specs.Plans.{IsAtomPlan}
use Rattle.fort_cert_checker.proofs.plan.work_of.Goals as goal

pub index-requires : goal.index-requires
index-requires c = omega (arith, c.requires.within, c.args.outline.now.roots.ok.0)

pub returns-in-True : goal.returns-in-True
returns-in-True c = part_is c.args.outline.now.roots.items c.requires.outline.1.in_order c.args.k c.index.result.now _ c.requires.within c.index.ensures c.in-True.is

pub atom_labels-requires-clause-over : goal.atom_labels-requires-clause-over
atom_labels-requires-clause-over c = subst (λ (f : Core). IsOverSystem c.args.system.now f) (part_is c.args.outline.now.roots.items c.requires.outline.1.in_order c.args.k c.index.result.now _ c.requires.within c.index.ensures c.in-Leaf.is) c.requires.fit.over

pub atom_labels-requires-clause-narrow : goal.atom_labels-requires-clause-narrow
atom_labels-requires-clause-narrow c = subst (λ (f : Core). HasManyRootsAt f → ⊥) (part_is c.args.outline.now.roots.items c.requires.outline.1.in_order c.args.k c.index.result.now _ c.requires.within c.index.ensures c.in-Leaf.is) c.requires.fit.roots

pub returns-in_ok-atom_labels-in-Leaf : goal.returns-in_ok-atom_labels-in-Leaf
returns-in_ok-atom_labels-in-Leaf c =
    subst (λ (f : Core). IsAtomPlan c.args.system.now (map as_step c.args.steps.now) f c.in_ok-atom_labels-in-Leaf.field-0)
    (sym (part_is c.args.outline.now.roots.items c.requires.outline.1.in_order c.args.k c.index.result.now _ c.requires.within c.index.ensures c.in-Leaf.is)) c.in_ok-atom_labels-in-Leaf.ensures

pub source_of-requires-clause-within : goal.source_of-requires-clause-within
source_of-requires-clause-within c =
    let before = over_is c.args.outline.now.roots.items c.requires.outline.1.in_order c.args.k c.index.result.now _ c.requires.within c.index.ensures c.in-Not.is in
    omega (arith, before, c.requires.within)

pub returns-in-Not : goal.returns-in-Not
returns-in-Not c = record {
  body = core_at c.args.outline.now c.in-Not.f;
  whole = part_is c.args.outline.now.roots.items c.requires.outline.1.in_order c.args.k c.index.result.now _ c.requires.within c.index.ensures c.in-Not.is;
  source = c.source_of.ensures;
}

pub product_work-requires-clause-first : goal.product_work-requires-clause-first
product_work-requires-clause-first c =
    let before = over_is c.args.outline.now.roots.items c.requires.outline.1.in_order c.args.k c.index.result.now _ c.requires.within c.index.ensures c.in-Binary.is in
    omega (arith, before.0, c.requires.within)

pub product_work-requires-clause-second : goal.product_work-requires-clause-second
product_work-requires-clause-second c =
    let before = over_is c.args.outline.now.roots.items c.requires.outline.1.in_order c.args.k c.index.result.now _ c.requires.within c.index.ensures c.in-Binary.is in
    omega (arith, before.1, c.requires.within)

pub product_work-requires-clause-whole : goal.product_work-requires-clause-whole
product_work-requires-clause-whole c = part_is c.args.outline.now.roots.items c.requires.outline.1.in_order c.args.k c.index.result.now _ c.requires.within c.index.ensures c.in-Binary.is

pub returns-in-Binary : goal.returns-in-Binary
returns-in-Binary c = IfOk-weaker c.product_work.result _ _ (λ w made. made c.args.system.now (map as_step c.args.steps.now) c.args.k) c.product_work.ensures

pub bound_column-column-requires-clause-within : goal.bound_column-column-requires-clause-within
bound_column-column-requires-clause-within c =
    let before = over_is c.args.outline.now.roots.items c.requires.outline.1.in_order c.args.k c.index.result.now _ c.requires.within c.index.ensures c.in-Exists.is in
    omega (arith, before, c.requires.within)

pub bound_column-column-requires-clause-free : goal.bound_column-column-requires-clause-free
bound_column-column-requires-clause-free c =
    let part = part_is c.args.outline.now.roots.items c.requires.outline.1.in_order c.args.k c.index.result.now _ c.requires.within c.index.ensures c.in-Exists.is in
    let binders = subst BindsFree part c.requires.fit.binders in
    column-from_free (core_at c.args.outline.now c.in-Exists.f) c.in-Exists.n binders.0

pub source_of-requires-in-Exists-clause-within : goal.source_of-requires-in-Exists-clause-within
source_of-requires-in-Exists-clause-within c =
    let before = over_is c.args.outline.now.roots.items c.requires.outline.1.in_order c.args.k c.index.result.now _ c.requires.within c.index.ensures c.in-Exists.is in
    omega (arith, before, c.requires.within)

pub returns-in-Exists : goal.returns-in-Exists
returns-in-Exists c = record {
  number = c.in-Exists.n;
  body = core_at c.args.outline.now c.in-Exists.f;
  whole = part_is c.args.outline.now.roots.items c.requires.outline.1.in_order c.args.k c.index.result.now _ c.requires.within c.index.ensures c.in-Exists.is;
  source = c.source_of-in-Exists.ensures;
  column = c.bound_column-column.ensures;
}

pub bound_column-column-requires-in-Infinite-clause-within : goal.bound_column-column-requires-in-Infinite-clause-within
bound_column-column-requires-in-Infinite-clause-within c =
    let before = over_is c.args.outline.now.roots.items c.requires.outline.1.in_order c.args.k c.index.result.now _ c.requires.within c.index.ensures c.in-Infinite.is in
    omega (arith, before, c.requires.within)

pub bound_column-column-requires-in-Infinite-clause-free : goal.bound_column-column-requires-in-Infinite-clause-free
bound_column-column-requires-in-Infinite-clause-free c =
    let part = part_is c.args.outline.now.roots.items c.requires.outline.1.in_order c.args.k c.index.result.now _ c.requires.within c.index.ensures c.in-Infinite.is in
    let binders = subst BindsFree part c.requires.fit.binders in
    column-from_free (core_at c.args.outline.now c.in-Infinite.f) c.in-Infinite.n binders.0

pub source_of-requires-in-Infinite-clause-within : goal.source_of-requires-in-Infinite-clause-within
source_of-requires-in-Infinite-clause-within c =
    let before = over_is c.args.outline.now.roots.items c.requires.outline.1.in_order c.args.k c.index.result.now _ c.requires.within c.index.ensures c.in-Infinite.is in
    omega (arith, before, c.requires.within)

pub returns-in_ok-marks-in-Infinite : goal.returns-in_ok-marks-in-Infinite
returns-in_ok-marks-in-Infinite c = record {
  number = c.in-Infinite.n;
  body = core_at c.args.outline.now c.in-Infinite.f;
  whole = part_is c.args.outline.now.roots.items c.requires.outline.1.in_order c.args.k c.index.result.now _ c.requires.within c.index.ensures c.in-Infinite.is;
  source = c.source_of-in-Infinite.ensures;
  column = c.bound_column-column-in-Infinite.ensures;
  marks_are = λ own only. ap (map as_count) c.in_ok-marks-in-Infinite.ensures.items ∙ c.marks_of.ensures own only;
}
