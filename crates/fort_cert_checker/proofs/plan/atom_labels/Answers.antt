use Rattle.std.proofs.Common.{map, sym, ap, subst}
use Rattle.std.proofs.lemmas.Result.{IfOk-weaker}
use Rattle.fort_theory.specs.Cores as core
use Rattle.fort_theory.specs.Parts.{HasManyRootsIn}
use Rattle.fort_parts.specs.DecidedCores.{IsAtomOver}
use Rattle.fort_relations.specs.HolesView.{as_hole_number, as_hole_place}
use Rattle.fort_relations.specs.RexView.{as_expression}
use Rattle.fort_outline.specs.LeafView.{as_atom}
use Rattle.fort_steps.specs.StepView.{as_step}
use Rattle.fort_cert_checker.specs.Plans.{IsAtomPlan}
use Rattle.fort_cert_checker.proofs.plan.atom_labels.Goals as goal

pub expression-requires-clause-over : goal.expression-requires-clause-over
expression-requires-clause-over c = subst (λ l. IsAtomOver c.args.system.now (as_atom l)) c.in-InContext.is c.requires.over

pub expression-requires-clause-narrow : goal.expression-requires-clause-narrow
expression-requires-clause-narrow c = subst (λ l. HasManyRootsIn (as_atom l) → ⊥) c.in-InContext.is c.requires.narrow

pub returns-in-InContext : goal.returns-in-InContext
returns-in-InContext c =
    let e = c.in-InContext in
    IfOk-weaker c.expression.result _ _ (λ labels made.
    subst (IsAtomPlan c.args.system.now (map as_step c.args.steps.now) (core.Leaf (as_atom c.args.leaf.now))) (sym made.1) (record {
      expression = as_expression e.rex;
      number = as_hole_number e.holes;
      place = as_hole_place e.place;
      first = e.x;
      second = e.y;
      whole = ap (λ l. core.Leaf (as_atom l)) e.is;
      labels = made.2;
    }))
    c.expression.ensures.labels

pub returns-in-Normal : goal.returns-in-Normal
returns-in-Normal c =
    IfOk-weaker c.nf.result _ _ (λ labels made.
    subst (IsAtomPlan c.args.system.now (map as_step c.args.steps.now) (core.Leaf (as_atom c.args.leaf.now))) (sym made.1) (record {
      index = c.in-Normal.index;
      number = c.in-Normal.field-1;
      whole = ap (λ l. core.Leaf (as_atom l)) c.in-Normal.is;
      labels = made.2;
    }))
    c.nf.ensures.plain

pub returns-in-IsTerm : goal.returns-in-IsTerm
returns-in-IsTerm c =
    IfOk-weaker c.is.result _ _ (λ labels term.
    subst (IsAtomPlan c.args.system.now (map as_step c.args.steps.now) (core.Leaf (as_atom c.args.leaf.now))) (sym term) (record {
      number = c.in-IsTerm.field-0;
      whole = ap (λ l. core.Leaf (as_atom l)) c.in-IsTerm.is;
    }))
    c.is.ensures.term
