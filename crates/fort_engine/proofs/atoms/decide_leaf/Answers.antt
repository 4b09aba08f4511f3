use Rattle.std.proofs.Common.{sym, subst}
use Rattle.std.specs.Prelude.{Contains}
use Rattle.fort_theory.specs.Cores as core
use Rattle.fort_theory.specs.Parts.{HasManyRootsIn}
use Rattle.fort_parts.specs.DecidedCores.{IsAtomOver}
use Rattle.fort_outline.specs.LeafView.{as_atom}
use Rattle.fort_engine.specs.Deciding.{IsDecision}
use Rattle.fort_engine.proofs.atoms.decide_leaf.Goals as goal

pub related-requires-clause-index : goal.related-requires-clause-index
related-requires-clause-index c = subst (λ l. IsAtomOver c.args.system.now (as_atom l)) c.in-Related.is c.requires.over

pub related-requires-clause-passes : goal.related-requires-clause-passes
related-requires-clause-passes c =
    let a = c.args in
    let of = c.requires.closures in
    c.read_by-closure.ensures.passes a.system.now of.0 c.in-Related.x c.in-Related.y of.2
    (subst (λ l. IsAtomOver a.system.now (as_atom l)) c.in-Related.is c.requires.over)
    (subst (λ l. Contains of.0 (core.Leaf (as_atom l))) c.in-Related.is of.1)

pub in_context-requires-clause-over : goal.in_context-requires-clause-over
in_context-requires-clause-over c = subst (λ l. IsAtomOver c.args.system.now (as_atom l)) c.in-InContext.is c.requires.over

pub in_context-requires-clause-narrow : goal.in_context-requires-clause-narrow
in_context-requires-clause-narrow c = subst (λ l. HasManyRootsIn (as_atom l) → ⊥) c.in-InContext.is c.requires.narrow

pub normal_form-requires : goal.normal_form-requires
normal_form-requires c = subst (λ l. IsAtomOver c.args.system.now (as_atom l)) c.in-Normal.is c.requires.over

pub returns-in-Related : goal.returns-in-Related
returns-in-Related c =
    subst (λ l. IsDecision c.args.system.now c.args.options.now (core.Leaf (as_atom l)) c.related.result) (sym c.in-Related.is) c.related.ensures

pub returns-in-InContext : goal.returns-in-InContext
returns-in-InContext c =
    subst (λ l. IsDecision c.args.system.now c.args.options.now (core.Leaf (as_atom l)) c.in_context.result) (sym c.in-InContext.is) c.in_context.ensures

pub returns-in-Normal : goal.returns-in-Normal
returns-in-Normal c =
    subst (λ l. IsDecision c.args.system.now c.args.options.now (core.Leaf (as_atom l)) c.normal_form.result) (sym c.in-Normal.is) (c.normal_form.ensures c.in-Normal.field-1)

pub returns-in-IsTerm : goal.returns-in-IsTerm
returns-in-IsTerm c =
    subst (λ l. IsDecision c.args.system.now c.args.options.now (core.Leaf (as_atom l)) c.this_term.result) (sym c.in-IsTerm.is) (c.this_term.ensures c.in-IsTerm.field-0)
