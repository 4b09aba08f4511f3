use Rattle.std.proofs.Common.{ap, ◌∙◌}
use Rattle.fort_theory.specs.Cores as core
use Rattle.fort_outline.specs.Roots.{root_core}
use Rattle.fort_outline.proofs.RootLaws.{no_atom, atom_is}
use Rattle.fort_outline.proofs.root.Root.relation.Goals as goal

pub returns-in-Some-clause-some : goal.returns-in-Some-clause-some
returns-in-Some-clause-some c = λ parts.
    let told = c.in-Some.ensures.some in
    (told.0, told.1, ap (root_core parts) c.in-Leaf.is ∙ ap (λ a. core.Leaf a) told.2)

pub returns-in-None-clause-none : goal.returns-in-None-clause-none
returns-in-None-clause-none c = λ parts rel index x y e. c.in-None.ensures.none rel index x y (atom_is parts c.args.self.now c.in-Leaf.leaf c.in-Leaf.is rel index x y e)

pub returns-in_default-clause-none : goal.returns-in_default-clause-none
returns-in_default-clause-none c = λ parts. no_atom parts c.args.self.now c.in_default.not-Leaf
