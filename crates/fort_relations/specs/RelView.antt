-- To believe: which relation of the definitions a relation of the program is.
use Rattle.fort_theory.specs.Cores as theory
use Rattle.fort_relations.specs.declared.relation.Rel.{Rel}
use Rattle.fort_relations.specs.declared.relation.Rel.TheVariants.{Eq, Root, Below, Step, Par, Plus, Star, Conv}

abbrev pub as_rel : Rel → theory.Rel
as_rel Eq = theory.Eq
as_rel Root = theory.Root
as_rel Below = theory.Below
as_rel Step = theory.Step
as_rel Par = theory.Par
as_rel Plus = theory.Plus
as_rel Star = theory.Star
as_rel Conv = theory.Conv
