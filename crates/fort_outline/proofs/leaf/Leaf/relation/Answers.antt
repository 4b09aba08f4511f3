use Rattle.std.proofs.Common.{ap}
use Rattle.fort_outline.specs.LeafView.{as_atom}
use Rattle.fort_outline.proofs.RootLaws.{no_relation}
use Rattle.fort_outline.proofs.leaf.Leaf.relation.Goals as goal

pub returns-in-Related-clause-some : goal.returns-in-Related-clause-some
returns-in-Related-clause-some c = (c.in-Related.field-2, c.in-Related.field-3, ap as_atom c.in-Related.is)

pub returns-in_default-clause-none : goal.returns-in_default-clause-none
returns-in_default-clause-none c = no_relation c.args.self.now c.in_default.not-Related
