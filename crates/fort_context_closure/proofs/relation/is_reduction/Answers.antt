use Rattle.std.proofs.Common.{◌∙◌}
use Rattle.fort_relations.specs.RelView.{as_rel}
use Rattle.fort_context_closure.proofs.ClosureReads.{reaching_told}
use Rattle.fort_context_closure.proofs.relation.is_reduction.Goals as goal

pub returns : goal.returns
returns c = c.is_some.ensures ∙ reaching_told (as_rel c.args.rel) c.of.result c.of.ensures.some c.of.ensures.none
