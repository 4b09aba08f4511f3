use Rattle.fort_relations.specs.RexView.{as_expression, node_count}
use Rattle.fort_relation_exprs.proofs.compiling.+compile_within.Given as goal

abbrev pub decreases-compile_within : goal.decreases-compile_within
decreases-compile_within l = node_count (as_expression l.rex.now)
