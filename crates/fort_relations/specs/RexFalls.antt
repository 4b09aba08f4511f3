-- Law: the number of nodes of an expression falls from an expression to its operands.
use Rattle.std.specs.Prelude.{◌≤◌}
use Rattle.std.proofs.Common.{arith}
use Rattle.fort_relations.specs.declared.rex.Rex.{Rex}
use Rattle.fort_relations.specs.declared.rex.Rex.TheVariants.{Root, Inv, Union, Comp, Clos}
use Rattle.fort_relations.specs.declared.rex.RexArm.TheDeep.{deep-Rex}
use Rattle.fort_relations.specs.RexView.{as_expression, node_count}

pub deep_below : (r : Rex) → deep-Rex r ≤ node_count (as_expression r)
deep_below (Root index) = omega arith
deep_below (Inv e) = omega arith
deep_below (Union a b) = omega arith
deep_below (Comp a b) = omega arith
deep_below (Clos e) = omega arith
