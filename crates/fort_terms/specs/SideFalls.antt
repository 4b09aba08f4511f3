-- Law: a measure of sides that falls from a list to its elements.
use Rattle.std.specs.Prelude.{◌≤◌, List, [], ◌∷◌}
use Rattle.std.proofs.Common.{arith}
use Rattle.fort_terms.specs.declared.side.Side.{Side}
use Rattle.fort_terms.specs.declared.side.Side.TheVariants.{Var, App}
use Rattle.fort_terms.specs.declared.side.Sides.TheDeep.{deep-Side}
use Rattle.fort_terms.specs.SideView.{as_side, as_sides, node_count, node_counts}
use denote.Param.Weighed.{most}

pub deep_below : (s : Side) → deep-Side s ≤ node_count (as_side s)
deep_below (Var v) = omega arith
deep_below (App f ss) = omega arith

pub most_below : (ss : List Side) → most deep-Side ss ≤ node_counts (as_sides ss)
most_below [] = omega arith
most_below (s ∷ ss) = omega (arith, deep_below s, most_below ss)
