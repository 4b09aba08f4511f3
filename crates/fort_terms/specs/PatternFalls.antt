-- Law: a measure of patterns that falls from a list to its elements.
use Rattle.std.specs.Prelude.{◌≤◌, List, [], ◌∷◌}
use Rattle.std.proofs.Common.{arith}
use Rattle.fort_terms.specs.declared.pattern.Pattern.{Pattern}
use Rattle.fort_terms.specs.declared.pattern.Pattern.TheVariants.{Any, App}
use Rattle.fort_terms.specs.declared.pattern.Patterns.TheDeep.{deep-Pattern}
use Rattle.fort_terms.specs.PatternView.{as_pattern, as_patterns, node_count, node_counts}
use denote.Param.Weighed.{most}

pub deep_below : (p : Pattern) → deep-Pattern p ≤ node_count (as_pattern p)
deep_below Any = omega arith
deep_below (App f ps) = omega arith

pub most_below : (ps : List Pattern) → most deep-Pattern ps ≤ node_counts (as_patterns ps)
most_below [] = omega arith
most_below (p ∷ ps) = omega (arith, deep_below p, most_below ps)
