use Rattle.std.proofs.Common.{map, take}
use Rattle.std.specs.Prelude.{vec_items}
use Rattle.fort_theory.specs.Trees.{trees}
use Rattle.fort_tree_automata.specs.Marks.{AllMarkTaken}
use Rattle.fort_tree_automata.proofs.nta.Nta.+row.Given as goal

abbrev pub invariant-loop-kid : goal.invariant-loop-kid
invariant-loop-kid l = AllMarkTaken l.self (trees (take l.kid-index l.kid-items)) (map vec_items l.rows.items)
