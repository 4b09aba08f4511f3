use Rattle.std.proofs.Common.{◌≡◌, drop, map}
use Rattle.std.specs.Prelude.{vec_items}
use Rattle.fort_tree_automata.specs.Marks.{marked_in_rows}
use Rattle.fort_tree_automata.proofs.states_of.marked_in_rows.Given as goal

abbrev pub invariant-loop-i : goal.invariant-loop-i
invariant-loop-i l = marked_in_rows (map vec_items (drop l.i l.rows)) (drop l.i l.states) ≡ marked_in_rows (map vec_items l.rows) l.states
