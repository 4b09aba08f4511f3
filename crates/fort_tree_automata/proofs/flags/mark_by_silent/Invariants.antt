use Rattle.std.proofs.Common.{◌≡◌, drop}
use Rattle.fort_tree_automata.specs.Marks.{with_silent}
use Rattle.fort_tree_automata.proofs.flags.mark_by_silent.Given as goal

abbrev pub invariant-loop-from : goal.invariant-loop-from
invariant-loop-from l = with_silent (drop l.from-index l.silent) l.flags.items ≡ with_silent l.silent l.initial.flags.items
