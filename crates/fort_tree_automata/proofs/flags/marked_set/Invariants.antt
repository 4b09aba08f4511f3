use Rattle.fort_tree_automata.proofs.SetLaws.{HasMarked}
use Rattle.fort_tree_automata.proofs.flags.marked_set.Given as goal

abbrev pub invariant-loop-state : goal.invariant-loop-state
invariant-loop-state l = HasMarked l.flags l.found.keys l.state
