use Rattle.fort_tree_automata.proofs.SetLaws.{HasMarked-more}
use Rattle.fort_tree_automata.proofs.flags.marked_set.Goals as goal

pub loop-state-preserved : goal.loop-state-preserved
loop-state-preserved c =
    HasMarked-more c.args.flags.now c.loop-state.found.keys c.insert_marked.new.found.keys c.loop-state.state c.loop-state.invariant c.in_ok-insert_marked.ensures
