use Rattle.std.proofs.Common.{◌≡◌, ℕ, ◌-◌, length}
use Rattle.fort_tree_automata.specs.Marks.{after_passes, with_silent}
use Rattle.fort_tree_automata.proofs.MarksLaws.{trues}
use Rattle.fort_tree_automata.proofs.flags.settle.Given as goal

abbrev pub invariant-loop-before : goal.invariant-loop-before
invariant-loop-before l = (k : ℕ) × (l.flags.items ≡ after_passes (with_silent l.silent) k l.initial.flags.items) × (length l.flags.items ≡ length l.initial.flags.items)

abbrev pub decreases-loop-before : goal.decreases-loop-before
decreases-loop-before l = length l.initial.flags.items - trues l.flags.items
