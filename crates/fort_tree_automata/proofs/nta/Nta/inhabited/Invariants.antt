use Rattle.std.proofs.Common.{◌≡◌, ℕ, ◌-◌, length}
use Rattle.fort_tree_automata.specs.Marks.{after_passes, with_pass}
use Rattle.fort_tree_automata.proofs.MarksLaws.{trues}
use Rattle.fort_tree_automata.proofs.nta.Nta.inhabited.Given as goal

abbrev pub invariant-loop-flags : goal.invariant-loop-flags
invariant-loop-flags l = (k : ℕ) × (l.flags.items ≡ after_passes (with_pass l.self) k l.initial.flags.items) × (length l.flags.items ≡ l.self.states)

abbrev pub decreases-loop-flags : goal.decreases-loop-flags
decreases-loop-flags l = l.self.states - trues l.flags.items
