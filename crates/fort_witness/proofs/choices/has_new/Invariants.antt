use Rattle.std.proofs.Common.{ℕ, ◌<◌, List, length, get_or}
use Rattle.fort_witness.specs.Choices.{AreListed, lists_of, IsNodeOf}
use Rattle.fort_witness.proofs.choices.has_new.Given as goal

abbrev pub invariant-loop-j : goal.invariant-loop-j
invariant-loop-j l = (qs : List ℕ) → AreListed (length (lists_of l.lists)) qs (lists_of l.lists) → (i k : ℕ) → i < l.j → IsNodeOf qs (get_or l.states i 0) l.span.low l.span.end k → ⊥
