use Rattle.std.proofs.Common.{◌≡◌, ℕ, ◌<◌, get_or}
use Rattle.fort_context_closure.specs.TermNodes.{numbers_told}
use Rattle.fort_context_closure.proofs.term_labels.has_kids.Given as goal

abbrev pub invariant-loop-j : goal.invariant-loop-j
invariant-loop-j l = (k : ℕ) → k < l.j → get_or (numbers_told l.rows.labels l.row.kids) k 0 ≡ get_or l.node.kids k 0
