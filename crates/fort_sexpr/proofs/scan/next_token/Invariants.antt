use Rattle.std.proofs.Common.{◌≡◌, ℕ, ◌<◌, ◌≤◌, ◌-◌, false, length}
use Rattle.fort_grammar.specs.Forms.{IsSkipped}
use Rattle.fort_sexpr.specs.Progress.{comment_before}
use Rattle.fort_sexpr.proofs.scan.next_token.Given as goal

abbrev pub invariant-loop-at : goal.invariant-loop-at
invariant-loop-at l =
    (l.from ≤ l.at) × (l.at ≤ length l.bytes) × ((k : ℕ) → l.from ≤ k → k < l.at → IsSkipped l.bytes k)
    × (l.at < length l.bytes → comment_before l.bytes l.at ≡ false)

abbrev pub decreases-loop-at : goal.decreases-loop-at
decreases-loop-at l = length l.bytes - l.at
