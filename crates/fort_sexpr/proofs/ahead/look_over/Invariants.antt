use Rattle.std.proofs.Common.{◌≤◌, ◌+◌, List, ℕ}
use Rattle.fort_sexpr.specs.Ahead.{IsTally, IsPieceAt}
use Rattle.fort_sexpr.proofs.ahead.look_over.Given as goal

abbrev pub invariant-loop-i : goal.invariant-loop-i
invariant-loop-i l = record {
  few : l.tally.lists ≤ l.from + l.i;
  tally : (text : List ℕ) → IsPieceAt text l.from l.piece → IsTally text l.from l.fn.tally → IsTally text (l.from + l.i) l.tally;
}
