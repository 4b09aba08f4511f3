use Rattle.std.proofs.Common.{◌≡◌, drop}
use Rattle.fort_check_steps.specs.SparseWords.{scattered}
use Rattle.fort_check_steps.proofs.sparse_rows.scatter.Given as goal

abbrev pub invariant-loop-k : goal.invariant-loop-k
invariant-loop-k l = scattered l.out (drop l.k l.places) (drop l.k l.words) ≡ scattered l.initial.out l.places l.words
