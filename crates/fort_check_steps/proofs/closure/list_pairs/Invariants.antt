use Rattle.std.proofs.Common.{◌≡◌, map, length}
use Rattle.fort_findings.specs.FindingView.{as_pair}
use Rattle.fort_certificate_theory.specs.ClosureSteps.{ClosureRules}
use Rattle.fort_check_steps.specs.PairSteps.{IsPairRules, AreTaken}
use Rattle.fort_check_steps.proofs.closure.list_pairs.Given as goal

abbrev pub invariant-pairs : goal.invariant-pairs
invariant-pairs l = record {
  taken : (c : ClosureRules) → IsPairRules c l.rules → AreTaken c (map as_pair l.entries) l.place l.listed;
  size : length l.listed ≡ length l.initial.listed;
}
