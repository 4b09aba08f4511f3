use Rattle.std.proofs.Common.{◌≡◌, ◌+◌, ◌<◌}
use Rattle.fort_certificate_theory.specs.PartSteps.{states_before}
use Rattle.fort_check_steps.proofs.room.states_named.Given as goal

abbrev pub invariant-loop-target : goal.invariant-loop-target
invariant-loop-target l = record {
  first : l.target-index ≡ 0 → l.most ≡ 0;
  later : 0 < l.target-index → l.most + 1 ≡ states_before l.targets l.target-index;
}
