use Rattle.std.proofs.Common.{map}
use Rattle.fort_steps.specs.StepView.{as_step}
use Rattle.fort_cert_checker.specs.Makings.{AreMergesMade}
use Rattle.fort_cert_checker.proofs.about.merged_parts.Given as goal

abbrev pub invariant-loop-k : goal.invariant-loop-k
invariant-loop-k l = AreMergesMade (map as_step l.steps) l.k l.merges.items
