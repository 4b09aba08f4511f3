use Rattle.std.proofs.Common.{◌≡◌, map, length}
use Rattle.fort_certificate_theory.specs.Dues.{is_merged_in}
use Rattle.fort_steps.specs.StepView.{as_step}
use Rattle.fort_cert_checker.proofs.about.is_merged.Given as goal

-- the steps that are left decide
abbrev pub invariant-steps : goal.invariant-steps
invariant-steps l = is_merged_in (map as_step l.steps) l.k ≡ is_merged_in (map as_step l.rest) l.k

abbrev pub decreases-steps : goal.decreases-steps
decreases-steps l = length l.rest
