use Rattle.std.proofs.Common.{map, length, ap, arith}
use Rattle.fort_certificate_theory.specs.Certificates as theory
use Rattle.fort_steps.specs.StepView.{as_step}
use Rattle.fort_cert_checker.proofs.FrontLaws.{only_some}
use Rattle.fort_cert_checker.proofs.AboutLaws.{few_first}
use Rattle.fort_cert_checker.proofs.about.targets_of.Goals as goal

pub returns-in-Some-clause-few : goal.returns-in-Some-clause-few
returns-in-Some-clause-few c = λ few.
    omega (arith, ap length c.targets_in.ensures, few_first (map as_step c.args.steps.now) c.args.k (as_step c.in-Some.step.now) c.in-Some.ensures.some few)

pub returns-in-Some-clause-first : goal.returns-in-Some-clause-first
returns-in-Some-clause-first c = λ some. (as_step c.in-Some.step.now, c.in-Some.ensures.some, c.targets_in.ensures)

pub returns-in-None-clause-own : goal.returns-in-None-clause-own
returns-in-None-clause-own c = λ targets only. absurd (only_some (map as_step c.args.steps.now) (theory.Part c.args.k targets) only c.in-None.ensures.none)
