use Rattle.std.proofs.Common.{map, length, ap, arith}
use Rattle.fort_certificate_theory.specs.Certificates as theory
use Rattle.fort_steps.specs.StepView.{as_step}
use Rattle.fort_cert_checker.proofs.FrontLaws.{only_some}
use Rattle.fort_cert_checker.proofs.AboutLaws.{few_classes}
use Rattle.fort_cert_checker.proofs.about.classes_of.Goals as goal

pub returns-in-Some-clause-few : goal.returns-in-Some-clause-few
returns-in-Some-clause-few c = λ few.
    omega (arith, ap length c.classes_in.ensures, few_classes (map as_step c.args.steps.now) c.args.k (as_step c.in-Some.step.now) c.in-Some.ensures.some few)

pub returns-in-None-clause-own : goal.returns-in-None-clause-own
returns-in-None-clause-own c = λ classes only. absurd (only_some (map as_step c.args.steps.now) (theory.Merge c.args.k classes) only c.in-None.ensures.none)
