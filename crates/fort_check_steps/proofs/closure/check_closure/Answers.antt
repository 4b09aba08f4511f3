use Rattle.std.proofs.Common.{map, sym, subst}
use Rattle.fort_findings.specs.FindingView.{as_pair}
use Rattle.fort_certificate_theory.specs.ClosureSteps.{IsClosureOutcome}
use Rattle.fort_check_steps.specs.StepAnswers.{outcome_of}
use Rattle.fort_check_steps.proofs.PairStepLaws.{IsClosureOutcome-closed, IsClosureOutcome-open}
use Rattle.fort_check_steps.proofs.closure.check_closure.Goals as goal

pub returns-in-None : goal.returns-in-None
returns-in-None c k rules =
    IsClosureOutcome-closed k c.args.rules.now rules (map as_pair c.args.entries.now) c.list_pairs.new.listed (c.in-Ok.ensures k rules) c.in-None.ensures.none

pub returns-in-Some : goal.returns-in-Some
returns-in-Some c k rules =
    subst (λ o. IsClosureOutcome k (map as_pair c.args.entries.now) (outcome_of o)) (sym c.failed.ensures)
    (IsClosureOutcome-open k c.args.rules.now rules (map as_pair c.args.entries.now) c.list_pairs.new.listed c.in-Some.place (c.in-Ok.ensures k rules) c.in-Some.ensures.some)
