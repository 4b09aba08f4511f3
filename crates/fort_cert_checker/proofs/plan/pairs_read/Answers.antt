use Rattle.std.proofs.Common.{map, refl}
use Rattle.fort_relations.specs.RelView.{as_rel}
use Rattle.fort_findings.specs.FindingView.{as_which}
use Rattle.fort_steps.specs.StepView.{as_step}
use Rattle.fort_cert_checker.proofs.ReadPairs.{IsClosureRead-told, IsClosureRead-none}
use Rattle.fort_cert_checker.proofs.plan.pairs_read.Goals as goal

pub returns-in-Some : goal.returns-in-Some
returns-in-Some c =
    IsClosureRead-told (map as_step c.args.steps.now) (as_which c.in-Some.which) (as_rel c.args.rel) c.args.index c.closure_pairs.result.now c.in-Some.ensures.some c.closure_pairs.ensures

pub returns-in-None : goal.returns-in-None
returns-in-None c = IsClosureRead-none (map as_step c.args.steps.now) (as_rel c.args.rel) c.args.index _ c.in-None.ensures.none refl
