use Rattle.std.proofs.lemmas.Result.{IfOk-weaker}
use Rattle.fort_callers.proofs.cert_checker.verdict.Goals as goal

pub returns-clause-outcome : goal.returns-clause-outcome
returns-clause-outcome c = c.check.ensures.outcome _ _ _ c.in_ok-checker.ensures

pub returns-clause-truth : goal.returns-clause-truth
returns-clause-truth c = IfOk-weaker c.check.result _ _ (λ b truth. truth _ _ _ c.in_ok-checker.ensures) c.check.ensures.truth
