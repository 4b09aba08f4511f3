use Rattle.std.proofs.lemmas.Result.{err_from_is_err_and}
use Rattle.fort_cert_checker.proofs.CheckLaws.{rejected, has_value, judged, truths}
use Rattle.fort_cert_checker.proofs.checker.Checker.check.Goals as goal

pub check-requires : goal.check-requires
check-requires c = let r = c.requires in (r.0, r.1, r.2.first, r.2.steps, r.3.steps)

pub returns-in_err-check-clause-outcome : goal.returns-in_err-check-clause-outcome
returns-in_err-check-clause-outcome c = λ system f own h.
    let p = err_from_is_err_and c.from_residual.result c.from_residual.ensures.1 in
    rw (p.1, p.2) (rejected system f own c.in_err-check.field-0.0 (c.in_err-check.ensures.failing system f own.first own.steps h.steps))

pub verdict_of-requires : goal.verdict_of-requires
verdict_of-requires c =
    let r = c.requires in
    let d = c.in_ok-check.ensures.fine r.0 r.1 r.2.first r.2.steps r.3.steps in
    has_value r.0 r.1 r.2 c.args.self.now r.3 _ d.0 d.1

pub returns-clause-outcome : goal.returns-clause-outcome
returns-clause-outcome c = λ system f own h.
    let d = c.in_ok-check.ensures.fine system f own.first own.steps h.steps in
    judged system f own c.args.self.now h c.check.new.self d.0 d.1 c.verdict_of.result c.verdict_of.ensures.verdict c.verdict_of.ensures.same c.verdict_of.ensures.other c.verdict_of.ensures.header

pub returns-clause-truth : goal.returns-clause-truth
returns-clause-truth c = truths c.args.self.now c.verdict_of.result (λ system f own h.
    let d = c.in_ok-check.ensures.fine system f own.first own.steps h.steps in
    judged system f own c.args.self.now h c.check.new.self d.0 d.1 c.verdict_of.result c.verdict_of.ensures.verdict c.verdict_of.ensures.same c.verdict_of.ensures.other c.verdict_of.ensures.header)
