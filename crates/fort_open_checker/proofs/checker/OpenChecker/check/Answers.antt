use Rattle.std.proofs.Common.{refl, sym, ap, ◌∙◌}
use Rattle.fort_steps.specs.OpenView.{as_claim}
use Rattle.fort_open_checker.proofs.OpenLaws.{failing_step, checker_kept, behind_steps}
use Rattle.fort_open_checker.proofs.OpenTruths.{truths}
use Rattle.fort_open_checker.proofs.checker.OpenChecker.check.Goals as goal

pub check-requires : goal.check-requires
check-requires c = let r = c.requires in (r.0, r.1, r.2.first, r.2.steps, r.3.steps)

pub returns-in-Err-clause-outcome : goal.returns-in-Err-clause-outcome
returns-in-Err-clause-outcome c = λ system f own h. failing_step system f own c.in-Err.rejected (c.in-Err.ensures.failing system f own.first own.steps h.steps)

pub returns-in-Err-clause-again : goal.returns-in-Err-clause-again
returns-in-Err-clause-again c = λ system f own h.
    checker_kept system f own c.args.self.now _ refl (c.check.ensures.again system f own.first own.steps h.steps) (c.check.ensures.room _ _ h.whole) (λ n room. room) h

pub check_found-requires : goal.check_found-requires
check_found-requires c =
    let r = c.requires in
    let d = c.in_default.ensures.fine r.0 r.1 r.2.first r.2.steps r.3.steps in
    (r.0, r.1, r.2, d.0, behind_steps r.0 r.1 r.2 c.args.self.now _ refl d.0 d.1 (c.check.ensures.room _ _ r.3.whole) (λ n room. room) r.3)

pub check_empty-requires : goal.check_empty-requires
check_empty-requires c =
    let r = c.requires in
    let d = c.in_default.ensures.fine r.0 r.1 r.2.first r.2.steps r.3.steps in
    (r.0, r.1, r.2, d.0, behind_steps r.0 r.1 r.2 c.args.self.now _ refl d.0 d.1 (c.check.ensures.room _ _ r.3.whole) (λ n room. room) r.3)

pub returns-in-Found-clause-outcome : goal.returns-in-Found-clause-outcome
returns-in-Found-clause-outcome c = λ system f own h.
    let d = c.in_default.ensures.fine system f own.first own.steps h.steps in
    c.check_found.ensures.outcome system f own d.0 (behind_steps system f own c.args.self.now _ refl d.0 d.1 (c.check.ensures.room _ _ h.whole) (λ n room. room) h)
    (sym (ap (λ k. k.claim) h.certificate_is) ∙ ap as_claim c.in-Found.is)

pub returns-in-Found-clause-again : goal.returns-in-Found-clause-again
returns-in-Found-clause-again c = λ system f own h.
    c.check_found.ensures.again system f own
    (checker_kept system f own c.args.self.now _ refl (c.check.ensures.again system f own.first own.steps h.steps) (c.check.ensures.room _ _ h.whole) (λ n room. room) h)

pub returns-in-Empty-clause-outcome : goal.returns-in-Empty-clause-outcome
returns-in-Empty-clause-outcome c = λ system f own h.
    let d = c.in_default.ensures.fine system f own.first own.steps h.steps in
    c.check_empty.ensures system f own d.0 (behind_steps system f own c.args.self.now _ refl d.0 d.1 (c.check.ensures.room _ _ h.whole) (λ n room. room) h)
    (sym (ap (λ k. k.claim) h.certificate_is) ∙ ap as_claim c.in-Empty.is)

pub returns-in-Empty-clause-again : goal.returns-in-Empty-clause-again
returns-in-Empty-clause-again c = λ system f own h.
    checker_kept system f own c.args.self.now _ refl (c.check.ensures.again system f own.first own.steps h.steps) (c.check.ensures.room _ _ h.whole) (λ n room. room) h

pub returns-in-Found-clause-truth : goal.returns-in-Found-clause-truth
returns-in-Found-clause-truth c = truths c.args.self.now c.check_found.result (λ system f own h.
    let d = c.in_default.ensures.fine system f own.first own.steps h.steps in
    c.check_found.ensures.outcome system f own d.0 (behind_steps system f own c.args.self.now _ refl d.0 d.1 (c.check.ensures.room _ _ h.whole) (λ n room. room) h)
    (sym (ap (λ k. k.claim) h.certificate_is) ∙ ap as_claim c.in-Found.is))

pub returns-in-Empty-clause-truth : goal.returns-in-Empty-clause-truth
returns-in-Empty-clause-truth c = truths c.args.self.now c.check_empty.result (λ system f own h.
    let d = c.in_default.ensures.fine system f own.first own.steps h.steps in
    c.check_empty.ensures system f own d.0 (behind_steps system f own c.args.self.now _ refl d.0 d.1 (c.check.ensures.room _ _ h.whole) (λ n room. room) h)
    (sym (ap (λ k. k.claim) h.certificate_is) ∙ ap as_claim c.in-Empty.is))
