use Rattle.std.proofs.Common.{◌∙◌, ap, Err}
use Rattle.std.proofs.lemmas.Result.{err_from_is_err_and}
use Rattle.fort_theory.specs.Sides.{variables_among}
use Rattle.fort_terms.specs.SideView.{as_sides}
use Rattle.fort_callers.proofs.OneRuleLaws.{only_memory}
use Rattle.fort_callers.proofs.terms.system.Goals as goal

pub returns-in_err-push-clause-memory : goal.returns-in_err-push-clause-memory
returns-in_err-push-clause-memory c =
    let p = err_from_is_err_and c.from_residual-in_err-push.result c.from_residual-in_err-push.ensures.1 in
    let fault = c.in_err-push.ensures in
    let one = ap variables_among (c.new-2.ensures ∙ ap as_sides c.in_ok-vec.ensures.items) in
    let none = ap variables_among (c.new-4.ensures ∙ ap as_sides c.new-3.ensures.items) in
    rw (p.1, p.2) (only_memory _ _ 0 c.in_err-push.field-0.0 one none (λ v e. fault.left_repeats v (ap Err e))
    (λ v e. (fault.right_repeats v (ap Err e)).1) (λ v e. (fault.shares v (ap Err e)).2))
