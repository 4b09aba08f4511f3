use Rattle.std.proofs.Common.{◌+◌, ◌*◌, map, sym, ap, subst, ◌∙◌}
use Rattle.fort_tables.specs.BitRows.{words_for}
use Rattle.fort_steps.specs.StepView.{as_step}
use Rattle.fort_cert_checker.specs.declared.plan.Work.{Work}
use Rattle.fort_cert_checker.specs.Plans.{IsWidthFor}
use Rattle.fort_cert_checker.proofs.making.width_of.Goals as goal

pub returns-in-Projection : goal.returns-in-Projection
returns-in-Projection c =
    subst (λ (w : Work). IsWidthFor (map as_step c.args.steps.now) w c.project_width.result) (sym c.in-Projection.is)
    (λ n are. c.project_width.ensures ∙ ap (λ m. words_for m + 2) (c.states_of.ensures.states n are))

pub returns-in-Many : goal.returns-in-Many
returns-in-Many c =
    subst (λ (w : Work). IsWidthFor (map as_step c.args.steps.now) w c.many_width.result) (sym c.in-Many.is)
    (λ n are. c.many_width.ensures ∙ ap (λ m. words_for (2 * m) + 2) (c.states_of-in-Many.ensures.states n are))
