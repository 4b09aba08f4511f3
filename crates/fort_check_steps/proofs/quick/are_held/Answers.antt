use Rattle.std.proofs.Common.{sym, subst}
use Rattle.fort_tables.specs.Labels.{AreLabels}
use Rattle.fort_tables.specs.LabelRules.{label_of}
use Rattle.fort_check_steps.proofs.quick.are_held.Goals as goal

pub are_targets-requires-clause-labels : goal.are_targets-requires-clause-labels
are_targets-requires-clause-labels g c =
    let r = g.R.LocalRule.rule c.args.rule.now in
    subst (AreLabels r.signature r.columns (label_of r)) (sym c.in-Some.ensures) c.requires.labels
