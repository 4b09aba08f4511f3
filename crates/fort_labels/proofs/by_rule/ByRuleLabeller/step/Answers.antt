use Rattle.fort_tables.proofs.LabelRuleLaws.{GivesLabel-rule}
use Rattle.fort_labels.proofs.by_rule.ByRuleLabeller.step.Goals as goal

pub returns-clause-gives : goal.returns-clause-gives
returns-clause-gives g c sig is over = GivesLabel-rule sig _ (g.R.LocalRule.rule c.args.self.now.0.now) c.args.rows.now.labels c.args.row.now c.step.new.out c.step.ensures
