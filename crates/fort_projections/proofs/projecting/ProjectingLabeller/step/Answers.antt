use Rattle.std.proofs.Common.{◌-◌, subst}
use Rattle.fort_theory.specs.Signatures.{Signature}
use Rattle.fort_tables.specs.Labels.{IsOverLabels}
use Rattle.fort_tables.specs.LabelRules.{label_of}
use Rattle.fort_tables.specs.Projections.{project_rule}
use Rattle.fort_tables.proofs.LabelRuleLaws.{GivesLabel-rule}
use Rattle.fort_projections.proofs.ProjectEntries.{absent_entry}
use Rattle.fort_projections.proofs.projecting.ProjectingLabeller.step.Goals as goal

pub of-finder-requires-clause-some : goal.of-finder-requires-clause-some
of-finder-requires-clause-some g c =
    let p = c.args.self.now.0.now in
    let body = g.T.Table.table p.body.now in
    let labels = c.args.rows.now.labels in
    let served = c.requires.served in
    let over : IsOverLabels body.signature (body.columns - 1) (label_of (project_rule body p.column)) labels c.args.row.now =
    subst (λ (s : Signature). IsOverLabels s (body.columns - 1) (label_of (project_rule body p.column)) labels c.args.row.now) served.1 served.2 in
    (_, absent_entry body p.column labels c.args.row.now c.states-states.ensures.lawful c.states-states.ensures.reached (record { column = p.within; over = over }))

pub returns-clause-gives : goal.returns-clause-gives
returns-clause-gives g c sig is over =
    let p = c.args.self.now.0.now in
    let rule = project_rule (g.T.Table.table p.body.now) p.column in
    GivesLabel-rule sig rule.columns rule c.args.rows.now.labels c.args.row.now c.write_kept.new.out c.write_kept.ensures.label
