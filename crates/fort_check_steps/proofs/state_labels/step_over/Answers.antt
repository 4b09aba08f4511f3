use Rattle.std.proofs.Common.{◌≤◌, ℕ, List, length, ap, sym, subst, ◌∙◌, arith}
use Rattle.fort_tables.specs.Labels.{IsOverLabels}
use Rattle.fort_tables.specs.LabelRules.{label_of, entry_label}
use Rattle.fort_check_steps.proofs.KidLaws.{over_numbered, numbered_label, kid_labels}
use Rattle.fort_check_steps.proofs.state_labels.step_over.Goals as goal

pub step-requires-clause-over : goal.step-requires-clause-over
step-requires-clause-over g c =
    let r = g.R.LocalRule.rule c.args.rule.now in
    let e = c.args.row.now in
    let ls = c.args.sparse.now.labels in
    let noted = c.note_kids.ensures.noted ∙ c.kids-states.ensures.states in
    let states = c.kids-states.ensures.states in
    let n = length c.kids-states.result.now in
    let few : n ≤ 8 = omega (arith, c.kids-states.ensures.few) in
    subst (λ (ws : List (List ℕ)). IsOverLabels r.signature r.columns (label_of r) ws c.new-numbered.result) (sym (c.note_kids.ensures.kids.labels ∙ ap (kid_labels ls) noted))
    (over_numbered r.signature r.columns (label_of r) ls e c.new-numbered.result n c.requires.over few (sym (ap length states)) (c.new-numbered.ensures.symbol ∙ c.sym.ensures) c.new-numbered.ensures.kids)

pub returns-clause-label : goal.returns-clause-label
returns-clause-label g c =
    let r = g.R.LocalRule.rule c.args.rule.now in
    let e = c.args.row.now in
    let ls = c.args.sparse.now.labels in
    let noted = c.note_kids.ensures.noted ∙ c.kids-states.ensures.states in
    let states = c.kids-states.ensures.states in
    let n = length c.kids-states.result.now in
    let few : n ≤ 8 = omega (arith, c.kids-states.ensures.few) in
    c.step.ensures
    ∙ (ap (λ ws. entry_label r ws c.new-numbered.result) (c.note_kids.ensures.kids.labels ∙ ap (kid_labels ls) noted)
    ∙ numbered_label r ls e c.new-numbered.result n few (sym (ap length states)) (c.new-numbered.ensures.symbol ∙ c.sym.ensures) c.new-numbered.ensures.kids)
