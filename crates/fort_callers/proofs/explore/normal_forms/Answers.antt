use Rattle.std.proofs.Common.{ℕ, ◌∙◌, subst}
use Rattle.std.proofs.lemmas.Result.{IfOk-weaker}
use Rattle.fort_theory.specs.Signatures.{Signature}
use Rattle.fort_tables.specs.Tables.{listed_table}
use Rattle.fort_tables.specs.LabelRules.{IsTableBy}
use Rattle.fort_parts.proofs.AtomResults.{IsAnswerTo-Nf}
use Rattle.fort_context_closure.specs.AtomLabelsView.{label_by, accepted_by}
use Rattle.fort_context_closure.specs.SignedAtoms.{columns_by}
use Rattle.fort_callers.proofs.explore.normal_forms.Goals as goal

pub returns-clause-answer : goal.returns-clause-answer
returns-clause-answer c =
    let system = c.args.system.now in
    let sig = c.signature-signature.result.now in
    let labels = c.in_ok-normal.normal in
    let l = c.in_ok-normal.ensures in
    let same = c.signature-signature.ensures.same in
    let one = columns_by sig labels ∙ l.columns in
    IfOk-weaker c.explore.result _ _
    (λ t made.
    IsAnswerTo-Nf system (label_by system.signature labels) (accepted_by system.signature labels) (listed_table t) c.args.index 0 (λ u is full. l.accepted u is)
    (subst (λ (z : Signature). IsTableBy z 1 (label_by z labels) (accepted_by z labels) (listed_table t)) same
    (subst (λ (n : ℕ). IsTableBy sig n (label_by sig labels) (accepted_by sig labels) (listed_table t)) one made)))
    c.explore.ensures.table
