-- The table that right targets make by a rule of labels is one by the labels.
use Rattle.std.proofs.Common.{◌≡◌, ℕ, List, sym, ◌∙◌, subst}
use Rattle.std.specs.Prelude.{Decides}
use Rattle.fort_theory.specs.Signatures.{Signature}
use Rattle.fort_tables.specs.Tuples.{Tuple, IsTuple, IsFull}
use Rattle.fort_tables.specs.Entries.{Entry}
use Rattle.fort_tables.specs.Tables.{Table, listed_table}
use Rattle.fort_tables.specs.LabelRules.{IsLabelRule, label_of, IsTableBy}
use Rattle.fort_parts.proofs.AtomAnswers.{AcceptsExactly}
use Rattle.fort_tables.specs.OperationTruth.{accepts}
use Rattle.fort_certificate_theory.specs.PartSteps.{IsRightPart, part_table}
use Rattle.fort_certificate_theory.specs.PartRules.{Local}
use Rattle.fort_certificate_theory.proofs.PartByLabels.{part_by_labels}

-- the table is made of right targets by this rule
pub record IsMadeBy (local : Local) (table : Table) : Type 0 where
  pub targets : List ℕ
  pub entries : List Entry
  pub labels : List (List ℕ)
  pub right : IsRightPart local.rule targets entries labels
  pub is : listed_table (part_table local.rule local.accepting entries targets labels) ≡ table

abbrev pub IsTableByLocal : Signature → ℕ → Local → Table → Type 0
IsTableByLocal sig columns local table = IsTableBy sig columns (label_of local.rule) local.accepting table

pub IsTableBy-made : (local : Local) (table : Table) → IsLabelRule local.rule → IsMadeBy local table → IsTableByLocal local.rule.signature local.rule.columns local table
IsTableBy-made local table law h =
    subst (IsTableByLocal local.rule.signature local.rule.columns local) h.is (part_by_labels local.rule local.accepting h.targets h.entries h.labels law h.right)

-- what its labels accept
pub AcceptsExactly-by : (sig : Signature) (columns : ℕ) (local : Local) (table : Table) (P : Tuple → Type 0) → IsTableByLocal sig columns local table
    → ((t : Tuple) → IsTuple sig columns t → IsFull t → Decides (local.accepting (label_of local.rule t)) (P t)) → AcceptsExactly sig columns table P
AcceptsExactly-by sig columns local table P by exactly t is full =
    let d = exactly t is full in
    let e : accepts table t ≡ local.accepting (label_of local.rule t) = by.full t is full in
    ((λ h. d.0 (sym e ∙ h)), (λ p. e ∙ d.1 p))
