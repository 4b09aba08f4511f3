-- What goes by the keys of an operand goes by the keys of the operand that is lent.
use Rattle.std.proofs.Common.{◌≡◌, ℕ, Bool, false, true, sym, subst}
use Rattle.fort_theory.specs.Signatures.{Signature}
use Rattle.fort_tables.specs.Tuples.{TupleSymbol}
use Rattle.fort_tables.specs.Tables.{Table}
use Rattle.fort_tables.specs.LabelRules.{label_of}
use Rattle.fort_tables.specs.Projections.{project_rule}
use Rattle.fort_tables.specs.ManyLabels.{many_rule}
use Rattle.fort_tables.specs.Products.{signature_of, product_rule}
use Rattle.fort_classes.specs.Keys.{GoesByEachKey}
use Rattle.fort_label_keys.specs.ViewKeys.{keys_by}
use Rattle.fort_products.specs.Operands.{operand_of}
use Rattle.fort_products.specs.declared.operand.Operand.{Operand}
use Rattle.fort_product_keys.specs.ProgramViews.{view_of, key_of}
use Rattle.fort_projection_keys.specs.ProjectionViews.{projection_view, key_in_view}

module _ {T : Type 0} (table : T → Table) (number : T → TupleSymbol → ℕ → ℕ) (leader : T → ℕ → ℕ → ℕ) where
  abbrev GoesProjected : Signature → T → T → ℕ → ℕ → Type 0
  GoesProjected sig own lent c d =
      GoesByEachKey sig (project_rule (table own) c).columns (label_of (project_rule (table own) c)) (keys_by (projection_view (number lent) (table lent) d) (key_in_view (table lent) (leader lent) d false))

  -- Result: of a projection
  pub goes_projected : (sig : Signature) (body own lent : T) (column c d : ℕ) → own ≡ body → lent ≡ body → c ≡ column → d ≡ column → sig ≡ (table body).signature
      → GoesProjected (table body).signature body body column column → GoesProjected sig own lent c d
  goes_projected sig body own lent column c d own_is lent_is c_is d_is sig_is h =
      subst (λ (x : Signature). GoesProjected x own lent c d) (sym sig_is)
      (subst (λ (x : T). GoesProjected (table body).signature x lent c d) (sym own_is)
      (subst (λ (x : T). GoesProjected (table body).signature body x c d) (sym lent_is)
      (subst (λ (k : ℕ). GoesProjected (table body).signature body body k d) (sym c_is)
      (subst (λ (k : ℕ). GoesProjected (table body).signature body body column k) (sym d_is) h))))

  abbrev GoesMany : Signature → T → T → ℕ → ℕ → (ℕ → Bool) → Type 0
  GoesMany sig own lent c d many =
      GoesByEachKey sig (many_rule (table own) c many).columns (label_of (many_rule (table own) c many)) (keys_by (projection_view (number lent) (table lent) d) (key_in_view (table lent) (leader lent) d true))

  -- Result: of "infinitely many"
  pub goes_many : (sig : Signature) (body own lent : T) (column c d : ℕ) (many : ℕ → Bool) → own ≡ body → lent ≡ body → c ≡ column → d ≡ column → sig ≡ (table body).signature
      → GoesMany (table body).signature body body column column many → GoesMany sig own lent c d many
  goes_many sig body own lent column c d many own_is lent_is c_is d_is sig_is h =
      subst (λ (x : Signature). GoesMany x own lent c d many) (sym sig_is)
      (subst (λ (x : T). GoesMany (table body).signature x lent c d many) (sym own_is)
      (subst (λ (x : T). GoesMany (table body).signature body x c d many) (sym lent_is)
      (subst (λ (k : ℕ). GoesMany (table body).signature body body k d many) (sym c_is)
      (subst (λ (k : ℕ). GoesMany (table body).signature body body column k many) (sym d_is) h))))

  abbrev GoesJoined : Signature → ℕ → Operand T → Operand T → ℕ → Operand T → Operand T → Type 0
  GoesJoined sig n first second m one other =
      GoesByEachKey sig n (label_of (product_rule n (operand_of table first) (operand_of table second))) (keys_by (view_of table number one other m) (key_of table leader one other))

  -- Result: of a product
  pub goes_joined : (sig : Signature) (n m : ℕ) (first second one other : Operand T) → m ≡ n → one ≡ first → other ≡ second → sig ≡ signature_of (operand_of table first) (operand_of table second)
      → GoesJoined (signature_of (operand_of table first) (operand_of table second)) n first second n first second → GoesJoined sig n first second m one other
  goes_joined sig n m first second one other m_is one_is other_is sig_is h =
      subst (λ (x : Signature). GoesJoined x n first second m one other) (sym sig_is)
      (subst (λ (k : ℕ). GoesJoined (signature_of (operand_of table first) (operand_of table second)) n first second k one other) (sym m_is)
      (subst (λ (o : Operand T). GoesJoined (signature_of (operand_of table first) (operand_of table second)) n first second n o other) (sym one_is)
      (subst (λ (o : Operand T). GoesJoined (signature_of (operand_of table first) (operand_of table second)) n first second n first o) (sym other_is) h)))
