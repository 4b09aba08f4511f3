-- The table of a product whose parts are known by equations.
use Rattle.std.proofs.Common.{◌≡◌, ℕ, List, length, ap, sym, ◌∙◌, arith, subst}
use Rattle.fort_theory.specs.Signatures.{Signature}
use Rattle.fort_tables.specs.Tables.{Table}
use Rattle.fort_tables.specs.Labels.{IsTableOf}
use Rattle.fort_tables.specs.LabelRules.{label_of, IsTableBy}
use Rattle.fort_tables.specs.Selections.{ArePlaces}
use Rattle.fort_theory.specs.Logic.{Connective}
use Rattle.fort_tables.specs.Products.{Operand, IsOperand, OfTable, product_rule, product_accepts}
use Rattle.fort_tables.specs.OperationTruth.{IsOrder}

-- the same parts
pub record AreParts (s z : Signature) (n m : ℕ) (op or : Connective) (f x q y : Operand) : Type 0 where
  pub signature_is : s ≡ z
  pub columns_are : n ≡ m
  pub connective : op ≡ or
  pub first_is : f ≡ x
  pub second_is : q ≡ y

pub table_of_parts : (s z : Signature) (n m : ℕ) (op or : Connective) (f x q y : Operand) (table : Table) → AreParts s z n m op or f x q y → IsTableOf s n (label_of (product_rule n f q)) (product_accepts op f q) table → IsTableOf z m (label_of (product_rule m x y)) (product_accepts or x y) table
table_of_parts s z n m op or f x q y table e h =
    subst (λ (a : Signature). IsTableOf a m (label_of (product_rule m x y)) (product_accepts or x y) table) e.signature_is
    (subst (λ (a : ℕ). IsTableOf s a (label_of (product_rule a x y)) (product_accepts or x y) table) e.columns_are
    (subst (λ (a : Connective). IsTableOf s n (label_of (product_rule n x y)) (product_accepts a x y) table) e.connective
    (subst (λ (a : Operand). IsTableOf s n (label_of (product_rule n a y)) (product_accepts op a y) table) e.first_is
    (subst (λ (a : Operand). IsTableOf s n (label_of (product_rule n f a)) (product_accepts op f a) table) e.second_is h))))

pub table_by_parts : (s z : Signature) (n m : ℕ) (op or : Connective) (f x q y : Operand) (table : Table) → AreParts s z n m op or f x q y → IsTableBy s n (label_of (product_rule n f q)) (product_accepts op f q) table → IsTableBy z m (label_of (product_rule m x y)) (product_accepts or x y) table
table_by_parts s z n m op or f x q y table e h =
    subst (λ (a : Signature). IsTableBy a m (label_of (product_rule m x y)) (product_accepts or x y) table) e.signature_is
    (subst (λ (a : ℕ). IsTableBy s a (label_of (product_rule a x y)) (product_accepts or x y) table) e.columns_are
    (subst (λ (a : Connective). IsTableBy s n (label_of (product_rule n x y)) (product_accepts a x y) table) e.connective
    (subst (λ (a : Operand). IsTableBy s n (label_of (product_rule n a y)) (product_accepts op a y) table) e.first_is
    (subst (λ (a : Operand). IsTableBy s n (label_of (product_rule n f a)) (product_accepts op f a) table) e.second_is h))))

-- an order and its places
pub order_operand : (table : Table) (places : List ℕ) (order : List ℕ) → (o : IsOrder table.columns order) → places ≡ o.back → IsOperand table.signature table.columns (OfTable table places)
order_operand table places order o e =
    let at : ArePlaces table.columns o.back = λ k l. omega (arith, (o.undoes k l).0, o.count) in
    (λ i. table.signature, (ap length e ∙ o.back_count, subst (ArePlaces table.columns) (sym e) at))
