-- Over one column, a product of a table and a complement accepts what the table accepts and the complemented one doesn't.
use Rattle.std.proofs.Common.{◌≡◌, ℕ, List, [], ◌∷◌, length, Decides, IsTrue, refl, sym, subst, arith}
use Rattle.fort_theory.specs.Logic.{Connective, And}
use Rattle.fort_theory.specs.Signatures.{Signature}
use Rattle.fort_tables.specs.Tuples.{Tuple, IsTuple}
use Rattle.fort_tables.specs.Tables.{Table}
use Rattle.fort_tables.specs.Labels.{HaveLabels}
use Rattle.fort_tables.specs.LabelRules.{label_of, IsTableBy}
use Rattle.fort_tables.specs.Selections.{selected}
use Rattle.fort_tables.specs.Products.{Operand, OfTable, product_rule, product_accepts}
use Rattle.fort_tables.specs.OperationTruth.{TestsRelation, Complement, accepts, said_by}
use Rattle.fort_tables.proofs.TableTruth.{tests_by_label}

-- the table of a product
abbrev pub IsProduct : Signature → ℕ → Connective → Operand → Operand → Table → Type 0
IsProduct sig n op first second table = IsTableBy sig n (label_of (product_rule n first second)) (product_accepts op first second) table

-- what a product is of, by equations
pub record AreParts (s z : Signature) (n m : ℕ) (op or : Connective) (f x q y : Operand) : Type 0 where
  pub signature_is : s ≡ z
  pub columns_are : n ≡ m
  pub connective : op ≡ or
  pub first_is : f ≡ x
  pub second_is : q ≡ y

pub product_of_parts : (s z : Signature) (n m : ℕ) (op or : Connective) (f x q y : Operand) (table : Table) → AreParts s z n m op or f x q y
    → IsProduct s n op f q table → IsProduct z m or x y table
product_of_parts s z n m op or f x q y table e made =
    subst (λ (T : Type 0). T) (λ i. IsProduct (e.signature_is i) (e.columns_are i) (e.connective i) (e.first_is i) (e.second_is i) table) made

pub labels_of_parts : (s z : Signature) (n m : ℕ) (op or : Connective) (f x q y : Operand) (count : ℕ) (ts : List Tuple) → AreParts s z n m op or f x q y
    → HaveLabels s n (label_of (product_rule n f q)) count ts → HaveLabels z m (label_of (product_rule m x y)) count ts
labels_of_parts s z n m op or f x q y count ts e have =
    subst (λ (T : Type 0). T) (λ i. HaveLabels (e.signature_is i) (e.columns_are i) (label_of (product_rule (e.columns_are i) (e.first_is i) (e.second_is i))) count ts) have

one_column : (t : Tuple) → length t ≡ 1 → selected (0 ∷ []) t ≡ t
one_column [] e = absurd (omega arith)
one_column (x ∷ []) e = refl
one_column (x ∷ y ∷ t) e = absurd (omega arith)

pub difference_tests : (sig : Signature) (first second complement product : Table) → second.signature ≡ sig → second.columns ≡ 1
    → TestsRelation second.signature second.columns (accepts complement) (Complement (λ s. IsTrue (accepts second s)))
    → TestsRelation sig 1 (λ t. product_accepts And (OfTable first (0 ∷ [])) (OfTable complement (0 ∷ []))
    (label_of (product_rule 1 (OfTable first (0 ∷ [])) (OfTable complement (0 ∷ []))) t))
    (λ t. IsTrue (said_by (OfTable first (0 ∷ [])) t) × IsTrue (said_by (OfTable complement (0 ∷ [])) t))
    → IsProduct sig 1 And (OfTable first (0 ∷ [])) (OfTable complement (0 ∷ [])) product
    → TestsRelation sig 1 (accepts product) (λ s. IsTrue (accepts first s) × (IsTrue (accepts second s) → ⊥))
difference_tests sig first second complement product same one turned both made t is full =
    let F = OfTable first (0 ∷ []) in
    let C = OfTable complement (0 ∷ []) in
    let own = tests_by_label sig 1 (label_of (product_rule 1 F C)) (product_accepts And F C) product (λ s. IsTrue (said_by F s) × IsTrue (said_by C s)) made both t is full in
    let d : Decides (accepts product t) (IsTrue (accepts first t) × IsTrue (accepts complement t)) =
    subst (λ (s : Tuple). Decides (accepts product t) (IsTrue (accepts first s) × IsTrue (accepts complement s))) (one_column t is.width) own in
    let there : IsTuple second.signature second.columns t =
    subst (λ (n : ℕ). IsTuple second.signature n t) (sym one) (subst (λ (z : Signature). IsTuple z 1 t) (sym same) is) in
    let e = turned t there full in
    ((λ y. let p = d.0 y in (p.0, e.0 p.1)), (λ p. d.1 (p.0, e.1 p.1)))
