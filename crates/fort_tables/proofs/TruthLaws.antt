-- What is accepted, as relations: products, projections and cylinders.
use Rattle.std.proofs.Common.{◌≡◌, ◌↔◌, ℕ, ◌-◌, ◌<◌, List, length, Some, get_or, Bool, true, false, ◌&&◌, ◌||◌, not, if◌then◌else◌, Decides, IsTrue, refl, ap, sym, ◌∙◌, arith, subst}
use Rattle.std.specs.List.{insert}
use Rattle.fort_theory.specs.Signatures.{Signature}
use Rattle.fort_tables.specs.Tuples.{Tuple, IsFull, IsTuple}
use Rattle.fort_tables.specs.Tables.{Table, IsTable, IsReached, state_of}
use Rattle.fort_tables.specs.LabelRules.{label_of}
use Rattle.fort_tables.proofs.InsertLaws.{IsFull-insert}
use Rattle.fort_tables.specs.Selections.{selected}
use Rattle.fort_theory.specs.Logic.{Connective, And, Or, Iff, Connected}
use Rattle.fort_tables.specs.Products.{Operand, OfTable, OfTruth, IsOperand, IsLawful, operand_word, connected, operand_accepts, product_rule, product_accepts, state_at}
use Rattle.fort_tables.specs.Projections.{has_state, project_rule, project_accepts}
use Rattle.fort_tables.specs.OperationTruth.{TupleRelation, TestsRelation, accepts, Cylinder, said_by, SomeCompletes}
use Rattle.fort_tables.proofs.SearchLaws.{found_below, below_found, both, left, right}
use Rattle.fort_tables.proofs.CompletedTuples.{IsTuple-completed, completed_small}
use Rattle.fort_tables.proofs.ProjectLabels.{label_exact}
use Rattle.fort_tables.proofs.ProductLabels.{product_words, product_exact, full_word}

-- connectives
pub not_decides : (b : Bool) (A : Type 0) → Decides b A → Decides (not b) (A → ⊥)
not_decides true A h = ((λ e _. absurd cc), (λ k. absurd (k (h.0 refl))))
not_decides false A h = ((λ e a. let y : false ≡ true = h.1 a in absurd cc), (λ k. refl))

and_decides : (a b : Bool) (A B : Type 0) → Decides a A → Decides b B → Decides (a && b) (A × B)
and_decides a b A B h k = ((λ e. (h.0 (left a b e), k.0 (right a b e))), (λ y. both a b (h.1 y.0) (k.1 y.1)))

or_decides : (a b : Bool) (A B : Type 0) → Decides a A → Decides b B → Decides (a || b) ((A → ⊥) → (B → ⊥) → ⊥)
or_decides true b A B h k = ((λ e x y. x (h.0 refl)), (λ _. refl))
or_decides false true A B h k = ((λ e x y. y (k.0 refl)), (λ _. refl))
or_decides false false A B h k = ((λ e x y. absurd cc), (λ y. absurd (y (λ a. let z : false ≡ true = h.1 a in absurd cc) (λ b. let z : false ≡ true = k.1 b in absurd cc))))

iff_decides : (a b : Bool) (A B : Type 0) → Decides a A → Decides b B → Decides (if a then b else not b) (A ↔ B)
iff_decides true true A B h k = ((λ _. ((λ _. k.0 refl), (λ _. h.0 refl))), (λ _. refl))
iff_decides true false A B h k = ((λ e. absurd cc), (λ y. k.1 (y.0 (h.0 refl))))
iff_decides false true A B h k = ((λ e. absurd cc), (λ y. h.1 (y.1 (k.0 refl))))
iff_decides false false A B h k = ((λ _. ((λ a. let z : false ≡ true = h.1 a in absurd cc), (λ b. let z : false ≡ true = k.1 b in absurd cc))), (λ _. refl))

-- Result: a connective of two tests is the connective of what they decide
pub connected_decides : (op : Connective) (a b : Bool) (A B : Type 0) → Decides a A → Decides b B → Decides (connected op a b) (Connected op A B)
connected_decides And a b A B h k = and_decides a b A B h k
connected_decides Or a b A B h k = or_decides a b A B h k
connected_decides Iff a b A B h k = iff_decides a b A B h k

-- an operand's word tells whether it accepts
word_tells : (sig : Signature) (n : ℕ) (o : Operand) (i : ℕ) (w : List ℕ) (t : Tuple) → IsOperand sig n o → IsLawful o → IsTuple sig n t → IsFull t → get_or w i 0 ≡ operand_word o t → operand_accepts i o w ≡ said_by o t
word_tells sig n (OfTable table places) i w t o is h f e =
    let r = full_word sig n table places t h f (omega (arith, o.1.0, is.0.some)) o.1.1 in
    let x : state_at i w ≡ state_of table (selected places t) = omega (arith, e, r.word) in
    ap table.accepting x
word_tells sig n (OfTruth b) i w t o is h f e = refl

-- Result: a product accepts by the connective of what its operands accept
pub product_tests : (sig : Signature) (n : ℕ) (op : Connective) (first second : Operand) → IsOperand sig n first → IsOperand sig n second → IsLawful first → IsLawful second → (t : Tuple) → IsTuple sig n t → IsFull t
    → product_accepts op first second (label_of (product_rule n first second) t) ≡ connected op (said_by first t) (said_by second t)
product_tests sig n op first second o p is also t h f =
    let w = label_of (product_rule n first second) t in
    let e : w ≡ product_words first second t = product_exact sig n first second o p t h in
    let a = word_tells sig n first 1 w t o is h f (ap (λ v. get_or v 1 0) e) in
    let b = word_tells sig n second 2 w t p also h f (ap (λ v. get_or v 2 0) e) in
    λ i. connected op (a i) (b i)

-- what a table says on its own columns
pub table_says : (sig : Signature) (n : ℕ) (table : Table) (places : List ℕ) (R : TupleRelation) → IsOperand sig n (OfTable table places) → IsTable table → TestsRelation table.signature table.columns (accepts table) R → TestsRelation sig n (said_by (OfTable table places)) (Cylinder places R)
table_says sig n table places R o is tests t h f =
    let r = full_word sig n table places t h f (omega (arith, o.1.0, is.some)) o.1.1 in
    tests (selected places t) (subst (λ (z : Signature). IsTuple z table.columns (selected places t)) (sym o.0) (subst (λ (c : ℕ). IsTuple sig c (selected places t)) o.1.0 r.tuple)) r.full

pub truth_says : (sig : Signature) (n : ℕ) (b : Bool) → TestsRelation sig n (said_by (OfTruth b)) (λ t. IsTrue b)
truth_says sig n b t h f = ((λ e. e), (λ e. e))

-- Result: a product is the connective of the relations of its operands
pub both_decides : (sig : Signature) (n : ℕ) (op : Connective) (first second : Operand) (R S : TupleRelation) → IsOperand sig n first → IsOperand sig n second → IsLawful first → IsLawful second
    → TestsRelation sig n (said_by first) R → TestsRelation sig n (said_by second) S
    → TestsRelation sig n (λ t. product_accepts op first second (label_of (product_rule n first second) t)) (λ t. Connected op (R t) (S t))
both_decides sig n op first second R S o p is also a b t h f =
    let e = product_tests sig n op first second o p is also t h f in
    let d = connected_decides op (said_by first t) (said_by second t) (R t) (S t) (a t h f) (b t h f) in
    ((λ y. d.0 (sym e ∙ y)), (λ y. e ∙ d.1 y))

-- Results: for each connective
pub both_and : (sig : Signature) (n : ℕ) (first second : Operand) (R S : TupleRelation) → IsOperand sig n first → IsOperand sig n second → IsLawful first → IsLawful second
    → TestsRelation sig n (said_by first) R → TestsRelation sig n (said_by second) S
    → TestsRelation sig n (λ t. product_accepts And first second (label_of (product_rule n first second) t)) (λ t. R t × S t)
both_and sig n first second R S o p is also a b = both_decides sig n And first second R S o p is also a b

pub both_or : (sig : Signature) (n : ℕ) (first second : Operand) (R S : TupleRelation) → IsOperand sig n first → IsOperand sig n second → IsLawful first → IsLawful second
    → TestsRelation sig n (said_by first) R → TestsRelation sig n (said_by second) S
    → TestsRelation sig n (λ t. product_accepts Or first second (label_of (product_rule n first second) t)) (λ t. (R t → ⊥) → (S t → ⊥) → ⊥)
both_or sig n first second R S o p is also a b = both_decides sig n Or first second R S o p is also a b

pub both_iff : (sig : Signature) (n : ℕ) (first second : Operand) (R S : TupleRelation) → IsOperand sig n first → IsOperand sig n second → IsLawful first → IsLawful second
    → TestsRelation sig n (said_by first) R → TestsRelation sig n (said_by second) S
    → TestsRelation sig n (λ t. product_accepts Iff first second (label_of (product_rule n first second) t)) (λ t. R t ↔ S t)
both_iff sig n first second R S o p is also a b = both_decides sig n Iff first second R S o p is also a b

-- Result: a projection accepts exactly where some term in the column completes the tuple to one that the body accepts
pub project_decides : (body : Table) (c : ℕ) (R : TupleRelation) → IsTable body → IsReached body → c < body.columns → TestsRelation body.signature body.columns (accepts body) R
    → TestsRelation body.signature (body.columns - 1) (λ t. project_accepts body (label_of (project_rule body c) t)) (SomeCompletes body.signature c R)
project_decides body c R is reached low tests t h full =
    let w = label_of (project_rule body c) t in
    let n = length body.presences in
    let says = label_exact body c is reached low t h in (
      (λ e.
          let r = found_below n (λ q. has_state w q && body.accepting q) e in
          let y = (says.given r.0).0 (left (has_state w r.0) (body.accepting r.0) r.2) in
          (y.0, y.1, (tests (insert t c (Some y.0)) (IsTuple-completed body c t y.0 low y.1 h.width h.grounded) (IsFull-insert t c y.0 full)).0 (ap body.accepting y.2 ∙ right (has_state w r.0) (body.accepting r.0) r.2))),
      (λ y.
          let it = IsTuple-completed body c t y.0 low y.1 h.width h.grounded in
          let q = state_of body (insert t c (Some y.0)) in
          below_found n (λ q. has_state w q && body.accepting q) q (completed_small body c t y.0 is low y.1 h.width h.grounded)
          (both (has_state w q) (body.accepting q) ((says.given q).1 (y.0, y.1, refl)) ((tests (insert t c (Some y.0)) it (IsFull-insert t c y.0 full)).1 y.2))),
    )
