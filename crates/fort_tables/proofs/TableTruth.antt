-- Complements and exchanges: the complement of a table is a table and decides the complement; an exchange is a cylinder by the order that undoes it.
use Rattle.std.proofs.Common.{◌≡◌, ◌↔◌, ℕ, ◌-◌, ◌^◌, ◌<◌, List, [], ◌∷◌, length, None, get_or, Bool, true, false, not, if◌then◌else◌, eq-eqb, IsTrue, refl, ap, sym, ◌∙◌, arith, subst}
use Rattle.std.proofs.lemmas.List.{length-map, get_or-map, ext_get_or}
use Rattle.fort_theory.specs.Signatures.{Signature}
use Rattle.fort_tables.specs.Tuples.{Tuple, IsPresent, IsFull, IsTuple}
use Rattle.fort_tables.specs.Tables.{Table, IsTable, IsReached, full_presence, state_of}
use Rattle.fort_tables.specs.Labels.{Labelling}
use Rattle.fort_tables.specs.LabelRules.{label_of, IsTableBy}
use Rattle.fort_tables.proofs.EqualTests.{equal_from_if}
use Rattle.fort_tables.proofs.PresenceLaws.{presence_from_full}
use Rattle.fort_tables.proofs.TableLaws.{table_state}
use Rattle.fort_tables.specs.Selections.{selected, ArePlaces}
use Rattle.fort_theory.specs.Logic.{And}
use Rattle.fort_tables.specs.Products.{OfTable, OfTruth, IsOperand, product_rule, product_accepts}
use Rattle.fort_tables.specs.OperationTruth.{TupleRelation, TestsRelation, accepts, complemented, Complement, Cylinder, Exchange, UndoesOrder, IsOrder}
use Rattle.fort_tables.proofs.SelectionLaws.{IsTuple-selected, IsFull-selected, present_from_full}
use Rattle.fort_tables.proofs.TruthLaws.{not_decides, both_and, truth_says}

-- Results: complements
pub IsTable-complemented : (table : Table) → IsTable table → IsTable (complemented table)
IsTable-complemented table is = record {
  some = is.some;
  narrow = is.narrow;
  within = is.within;
  presence = is.presence;
  full = λ q l h. equal_from_if (get_or table.presences q 0) (full_presence table.columns) (not (table.accepting q)) h;
}

pub IsReached-complemented : (table : Table) → IsReached table → IsReached (complemented table)
IsReached-complemented table h = h

pub complement_decides : (table : Table) (R : TupleRelation) → IsTable table → TestsRelation table.signature table.columns (accepts table) R → TestsRelation table.signature table.columns (accepts (complemented table)) (Complement R)
complement_decides table R is tests t h full =
    let q = state_of table t in
    let p : get_or table.presences q 0 ≡ full_presence table.columns = (table_state table is t h).presence_is ∙ (presence_from_full t full ∙ ap (λ n. 2 ^ n - 1) h.width) in
    let e : accepts (complemented table) t ≡ not (table.accepting q) = ap (λ b. if b then not (table.accepting q) else false) (eq-eqb (get_or table.presences q 0) (full_presence table.columns) p) in
    let d = not_decides (table.accepting q) (R t) (tests t h full) in
    ((λ y. d.0 (sym e ∙ y)), (λ y. e ∙ d.1 y))

-- the columns in one order and back
selected_back : (order places : List ℕ) (t : Tuple) → UndoesOrder order places → length places ≡ length t → selected places (selected order t) ≡ t
selected_back order places t undoes len =
    ext_get_or None (selected places (selected order t)) t (length-map places (λ p. get_or (selected order t) p None) ∙ len)
    (λ k l.
    let m : k < length places = omega (arith, length-map places (λ p. get_or (selected order t) p None)) in
    let u = undoes k m in
    get_or-map (λ p. get_or (selected order t) p None) places k 0 None m
    ∙ (get_or-map (λ p. get_or t p None) order (get_or places k 0) 0 None u.0 ∙ ap (λ p. get_or t p None) u.1))

-- Result: the tuples that come by an order are those that the order undone brings back
pub exchange_cylinder : (sig : Signature) (n : ℕ) (order places : List ℕ) (R : TupleRelation) → length order ≡ n → length places ≡ n → ArePlaces n order → ArePlaces n places → UndoesOrder order places → UndoesOrder places order
    → (t : Tuple) → IsTuple sig n t → IsFull t → Cylinder places R t ↔ Exchange sig n order R t
exchange_cylinder sig n order places R lo lp within also undoes redoes t h full = (
  (λ r.
      let f = IsFull-selected places t full (λ k l. omega (arith, also k l, h.width)) in
      let some : 0 < length (selected places t) = omega (arith, length-map places (λ p. get_or t p None), lp, h.width, present_some t h.present) in (
        selected places t,
        subst (λ (m : ℕ). IsTuple sig m (selected places t)) lp (IsTuple-selected sig places t h.grounded (present_from_full (selected places t) f some)),
        f,
        r,
        sym (selected_back places order t redoes (lo ∙ sym h.width)),
      )),
  (λ y.
      let e : selected places t ≡ y.0 = ap (selected places) y.4 ∙ selected_back order places y.0 undoes (lp ∙ sym y.1.width) in
      subst R (sym e) y.3),
)
  where
    present_some : (t : Tuple) → IsPresent t → 0 < length t
    present_some [] h = absurd h
    present_some (x ∷ t) h = omega arith

-- a table by labels tests what its labels test
pub tests_by_label : (sig : Signature) (n : ℕ) (label : Labelling) (accepting : List ℕ → Bool) (table : Table) (R : TupleRelation) → IsTableBy sig n label accepting table → TestsRelation sig n (λ t. accepting (label t)) R → TestsRelation sig n (accepts table) R
tests_by_label sig n label accepting table R by tests t h full =
    let e = by.full t h full in
    let d = tests t h full in
    ((λ y. d.0 (sym e ∙ y)), (λ y. e ∙ d.1 y))

-- Result: a product with the truth is the cylinder of its operand
pub cylinder_decides : (sig : Signature) (n : ℕ) (table : Table) (places : List ℕ) → IsOperand sig n (OfTable table places) → IsTable table → IsReached table
    → TestsRelation sig n (λ t. product_accepts And (OfTable table places) (OfTruth true) (label_of (product_rule n (OfTable table places) (OfTruth true)) t)) (Cylinder places (λ s. IsTrue (accepts table s)))
cylinder_decides sig n table places o is reached t h full =
    let d = both_and sig n (OfTable table places) (OfTruth true) (Cylinder places (λ s. IsTrue (accepts table s))) (λ s. IsTrue true) o tt (is, reached) tt (λ s a b. ((λ e. e), (λ e. e))) (truth_says sig n true) t h full in
    ((λ y. (d.0 y).0), (λ y. d.1 (y, refl)))

-- Result: by the order undone it is the exchange
pub exchange_decides : (sig : Signature) (n : ℕ) (test : Tuple → Bool) (order : List ℕ) (R : TupleRelation) → (o : IsOrder n order) → TestsRelation sig n test (Cylinder o.back R) → TestsRelation sig n test (Exchange sig n order R)
exchange_decides sig n test order R o tests t h full =
    let e = exchange_cylinder sig n order o.back R o.count o.back_count (λ k l. omega (arith, (o.redoes k l).0, o.back_count)) (λ k l. omega (arith, (o.undoes k l).0, o.count)) o.undoes o.redoes t h full in
    let d = tests t h full in
    ((λ y. e.0 (d.0 y)), (λ y. d.1 (e.1 y)))
