-- Two tuples have one label at a product or a projection exactly where they agree there.
use Rattle.std.proofs.Common.{◌≡◌, ◌↔◌, ℕ, suc, ◌-◌, ◌<◌, List, [], ◌∷◌, length, None, Some, get_or, Bool, true, false, refl, ap, sym, ◌∙◌, arith, subst}
use Rattle.std.specs.List.{insert}
use Rattle.fort_theory.specs.Signatures.{Signature}
use Rattle.fort_tables.specs.Tuples.{Tuple, root, presence, IsTuple}
use Rattle.fort_tables.specs.Tables.{Table, IsTable, IsReached, state_of}
use Rattle.fort_tables.specs.LabelRules.{label_of}
use Rattle.fort_tables.specs.BitRows.{bit_row}
use Rattle.fort_tables.proofs.LabelRuleLaws.{label_of-step}
use Rattle.fort_tables.proofs.BitRowLaws.{bit_row_same}
use Rattle.fort_tables.specs.Selections.{selected, is_present}
use Rattle.fort_tables.specs.Products.{Operand, OfTable, OfTruth, places_of, IsOperand, operand_word, product_rule}
use Rattle.fort_tables.specs.Projections.{absent_state, has_state, gives, project_rule, Gives}
use Rattle.fort_tables.specs.Agreement.{Agreement, HaveOneState, TellsAgreement, AgreeOn, AgreeAtBoth, IsMatched, AgreeAtSome, OperandAgreement}
use Rattle.fort_tables.proofs.SearchLaws.{same_truth}
use Rattle.fort_tables.proofs.SelectionLaws.{present_from_test, test_from_present, IsTuple-selected, is_present-alike}
use Rattle.fort_tables.proofs.CompletedTuples.{IsTuple-completed, IsTuple-absent}
use Rattle.fort_tables.proofs.ProjectLabels.{kid_words, has_state-below, label_exact}
use Rattle.fort_tables.proofs.ProductLabels.{word_there, word_none, product_words, product_exact}

by_truth : (b : Bool) (A : Type 0) → (b ≡ true → A) → (b ≡ false → A) → A
by_truth true A h k = h refl
by_truth false A h k = k refl

-- an operand's words are equal exactly where the tuples agree on its columns
abbrev pub TellsAtOperand : Operand → Agreement → Type 0
TellsAtOperand (OfTable table places) agree = TellsAgreement table agree
TellsAtOperand (OfTruth b) agree = Unit {0}

table_words : (sig : Signature) (n : ℕ) (table : Table) (places : List ℕ) (agree : Agreement) → IsOperand sig n (OfTable table places) → TellsAgreement table agree → (t u : Tuple) → IsTuple sig n t → IsTuple sig n u → presence t ≡ presence u
    → (operand_word (OfTable table places) t ≡ operand_word (OfTable table places) u) ↔ AgreeOn places agree t u
table_words sig n table places agree o tells t u h k p =
    let same = is_present-alike places t u (h.width ∙ sym k.width) p in
    let S : Tuple → Type 0 = λ s. IsTuple table.signature table.columns s in
    let own : (s : Tuple) → IsTuple sig (length places) s → S s =
    λ s i. subst (λ (z : Signature). IsTuple z table.columns s) (sym o.0) (subst (λ (c : ℕ). IsTuple sig c s) o.1.0 i) in (
      (λ e here.
          let a = test_from_present (selected places t) here in
          let b = sym same ∙ a in
          let x : state_of table (selected places t) ≡ state_of table (selected places u) = omega (arith, word_there table places t a, word_there table places u b, e) in
          (tells (selected places t) (selected places u) (own _ (IsTuple-selected sig places t h.grounded here)) (own _ (IsTuple-selected sig places u k.grounded (present_from_test (selected places u) b)))).0 x),
      (λ y. by_truth (is_present (selected places t)) (operand_word (OfTable table places) t ≡ operand_word (OfTable table places) u)
          (λ a.
          let here = present_from_test (selected places t) a in
          let b = sym same ∙ a in
          let x = (tells (selected places t) (selected places u) (own _ (IsTuple-selected sig places t h.grounded here)) (own _ (IsTuple-selected sig places u k.grounded (present_from_test (selected places u) b)))).1 (y here) in
          word_there table places t a ∙ (ap suc x ∙ sym (word_there table places u b)))
          (λ a. word_none table places t a ∙ sym (word_none table places u (sym same ∙ a)))),
    )

operand_words : (sig : Signature) (n : ℕ) (o : Operand) (agree : Agreement) → IsOperand sig n o → TellsAtOperand o agree → (t u : Tuple) → IsTuple sig n t → IsTuple sig n u → presence t ≡ presence u
    → (operand_word o t ≡ operand_word o u) ↔ AgreeOn (places_of o) agree t u
operand_words sig n (OfTable table places) agree o tells t u h k p = table_words sig n table places agree o tells t u h k p
operand_words sig n (OfTruth b) agree o tells t u h k p = ((λ e here. absurd here), (λ y. refl))

-- Result: the labels of a product are equal exactly where the tuples agree at it, by when they agree at the operands
pub both_alike : (sig : Signature) (n : ℕ) (first second : Operand) (agree also : Agreement) → IsOperand sig n first → IsOperand sig n second → TellsAtOperand first agree → TellsAtOperand second also
    → (t u : Tuple) → IsTuple sig n t → IsTuple sig n u
    → (label_of (product_rule n first second) t ≡ label_of (product_rule n first second) u) ↔ AgreeAtBoth (places_of first) agree (places_of second) also t u
both_alike sig n first second agree also o p a b t u h k =
    let x = product_exact sig n first second o p t h in
    let y = product_exact sig n first second o p u k in (
      (λ e.
          let z : product_words first second t ≡ product_words first second u = sym x ∙ (e ∙ y) in
          let same : presence t ≡ presence u = ap (λ w. get_or w 0 0) z in
          record {
            present = same;
            first = (operand_words sig n first agree o a t u h k same).0 (ap (λ w. get_or w 1 0) z);
            second = (operand_words sig n second also p b t u h k same).0 (ap (λ w. get_or w 2 0) z);
          }),
      (λ z.
          let c = z.present in
          let q = (operand_words sig n first agree o a t u h k c).1 z.first in
          let r = (operand_words sig n second also p b t u h k c).1 z.second in
          x ∙ ((λ i. c i ∷ q i ∷ r i ∷ []) ∙ sym y)),
    )

tells_states : (table : Table) → TellsAgreement table (HaveOneState table)
tells_states table t u h k = ((λ e. e), (λ e. e))

pub operand_tells_states : (o : Operand) → TellsAtOperand o (OperandAgreement o)
operand_tells_states (OfTable table places) = tells_states table
operand_tells_states (OfTruth b) = tt

-- Result: the same by the operands' states
pub both_by_states : (sig : Signature) (n : ℕ) (first second : Operand) → IsOperand sig n first → IsOperand sig n second → (t u : Tuple) → IsTuple sig n t → IsTuple sig n u
    → (label_of (product_rule n first second) t ≡ label_of (product_rule n first second) u)
    ↔ AgreeAtBoth (places_of first) (OperandAgreement first) (places_of second) (OperandAgreement second) t u
both_by_states sig n first second o p = both_alike sig n first second (OperandAgreement first) (OperandAgreement second) o p (operand_tells_states first) (operand_tells_states second)

-- a label is its presence, its state with the column absent, and its bits
record IsWords (n : ℕ) (w : List ℕ) : Type 0 where
  first : ℕ
  second : ℕ
  bit : ℕ → Bool
  is : w ≡ first ∷ second ∷ bit_row n bit

label_words : (body : Table) (c : ℕ) (t : Tuple) → IsWords (length body.presences) (label_of (project_rule body c) t)
label_words body c t = record {
  first = presence (root t);
  second = _;
  bit = λ q. gives body c (root t) (kid_words (label_of (project_rule body c)) t) q;
  is = label_of-step (project_rule body c) t;
}

words_same : (n : ℕ) (v w : List ℕ) → IsWords n v → IsWords n w → get_or v 0 0 ≡ get_or w 0 0 → absent_state v ≡ absent_state w → ((q : ℕ) → has_state v q ≡ has_state w q) → v ≡ w
words_same n v w a b p q h =
    let x : a.first ≡ b.first = sym (ap (λ z. get_or z 0 0) a.is) ∙ (p ∙ ap (λ z. get_or z 0 0) b.is) in
    let y : a.second ≡ b.second = sym (ap absent_state a.is) ∙ (q ∙ ap absent_state b.is) in
    let z : bit_row n a.bit ≡ bit_row n b.bit =
    bit_row_same n a.bit b.bit (λ k l. sym (has_state-below a.first a.second n a.bit k l) ∙ (ap (λ o. has_state o k) (sym a.is) ∙ (h k ∙ (ap (λ o. has_state o k) b.is ∙ has_state-below b.first b.second n b.bit k l)))) in
    a.is ∙ ((λ i. x i ∷ y i ∷ z i) ∙ sym b.is)

matched : (body : Table) (c : ℕ) (agree : Agreement) → IsTable body → IsReached body → c < body.columns → TellsAgreement body agree
    → (t u : Tuple) → IsTuple body.signature (body.columns - 1) t → IsTuple body.signature (body.columns - 1) u → label_of (project_rule body c) t ≡ label_of (project_rule body c) u → IsMatched body.signature c agree t u
matched body c agree is reached low tells t u h k e x g =
    let q = state_of body (insert t c (Some x)) in
    let b = ((label_exact body c is reached low t h).given q).1 (x, g, refl) in
    let y = ((label_exact body c is reached low u k).given q).0 (ap (λ w. has_state w q) (sym e) ∙ b) in
    (y.0, y.1, (tells (insert t c (Some x)) (insert u c (Some y.0)) (IsTuple-completed body c t x low g h.width h.grounded) (IsTuple-completed body c u y.0 low y.1 k.width k.grounded)).0 (sym y.2))

given_too : (body : Table) (c : ℕ) (agree : Agreement) → c < body.columns → TellsAgreement body agree
    → (t u : Tuple) → IsTuple body.signature (body.columns - 1) t → IsTuple body.signature (body.columns - 1) u → IsMatched body.signature c agree t u → (q : ℕ) → Gives body c t q → Gives body c u q
given_too body c agree low tells t u h k m q w =
    let y = m w.0 w.1 in
    (y.0, y.1, sym ((tells (insert t c (Some w.0)) (insert u c (Some y.0)) (IsTuple-completed body c t w.0 low w.1 h.width h.grounded) (IsTuple-completed body c u y.0 low y.1 k.width k.grounded)).1 y.2) ∙ w.2)

-- Result: the labels of a projection are equal exactly where the tuples agree at it, by when they agree at the body
pub project_alike : (body : Table) (c : ℕ) (agree : Agreement) → IsTable body → IsReached body → c < body.columns → TellsAgreement body agree
    → (t u : Tuple) → IsTuple body.signature (body.columns - 1) t → IsTuple body.signature (body.columns - 1) u
    → (label_of (project_rule body c) t ≡ label_of (project_rule body c) u) ↔ AgreeAtSome body.signature c agree t u
project_alike body c agree is reached low tells t u h k =
    let a = label_exact body c is reached low t h in
    let b = label_exact body c is reached low u k in
    let absent = tells (insert t c None) (insert u c None) (IsTuple-absent body c t low h) (IsTuple-absent body c u low k) in (
      (λ e. record {
        present = sym a.first ∙ (ap (λ w. get_or w 0 0) e ∙ b.first);
        absent = absent.0 (sym a.absent ∙ (ap absent_state e ∙ b.absent));
        forth = matched body c agree is reached low tells t u h k e;
        back = matched body c agree is reached low tells u t k h (sym e);
      }),
      (λ y. words_same (length body.presences) _ _ (label_words body c t) (label_words body c u)
          (a.first ∙ (y.present ∙ sym b.first))
          (a.absent ∙ (absent.1 y.absent ∙ sym b.absent))
          (λ q. same_truth (has_state (label_of (project_rule body c) t) q) (has_state (label_of (project_rule body c) u) q)
          (λ e. (b.given q).1 (given_too body c agree low tells t u h k y.forth q ((a.given q).0 e)))
          (λ e. (a.given q).1 (given_too body c agree low tells u t k h y.back q ((b.given q).0 e))))),
    )

-- Result: the same by the body's states
pub project_by_states : (body : Table) (c : ℕ) → IsTable body → IsReached body → c < body.columns
    → (t u : Tuple) → IsTuple body.signature (body.columns - 1) t → IsTuple body.signature (body.columns - 1) u
    → (label_of (project_rule body c) t ≡ label_of (project_rule body c) u) ↔ AgreeAtSome body.signature c (HaveOneState body) t u
project_by_states body c is reached low = project_alike body c (HaveOneState body) is reached low (tells_states body)
