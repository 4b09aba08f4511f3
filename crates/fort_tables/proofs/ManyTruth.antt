-- The label of "infinitely many" is accepted exactly where infinitely many terms complete the tuple to one that the body accepts.
use Rattle.std.proofs.Common.{◌≡◌, ℕ, ◌-◌, ◌<◌, ◌≤◌, ◌↔◌, [], length, Some, Bool, true, false, ◌&&◌, Decides, IsTrue, inl, inr, ⊎_elim, refl, ap, sym, ◌∙◌, arith, subst}
use Rattle.std.specs.List.{insert}
use Rattle.std.proofs.lemmas.Bool.{cases_Bool}
use Rattle.fort_theory.specs.Logic.{HasInfinitelyMany}
use Rattle.fort_theory.specs.Trees.{Tree}
use Rattle.fort_theory.specs.Signatures.{IsGround}
use Rattle.fort_tables.specs.Tuples.{Tuple, all_absent, IsTuple}
use Rattle.fort_tables.specs.Tables.{Table, IsTable, IsReached, state_of}
use Rattle.fort_tables.specs.LabelRules.{label_of}
use Rattle.fort_tables.proofs.InsertLaws.{IsFull-insert, length-all_absent, AreGroundColumns-all_absent}
use Rattle.fort_tables.specs.Projections.{is_pure, some_below}
use Rattle.fort_tables.specs.OperationTruth.{TupleRelation, TestsRelation, accepts}
use Rattle.fort_tables.proofs.SearchLaws.{found_below, below_found, both, left, right}
use Rattle.fort_tables.proofs.CompletedTuples.{IsTuple-completed, completed_small}
use Rattle.fort_tables.specs.PureStates.{CompletesTo, GivesAlone}
use Rattle.fort_tables.specs.Heights.{HasEveryHeight, HasHeightsTo}
use Rattle.fort_tables.specs.Counts.{Count, is_infinite, KeepRules}
use Rattle.fort_tables.specs.ManyLabels.{TellsMany, has_many, many_rule, many_accepts, many_value, ManyComplete}
use Rattle.fort_tables.proofs.HeightLaws.{many_from_every_height, not_many_from_heights, every_height_weaker}
use Rattle.fort_tables.proofs.TellsLaws.{finds_many, TellsMany-marks}
use Rattle.fort_tables.proofs.PureStateLaws.{pure_from_term, no_others}
use Rattle.fort_tables.proofs.PureSearchLaws.{pure_from_test, test_from_pure}
use Rattle.fort_tables.proofs.ManyExact.{greatest_below, at_most_greatest, bound_by, bound_is, fails}
use Rattle.fort_tables.proofs.ManyLabelLaws.{finds_terms}

-- the terms with which the body accepts the tuple
abbrev pub Accepts : Table → ℕ → Tuple → Tree → Type 0
Accepts body c t u = IsGround body.signature u × (body.accepting (state_of body (insert t c (Some u))) ≡ true)

-- a test that tells which states infinitely many terms give
module _ (body : Table) (c : ℕ) (t : Tuple) (p : ℕ → Bool)
    (state : (u : Tree) → IsGround body.signature u → state_of body (insert t c (Some u)) < length body.presences)
    (every : (q : ℕ) → q < length body.presences → p q ≡ true → HasEveryHeight (CompletesTo body c t q))
    (find : (q : ℕ) → (p q ≡ false) × (q < length body.presences) → (r : ℕ) × HasHeightsTo (CompletesTo body c t q) r) where
  -- where no accepting state passes, the terms with which the body accepts are bounded
  accepted_bound : some_below (length body.presences) (λ q. p q && body.accepting q) ≡ false → (r : ℕ) × HasHeightsTo (Accepts body c t) r
  accepted_bound none =
      let m = length body.presences in
      let bound : ℕ → ℕ = λ q. bound_by (HasHeightsTo (CompletesTo body c t q)) (fails p m q) (find q) in (
        greatest_below m bound,
        λ u a.
            let q = state_of body (insert t c (Some u)) in
            let small = state u a.0 in
            let not_set : p q ≡ true → ⊥ = λ e.
            let z : true ≡ false = sym (below_found m (λ k. p k && body.accepting k) q small (both (p q) (body.accepting q) e a.1)) ∙ none in absurd cc in
            let l = bound_is (HasHeightsTo (CompletesTo body c t q)) (fails p m q) (find q) (λ z. ⊎_elim (λ (e : p q ≡ true). not_set e) (λ (e : m ≤ q). absurd (omega arith)) z) u (a.0, refl) in
            omega (arith, l, at_most_greatest m bound q small),
      )

  accepts_exactly : (some_below (length body.presences) (λ q. p q && body.accepting q) ≡ true) ↔ HasInfinitelyMany (Accepts body c t)
  accepts_exactly =
      let m = length body.presences in
      let test : ℕ → Bool = λ q. p q && body.accepting q in (
        (λ e.
            let r = found_below m test e in
            let q = r.0 in
            let final = right (p q) (body.accepting q) r.2 in
            many_from_every_height (Accepts body c t) (every_height_weaker (CompletesTo body c t q) (Accepts body c t) (λ u g. (g.0, ap body.accepting g.1 ∙ final)) (every q r.1 (left (p q) (body.accepting q) r.2)))),
        (λ infinite. elim (cases_Bool (some_below m test)) [
          | inl e ↦ e
          | inr e ↦ let r = accepted_bound e in absurd (not_many_from_heights body.signature (Accepts body c t) r.0 (λ u z. z.0) r.1 infinite)
        ]),
      )

-- Result: acceptance is "infinitely many"
pub many_accepts_exactly : (body : Table) (c : ℕ) (many : ℕ → Bool) → IsTable body → IsReached body → c < body.columns → TellsMany body c many → (t : Tuple) → IsTuple body.signature (body.columns - 1) t
    → (many_accepts body (label_of (many_rule body c many) t) ≡ true) ↔ HasInfinitelyMany (Accepts body c t)
many_accepts_exactly body c many is reached low tells t h =
    let says = finds_terms body c many is reached low tells t h in
    accepts_exactly body c t (has_many (length body.presences) (label_of (many_rule body c many) t))
    (λ u g. completed_small body c t u is low g h.width h.grounded)
    says.every
    (λ q e. says.bound q e.1 e.0)

pub many_weaker : (P Q : Tree → Type 0) → ((u : Tree) → P u → Q u) → HasInfinitelyMany P → HasInfinitelyMany Q
many_weaker P Q f h xs none = h xs (λ u p. none u (p.0, f u p.1))

-- Result: the label is accepted exactly where infinitely many terms complete the tuple to one of the body's relation
pub many_decides : (body : Table) (c : ℕ) (many : ℕ → Bool) (R : TupleRelation) → IsTable body → IsReached body → c < body.columns → TellsMany body c many → TestsRelation body.signature body.columns (accepts body) R
    → TestsRelation body.signature (body.columns - 1) (λ t. many_accepts body (label_of (many_rule body c many) t)) (ManyComplete body.signature c R)
many_decides body c many R is reached low tells tests t h full =
    let d = many_accepts_exactly body c many is reached low tells t h in
    let says : (u : Tree) → IsGround body.signature u → (accepts body (insert t c (Some u)) ≡ true) ↔ R (insert t c (Some u)) =
    λ u g. tests (insert t c (Some u)) (IsTuple-completed body c t u low g h.width h.grounded) (IsFull-insert t c u full) in
    let C : Tree → Type 0 = λ u. IsGround body.signature u × R (insert t c (Some u)) in (
      (λ e. many_weaker (Accepts body c t) C (λ u a. (a.0, (says u a.0).0 a.1)) (d.0 e)),
      (λ y. d.1 (many_weaker C (Accepts body c t) (λ u a. (a.0, (says u a.0).1 a.1)) y)),
    )

-- no other columns
value_bound : (body : Table) (c : ℕ) (many : ℕ → Bool) → IsTable body → IsReached body → c < body.columns → TellsMany body c many → (q : ℕ) → q < length body.presences → (b : Bool) → is_pure body c q ≡ b → (b && many q) ≡ false → (r : ℕ) × HasHeightsTo (GivesAlone body c q) r
value_bound body c many is reached low tells q l true pure e = (finds_many body c many is reached low tells).bound q (pure_from_test body c q l pure) e
value_bound body c many is reached low tells q l false pure e = (0, λ u h. absurd (let y : true ≡ false = sym (test_from_pure body c q (pure_from_term body c q u is low h)) ∙ pure in cc))

pub many_value_exactly : (body : Table) (c : ℕ) (many : ℕ → Bool) → IsTable body → IsReached body → c < body.columns → TellsMany body c many
    → (many_value body c many ≡ true) ↔ HasInfinitelyMany (Accepts body c (no_others body))
many_value_exactly body c many is reached low tells =
    let n = body.columns - 1 in
    accepts_exactly body c (no_others body) (λ q. is_pure body c q && many q)
    (λ u g. completed_small body c (no_others body) u is low g (length-all_absent Tree n) (AreGroundColumns-all_absent body.signature n))
    (λ q l e. (finds_many body c many is reached low tells).every q (pure_from_test body c q l (left (is_pure body c q) (many q) e)) (right (is_pure body c q) (many q) e))
    (λ q e. value_bound body c many is reached low tells q e.1 (is_pure body c q) refl e.0)

-- Result: a body with one column: its value is "infinitely many"
pub many_value_decides : (body : Table) (c : ℕ) (many : ℕ → Bool) (R : TupleRelation) → IsTable body → IsReached body → c < body.columns → body.columns ≡ 1 → TellsMany body c many → TestsRelation body.signature body.columns (accepts body) R
    → (many_value body c many ≡ true) ↔ ManyComplete body.signature c R []
many_value_decides body c many R is reached low one tells tests =
    let d = many_value_exactly body c many is reached low tells in
    let e : no_others body ≡ [] = let z : body.columns - 1 ≡ 0 = omega arith in ap all_absent z in
    let says : (u : Tree) → IsGround body.signature u → (accepts body (insert [] c (Some u)) ≡ true) ↔ R (insert [] c (Some u)) =
    λ u g. tests (insert [] c (Some u)) (IsTuple-completed body c [] u low g (let z : 0 ≡ body.columns - 1 = omega arith in z) tt) (IsFull-insert [] c u tt) in
    let C : Tree → Type 0 = λ u. IsGround body.signature u × R (insert [] c (Some u)) in
    let moved = subst (λ (t : Tuple). (many_value body c many ≡ true) ↔ HasInfinitelyMany (Accepts body c t)) e d in (
      (λ y. many_weaker (Accepts body c []) C (λ u a. (a.0, (says u a.0).0 a.1)) (moved.0 y)),
      (λ y. moved.1 (many_weaker C (Accepts body c []) (λ u a. (a.0, (says u a.0).1 a.1)) y)),
    )

-- and by marks whose rules hold
pub many_value_by_marks : (body : Table) (c : ℕ) (mark : ℕ → Count) (b : Bool) → IsTable body → IsReached body → c < body.columns → b ≡ many_value body c (λ k. is_infinite (mark k)) → body.columns ≡ 1 → KeepRules body c mark
    → Decides b (ManyComplete body.signature c (λ t. IsTrue (accepts body t)) [])
many_value_by_marks body c mark b is reached low e one keep =
    let d = many_value_decides body c (λ k. is_infinite (mark k)) (λ t. IsTrue (accepts body t)) is reached low one (TellsMany-marks body c mark is reached low keep) (λ t h f. ((λ y. y), (λ y. y))) in
    ((λ y. d.0 (sym e ∙ y)), (λ y. e ∙ d.1 y))
