-- Marks have at most one outcome; where they are right, they hold by their rules at every pure state.
use Rattle.std.proofs.Common.{◌≡◌, ℕ, ◌<◌, List, length, get_or, refl, sym, ◌∙◌, arith, subst, ⊎_elim}
use Rattle.std.proofs.lemmas.Bool.{cases_lt}
use Rattle.std.proofs.lemmas.List.{get_or_default}
use Rattle.fort_theory.specs.Logic.{HasInfinitelyMany}
use Rattle.fort_tables.specs.Tables.{Table, IsTable, IsReached}
use Rattle.fort_tables.specs.Projections.{ArePure}
use Rattle.fort_tables.specs.Counts as counts
use Rattle.fort_tables.specs.Counts.{Finite, Infinite, IsFiniteBelow, KeepsInfinite, KeepsRule, KeepRules, count_at}
use Rattle.fort_tables.specs.Heights.{HasHeightsTo}
use Rattle.fort_tables.specs.PureStates.{IsPureChild, GivesAlone}
use Rattle.fort_tables.proofs.CountLaws.{pure_listed}
use Rattle.fort_tables.proofs.MarkLaws.{heights_from_marks, many_from_marks}
use Rattle.fort_tables.proofs.PureSearchLaws.{pure_from_test}
use Rattle.fort_tables.proofs.CountPlaces.{count_at-ascending}
use Rattle.fort_certificate_theory.specs.Outcomes.{StepOutcome, Fine, Fails, Count, Rank, Cycle}
use Rattle.fort_certificate_theory.specs.CountSteps.{AreRightMarks, IsCountOutcome, IsRight, NotAsMany, NotRanked, NotFed}

-- what is at the place where marks fail
data Stop (body : Table) (c : ℕ) (states : List ℕ) (marks : List counts.Count) (i : ℕ) : StepOutcome → Type 0 where
  AtRank : (r k : ℕ) → i < length marks → get_or marks i (Finite 0) ≡ Finite r → IsPureChild body c (get_or states i 0) k → (IsFiniteBelow (count_at states marks) r k → ⊥) → Stop body c states marks i (Fails i Rank)
  AtCycle : (p : ℕ) → i < length marks → get_or marks i (Finite 0) ≡ Infinite p → (KeepsInfinite body c (count_at states marks) (get_or states i 0) p → ⊥) → Stop body c states marks i (Fails i Cycle)
  AtEnd : i ≡ length marks → Stop body c states marks i Fine

record Stopped (body : Table) (c : ℕ) (states : List ℕ) (marks : List counts.Count) (o : StepOutcome) : Type 0 where
  place : ℕ
  right : AreRightMarks body c states marks place
  stop : Stop body c states marks place o

-- a mark that fails isn't right
wrong_mark : (body : Table) (c : ℕ) (states : List ℕ) (marks : List counts.Count) (i : ℕ) (o : StepOutcome) → Stop body c states marks i o → i < length marks
    → KeepsRule body c (count_at states marks) (get_or states i 0) (get_or marks i (Finite 0)) → ⊥
wrong_mark body c states marks i o (AtRank r k l is child other) m h =
    other (subst (KeepsRule body c (count_at states marks) (get_or states i 0)) is h k child)
wrong_mark body c states marks i o (AtCycle p l is other) m h = other (subst (KeepsRule body c (count_at states marks) (get_or states i 0)) is h)
wrong_mark body c states marks i o (AtEnd e) m h = omega arith

stop_within : (body : Table) (c : ℕ) (states : List ℕ) (marks : List counts.Count) (i n : ℕ) (o : StepOutcome) → Stop body c states marks i o → i < n → AreRightMarks body c states marks n → ⊥
stop_within body c states marks i n o s l h = wrong_mark body c states marks i o s (omega (arith, h.within)) (h.right i l)

finite_infinite : (r p : ℕ) → Finite r ≡ Infinite p → ⊥
finite_infinite r p h = cc

stop_same : (body : Table) (c : ℕ) (states : List ℕ) (marks : List counts.Count) (i : ℕ) (a b : StepOutcome) → Stop body c states marks i a → Stop body c states marks i b → a ≡ b
stop_same body c states marks i a b (AtRank r k l is child other) (AtRank r' k' l' is' child' other') = refl
stop_same body c states marks i a b (AtRank r k l is child other) (AtCycle p l' is' other') = absurd (finite_infinite r p (sym is ∙ is'))
stop_same body c states marks i a b (AtRank r k l is child other) (AtEnd e) = absurd (omega arith)
stop_same body c states marks i a b (AtCycle p l' is' other') (AtRank r k l is child other) = absurd (finite_infinite r p (sym is ∙ is'))
stop_same body c states marks i a b (AtCycle p l is other) (AtCycle p' l' is' other') = refl
stop_same body c states marks i a b (AtCycle p l is other) (AtEnd e) = absurd (omega arith)
stop_same body c states marks i a b (AtEnd e) (AtRank r k l is child other) = absurd (omega arith)
stop_same body c states marks i a b (AtEnd e) (AtCycle p l is other) = absurd (omega arith)
stop_same body c states marks i a b (AtEnd e) (AtEnd e') = refl

both_stop : (body : Table) (c : ℕ) (states : List ℕ) (marks : List counts.Count) (a b : StepOutcome) → Stopped body c states marks a → Stopped body c states marks b → a ≡ b
both_stop body c states marks a b f g =
    ⊎_elim
    (λ l. absurd (stop_within body c states marks f.place g.place a f.stop l g.right))
    (λ l. ⊎_elim
    (λ m. absurd (stop_within body c states marks g.place f.place b g.stop m f.right))
    (λ m. let is : g.place ≡ f.place = omega arith in stop_same body c states marks f.place a b f.stop (subst (λ (i : ℕ). Stop body c states marks i b) is g.stop))
    (cases_lt g.place f.place))
    (cases_lt f.place g.place)

-- too few or too many marks, or a place where they stop
data Stage (body : Table) (c : ℕ) (states : List ℕ) (marks : List counts.Count) : StepOutcome → Type 0 where
  OtherMany : (length marks ≡ length states → ⊥) → Stage body c states marks (Fails 0 Count)
  AsMany : {o : StepOutcome} → length marks ≡ length states → Stopped body c states marks o → Stage body c states marks o

staged : (body : Table) (c : ℕ) (states : List ℕ) (marks : List counts.Count) (o : StepOutcome) → IsCountOutcome body c states marks o → Stage body c states marks o
staged body c states marks o (IsRight h) = AsMany h.count (record { place = length marks; right = h; stop = AtEnd refl })
staged body c states marks o (NotAsMany other) = OtherMany other
staged body c states marks o (NotRanked i r k h l is child other) = AsMany h.count (record { place = i; right = h; stop = AtRank r k l is child other })
staged body c states marks o (NotFed i p h l is other) = AsMany h.count (record { place = i; right = h; stop = AtCycle p l is other })

stages_same : (body : Table) (c : ℕ) (states : List ℕ) (marks : List counts.Count) (a b : StepOutcome) → Stage body c states marks a → Stage body c states marks b → a ≡ b
stages_same body c states marks a b (OtherMany other) (OtherMany another) = refl
stages_same body c states marks a b (OtherMany other) (AsMany e g) = absurd (other e)
stages_same body c states marks a b (AsMany e g) (OtherMany other) = absurd (other e)
stages_same body c states marks a b (AsMany e f) (AsMany e' g) = both_stop body c states marks a b f g

pub counts_one : (body : Table) (c : ℕ) (states : List ℕ) (marks : List counts.Count) (a b : StepOutcome) → IsCountOutcome body c states marks a → IsCountOutcome body c states marks b → a ≡ b
counts_one body c states marks a b h k = stages_same body c states marks a b (staged body c states marks a h) (staged body c states marks b k)

fine_marks : (body : Table) (c : ℕ) (states : List ℕ) (marks : List counts.Count) (o : StepOutcome) → IsCountOutcome body c states marks o → o ≡ Fine → AreRightMarks body c states marks (length marks)
fine_marks body c states marks o (IsRight h) e = h
fine_marks body c states marks o (NotAsMany other) e = absurd cc
fine_marks body c states marks o (NotRanked i r k h l is child other) e = absurd cc
fine_marks body c states marks o (NotFed i p h l is other) e = absurd cc

-- Result: right marks hold by their rules
pub KeepRules-right : (body : Table) (c : ℕ) (states : List ℕ) (marks : List counts.Count) → ArePure body c states → IsCountOutcome body c states marks Fine → KeepRules body c (count_at states marks)
KeepRules-right body c states marks pure is q state =
    let h = fine_marks body c states marks Fine is refl in
    let at = pure_listed body c states pure q state in
    let place : get_or states at.0 0 ≡ q = get_or_default states at.0 0 q at.1 ∙ at.2 in
    let l : at.0 < length marks = omega (arith, at.1, h.count) in
    let mark : count_at states marks (get_or states at.0 0) ≡ get_or marks at.0 (Finite 0) = count_at-ascending states marks at.0 (Finite 0) pure.ascending at.1 h.count in
    subst (λ (i : ℕ). KeepsRule body c (count_at states marks) i (count_at states marks i)) place
    (subst (KeepsRule body c (count_at states marks) (get_or states at.0 0)) (sym mark) (h.right at.0 l))

-- Result: and marks that hold by their rules are right
pub IsCountOutcome-rules : (body : Table) (c : ℕ) (states : List ℕ) (marks : List counts.Count) → ArePure body c states → length marks ≡ length states → KeepRules body c (count_at states marks)
    → IsCountOutcome body c states marks Fine
IsCountOutcome-rules body c states marks pure count keep = IsRight (record {
  count = count;
  within = omega arith;
  right = λ i l.
      let m : i < length states = omega (arith, count) in
      let e = pure.each i m in
      let q = get_or states i 0 in
      subst (KeepsRule body c (count_at states marks) q) (count_at-ascending states marks i (Finite 0) pure.ascending m count) (keep q (pure_from_test body c q e.0 e.1));
})

-- Results: what right marks say of the terms that give a state
pub heights_from_right : (body : Table) (c : ℕ) (states : List ℕ) (marks : List counts.Count) → IsTable body → c < body.columns → ArePure body c states → IsCountOutcome body c states marks Fine
    → (i r : ℕ) → i < length states → get_or marks i (Finite 0) ≡ Finite r → HasHeightsTo (GivesAlone body c (get_or states i 0)) r
heights_from_right body c states marks is low pure right i r l e =
    let h = fine_marks body c states marks Fine right refl in
    heights_from_marks body c (count_at states marks) is low (KeepRules-right body c states marks pure right) (get_or states i 0) r
    (count_at-ascending states marks i (Finite 0) pure.ascending l h.count ∙ e)

pub many_from_right : (body : Table) (c : ℕ) (states : List ℕ) (marks : List counts.Count) → IsTable body → IsReached body → c < body.columns → ArePure body c states → IsCountOutcome body c states marks Fine
    → (i p : ℕ) → i < length states → get_or marks i (Finite 0) ≡ Infinite p → HasInfinitelyMany (GivesAlone body c (get_or states i 0))
many_from_right body c states marks is reached low pure right i p l e =
    let h = fine_marks body c states marks Fine right refl in
    let q = pure.each i l in
    many_from_marks body c (count_at states marks) is reached low (KeepRules-right body c states marks pure right) (get_or states i 0) p (pure_from_test body c (get_or states i 0) q.0 q.1)
    (count_at-ascending states marks i (Finite 0) pure.ascending l h.count ∙ e)
