-- What tells whether infinitely many terms give a pure state also finds terms of every height, or a bound.
use Rattle.std.proofs.Common.{◌≡◌, ℕ, ◌<◌, Bool, true, false, refl, sym, ◌∙◌}
use Rattle.fort_theory.specs.Logic.{HasInfinitelyMany}
use Rattle.fort_tables.specs.Tables.{Table, IsTable, IsReached}
use Rattle.fort_tables.specs.PureStates.{GivesAlone, IsPureState}
use Rattle.fort_tables.specs.Heights.{HasEveryHeight, HasHeightsTo}
use Rattle.fort_tables.specs.Counts.{Count, Finite, Infinite, is_infinite, KeepRules}
use Rattle.fort_tables.specs.ManyLabels.{TellsMany}
use Rattle.fort_tables.proofs.MarkLaws.{heights_from_marks, every_height_from_marks, many_from_marks, not_many_from_marks, infinite_exactly}
use Rattle.fort_tables.proofs.MarksExist.{marks_exist}

-- the same with the terms and the bound at hand
pub record FindsMany (body : Table) (c : ℕ) (many : ℕ → Bool) : Type 0 where
  pub every : (k : ℕ) → IsPureState body c k → many k ≡ true → HasEveryHeight (GivesAlone body c k)
  pub bound : (k : ℕ) → IsPureState body c k → many k ≡ false → (r : ℕ) × HasHeightsTo (GivesAlone body c k) r

every_of : (body : Table) (c : ℕ) (mark : ℕ → Count) → IsTable body → IsReached body → c < body.columns → KeepRules body c mark → (k : ℕ) → IsPureState body c k → (n : Count) → mark k ≡ n → HasInfinitelyMany (GivesAlone body c k) → HasEveryHeight (GivesAlone body c k)
every_of body c mark is reached low keep k pure (Finite r) e h = absurd (not_many_from_marks body c mark is low keep k r e h)
every_of body c mark is reached low keep k pure (Infinite p) e h = every_height_from_marks body c mark is reached low keep k p pure e

bound_of : (body : Table) (c : ℕ) (mark : ℕ → Count) → IsTable body → IsReached body → c < body.columns → KeepRules body c mark → (k : ℕ) → IsPureState body c k → (n : Count) → mark k ≡ n → (HasInfinitelyMany (GivesAlone body c k) → ⊥) → (r : ℕ) × HasHeightsTo (GivesAlone body c k) r
bound_of body c mark is reached low keep k pure (Finite r) e h = (r, heights_from_marks body c mark is low keep k r e)
bound_of body c mark is reached low keep k pure (Infinite p) e h = absurd (h (many_from_marks body c mark is reached low keep k p pure e))

-- marks exist, so what is said of them in the negative can be found
pub finds_many : (body : Table) (c : ℕ) (many : ℕ → Bool) → IsTable body → IsReached body → c < body.columns → TellsMany body c many → FindsMany body c many
finds_many body c many is reached low tells =
    let x = marks_exist body c low in
    record {
      every = λ k pure h. every_of body c x.0 is reached low x.1 k pure (x.0 k) refl ((tells k pure).0 h);
      bound = λ k pure h. bound_of body c x.0 is reached low x.1 k pure (x.0 k) refl (λ z. let e : true ≡ false = sym ((tells k pure).1 z) ∙ h in absurd cc);
    }

-- Result: marks whose rules hold tell the pure states
pub TellsMany-marks : (body : Table) (c : ℕ) (mark : ℕ → Count) → IsTable body → IsReached body → c < body.columns → KeepRules body c mark → TellsMany body c (λ k. is_infinite (mark k))
TellsMany-marks body c mark is reached low keep k pure = infinite_exactly body c mark is reached low keep k pure
