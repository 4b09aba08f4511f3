-- A table whose states tell a likeness has a tuple for each, no two alike: so what is kept has no more states than the cap.
use Rattle.std.specs.Prelude.{◌≡◌, ◌<◌, ◌≤◌, ◌+◌, ℕ, zero, suc, List, [], ◌∷◌, length, get_or, Option, Some}
use Rattle.std.proofs.Common.{refl, ap, subst, arith, ⊎_elim}
use Rattle.std.proofs.lemmas.Bool.{cases_lt}
use Rattle.fort_theory.specs.Signatures.{Signature}
use Rattle.fort_theory.specs.Patterns.{PatternSystem}
use Rattle.fort_theory.specs.Cores.{Core}
use Rattle.fort_tables.specs.Tuples.{Tuple, IsTuple}
use Rattle.fort_tables.specs.Tables.{Table, state_of, IsReached, listed_table}
use Rattle.fort_tables.specs.Agreement.{Agreement}
use Rattle.fort_parts.specs.PartColumns.{columns_of}
use Rattle.fort_parts.specs.AlikeParts.{IsOverBy}
use Rattle.fort_parts.specs.PartAnswers.{OfTable}
use Rattle.fort_parts.specs.RightAnswers.{IsRightBy}
use Rattle.fort_parts.specs.ToldParts.{ToldWith}
use Rattle.fort_engine.specs.declared.answer.Last.{Last}
use Rattle.fort_engine.specs.declared.answer.Last.TheVariants.{Truth, Auto}
use Rattle.fort_engine.specs.declared.options.Options.{Options}
use Rattle.fort_engine.specs.AnswerView.{as_answer, HasStatesWithin}
use Rattle.fort_engine.specs.Kept.{IsRight, IsKeptOverCap, HasRightAnswer}
use Rattle.fort_engine.proofs.OperandLaws.{IsRight-taken}

-- a tuple for each of n states from one on
record HasTuplesFrom (t : Table) (from n : ℕ) : Type 0 where
  tuples : List Tuple
  count : length tuples ≡ n
  are : (j : ℕ) → j < n → IsTuple t.signature t.columns (get_or tuples j [])
  states : (j : ℕ) → j < n → state_of t (get_or tuples j []) ≡ from + j

tuples_from : (t : Table) → IsReached t → (from n : ℕ) → from + n ≤ length t.presences → HasTuplesFrom t from n
tuples_from t reached from zero l = record {
  tuples = [];
  count = refl;
  are = λ j m. absurd (omega arith);
  states = λ j m. absurd (omega arith);
}
tuples_from t reached from (suc n) l =
    let here = reached from (omega arith) in
    let later = tuples_from t reached (suc from) n (omega arith) in
    record {
      tuples = here.0 ∷ later.tuples;
      count = ap suc later.count;
      are =
          λ j.
          elim j as (λ j. j < suc n → IsTuple t.signature t.columns (get_or (here.0 ∷ later.tuples) j []))
          [ zero ↦ (λ m. here.1) | suc i ↦ (λ m. later.are i (omega arith)) ];
      states =
          λ j.
          elim j as (λ j. j < suc n → state_of t (get_or (here.0 ∷ later.tuples) j []) ≡ from + j)
          [ zero ↦ (λ m. omega (arith, here.2)) | suc i ↦ (λ m. omega (arith, later.states i (omega arith))) ];
    }

-- with more states than a cap, more tuples than it are told apart
IsOverBy-states : (system : PatternSystem) (like : Core → Agreement) (f : Core) (table : Table) (cap : ℕ)
    → IsRightBy system like f (OfTable table) → cap < length table.presences → IsOverBy system like f cap
IsOverBy-states system like f table cap right l =
    let over = right.answers.over in
    let made = tuples_from table over.reached 0 (cap + 1) (omega arith) in
    let at : (s : Tuple) → IsTuple table.signature table.columns s → IsTuple system.signature (length (columns_of f)) s =
    λ s i.
    subst (λ (z : Signature). IsTuple z (length (columns_of f)) s) over.signature
    (subst (λ k. IsTuple table.signature k s) over.columns_are i) in
    record {
      some = over.some;
      over = (
        made.tuples,
        record {
          many = made.count;
          tuples = λ j m. at (get_or made.tuples j []) (made.are j (omega (arith, made.count)));
          unlike =
              λ i j m n alike.
              let low : i < cap + 1 = omega (arith, made.count) in
              let also : j < cap + 1 = omega (arith, made.count) in
              let t = get_or made.tuples i [] in
              let u = get_or made.tuples j [] in
              let same = (right.alike t u (made.are i low) (made.are j also)).1 alike in
              omega (arith, same, made.states i low, made.states j also);
        },
      );
    }

few_states : (system : PatternSystem) (options : Options) (f : Core) (answer : Last) → IsRight system options f (as_answer answer)
    → (IsKeptOverCap system options f → ⊥) → HasStatesWithin options.cap answer
few_states system options f (Truth b) right within = tt
few_states system options f (Auto table) right within =
    ⊎_elim
    (λ l. absurd (within (IsOverBy-states system (ToldWith options.reduces system) f (listed_table table) options.cap right l)))
    (λ l. l)
    (cases_lt options.cap (length table.presences))

-- Result: what is taken has no more states than the cap
pub HasStatesWithin-taken : (system : PatternSystem) (options : Options) (f : Core) (taken : Option Last) (answer : Last)
    → HasRightAnswer system options f taken → taken ≡ Some answer → (IsKeptOverCap system options f → ⊥) → HasStatesWithin options.cap answer
HasStatesWithin-taken system options f taken answer has is within =
    few_states system options f answer (IsRight-taken system options f taken answer has is) within
