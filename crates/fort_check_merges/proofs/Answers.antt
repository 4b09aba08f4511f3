-- What a failure tells of a merge.
use Rattle.std.proofs.Common.{◌≡◌, ℕ, ◌<◌, List, length, get_or, Result, Err, OnErr, refl, ap, sym, subst}
use Rattle.fort_tables.specs.Entries.{Entry}
use Rattle.fort_tables.specs.Tables.{Table}
use Rattle.fort_tables.specs.MergeOutcomes.{IsClassAt, AreClassesTo, IsWholeAt, AreEntriesOf, WrongCount, WrongClass, IsSplitAt, NotAsMany, NotOfClass, NotWhole}
use Rattle.fort_check_merges.specs.MergeAnswers.{IsAnswer}
use Rattle.fort_check_steps.specs.StepAnswers.{outcome_of}
use Rattle.fort_check_steps.specs.declared.failure.Failure.{Failure}
use Rattle.fort_check_steps.specs.declared.failure.Reason.TheVariants.{Class, Count, Split}

module _ {U : Type 0} (table : Table) (classes : List ℕ) where
  pub wrong_count : (result : Result U Failure) → result ≡ Err (record { place = 0; reason = Count }) → (length classes ≡ length table.presences → ⊥) → OnErr result (IsAnswer table classes result)
  wrong_count result e n = subst (λ (r : Result U Failure). OnErr r (IsAnswer table classes r)) (sym e) (WrongCount, NotAsMany n, refl)

  pub wrong_class : (q : ℕ) (result : Result U Failure) → result ≡ Err (record { place = q; reason = Class }) → length classes ≡ length table.presences
      → ((i : ℕ) → i < q → IsClassAt table classes i) → q < length classes → (IsClassAt table classes q → ⊥) → OnErr result (IsAnswer table classes result)
  wrong_class q result e count before l n =
      subst (λ (r : Result U Failure). OnErr r (IsAnswer table classes r)) (sym e)
      (WrongClass q, NotOfClass q (record { count = count; right = before }) l n, refl)

  pub split_entry : (entries : List Entry) (i : ℕ) (d : Entry) (result : Result U Failure) → result ≡ Err (record { place = i; reason = Split }) → AreEntriesOf table entries
      → AreClassesTo table classes (length classes) → i < length entries → ((k : ℕ) → k < i → IsWholeAt table classes (get_or entries k d)) → (IsWholeAt table classes (get_or entries i d) → ⊥)
      → IsAnswer table classes result
  split_entry entries i d result e are right l before n = (IsSplitAt i, NotWhole entries i d are right l before n, sym (ap outcome_of e))
