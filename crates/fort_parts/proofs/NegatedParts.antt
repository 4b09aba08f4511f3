-- A negation tells tuples apart exactly where its body does.
use Rattle.std.proofs.Common.{◌≡◌, ◌↔◌, length, true, sym, ◌∙◌, subst, true≢false}
use Rattle.std.proofs.lemmas.List.Kept.{AllPairs-from_increasing}
use Rattle.fort_theory.specs.Signatures.{Signature}
use Rattle.fort_theory.specs.Patterns.{PatternSystem}
use Rattle.fort_theory.specs.Cores as core
use Rattle.fort_theory.specs.Cores.{Core}
use Rattle.fort_theory.specs.PatternStructures.{pattern_structure}
use Rattle.fort_tables.specs.Tuples.{Tuple, IsTuple, IsFull}
use Rattle.fort_tables.specs.Tables.{Table, state_of}
use Rattle.fort_tables.specs.Interchange.{tuple_with}
use Rattle.fort_tables.proofs.PlaceLaws.{IsTuple-tuple_with, full-tuple_with}
use Rattle.fort_tables.proofs.SeparationLaws.{by_test}
use Rattle.fort_parts.specs.PartColumns.{columns_of}
use Rattle.fort_parts.specs.PartAnswers.{OfTable, IsAnswerTo}
use Rattle.fort_parts.proofs.PartColumnLaws.{AreColumns-columns_of}
use Rattle.fort_parts.specs.ReducedParts.{IsSatisfiedBy, InterchangeableAt}
use Rattle.fort_parts.proofs.SatisfiedTuples.{HasConstant-tuple, assigned, AcceptsExactly-answer}

module _ (system : PatternSystem) (f : Core) (table : Table) (answers : IsAnswerTo (pattern_structure system) f (OfTable table)) where
  satisfied_not : (t : Tuple) → IsTuple system.signature (length (columns_of f)) t → IsFull t → IsSatisfiedBy system (core.Not f) t ↔ (IsSatisfiedBy system f t → ⊥)
  satisfied_not t h full =
      let up = AllPairs-from_increasing (columns_of f) (AreColumns-columns_of f).ascending in
      let constant = HasConstant-tuple system.signature (length (columns_of f)) t h in
      let v = assigned system.signature (columns_of f) t constant (λ i j l m. up i j 0 l m) h.width full h.grounded in
      let at : Tuple → Type 0 = λ s. table.accepting (state_of table s) ≡ true in (
        (λ x k. x.holds ((answers.truth x.places x.grounded).0 (subst at (sym x.are) (subst at k.are ((answers.truth k.places k.grounded).1 k.holds))))),
        (λ n. record { places = v.places; grounded = v.grounded; are = v.is; holds = λ m. n (record { places = v.places; grounded = v.grounded; are = v.is; holds = m }) }),
      )

  -- of what is satisfied, one of the two is
  satisfied_or : (X : Type 0) (t : Tuple) → IsTuple system.signature (length (columns_of f)) t → IsFull t → (IsSatisfiedBy system f t → X) → ((IsSatisfiedBy system f t → ⊥) → X) → X
  satisfied_or X t h full yes_case no_case =
      let is : IsTuple table.signature table.columns t =
      subst (λ (z : Signature). IsTuple z table.columns t) (sym answers.over.signature) (subst (λ k. IsTuple system.signature k t) (sym answers.over.columns_are) h) in
      let d = AcceptsExactly-answer system f table answers t is full in
      by_test X (table.accepting (state_of table t)) (λ e. yes_case (d.0 e)) (λ e. no_case (λ r. true≢false (sym (d.1 r) ∙ e)))

  -- Result
  pub interchangeable_not : (t u : Tuple) → IsTuple system.signature (length (columns_of f)) t → IsTuple system.signature (length (columns_of f)) u
      → InterchangeableAt system f t u ↔ InterchangeableAt system (core.Not f) t u
  interchangeable_not t u ht hu =
      let sig = system.signature in
      let n = length (columns_of f) in (
        (λ h. record {
          same_columns = h.same_columns;
          same = λ w p place.
              let both = h.same w p place in
              let one = satisfied_not (tuple_with w p t) (IsTuple-tuple_with sig n w p t place.tuple ht) (full-tuple_with w p t place.full) in
              let other = satisfied_not (tuple_with w p u) (IsTuple-tuple_with sig n w p u place.tuple hu) (full-tuple_with w p u place.full) in
              ((λ x. other.1 (λ r. one.0 x (both.1 r))), (λ x. one.1 (λ r. other.0 x (both.0 r))));
        }),
        (λ h. record {
          same_columns = h.same_columns;
          same = λ w p place.
              let both = h.same w p place in
              let it = IsTuple-tuple_with sig n w p t place.tuple ht in
              let ft = full-tuple_with w p t place.full in
              let iu = IsTuple-tuple_with sig n w p u place.tuple hu in
              let fu = full-tuple_with w p u place.full in
              let one = satisfied_not (tuple_with w p t) it ft in
              let other = satisfied_not (tuple_with w p u) iu fu in (
                (λ r. satisfied_or (IsSatisfiedBy system f (tuple_with w p u)) (tuple_with w p u) iu fu (λ x. x) (λ m. absurd (one.0 (both.1 (other.1 m)) r))),
                (λ r. satisfied_or (IsSatisfiedBy system f (tuple_with w p t)) (tuple_with w p t) it ft (λ x. x) (λ m. absurd (other.0 (both.0 (one.1 m)) r))),
              );
        }),
      )
