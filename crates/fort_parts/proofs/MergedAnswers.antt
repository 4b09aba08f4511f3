-- The table of a merge answers what the table answered; with the coarsest merge its states tell when tuples are interchangeable.
use Rattle.std.proofs.Common.{◌≡◌, ℕ, List, length, get_or, ap, sym, ◌∙◌, subst}
use Rattle.fort_theory.specs.Signatures.{Signature}
use Rattle.fort_theory.specs.Patterns.{PatternSystem}
use Rattle.fort_theory.specs.Cores.{Core}
use Rattle.fort_theory.specs.PatternStructures.{pattern_structure}
use Rattle.fort_tables.specs.Tuples.{Tuple, IsTuple}
use Rattle.fort_tables.specs.Tables.{Table, state_of}
use Rattle.fort_tables.specs.Interchange.{Interchangeable}
use Rattle.fort_tables.specs.Merges.{IsMerge, merged, IsCoarsest}
use Rattle.fort_tables.specs.Separation.{entry_with}
use Rattle.fort_tables.proofs.MergeLaws.{IsTable-merged, IsReached-merged, accepting-merged}
use Rattle.fort_tables.proofs.SeparationLaws.{interchangeable_from_joined}
use Rattle.fort_tables.proofs.CoarsestLaws.{merged_tells}
use Rattle.fort_alike.specs.AssignedTuples.{tuple_of}
use Rattle.fort_tables.specs.Agreement.{TellsAgreement}
use Rattle.fort_parts.specs.PartColumns.{columns_of}
use Rattle.fort_parts.specs.AlikeParts.{AlikeAt}
use Rattle.fort_parts.specs.PartAnswers.{OfTable, IsAnswerTo}
use Rattle.fort_parts.specs.RightAnswers.{IsRightFor}
use Rattle.fort_parts.proofs.AssignedColumns.{AreTerms-tuple_of}
use Rattle.fort_parts.proofs.StepTables.{IsTuple-terms}
use Rattle.fort_parts.specs.ReducedParts.{IsSatisfiedBy, InterchangeableAt}
use Rattle.fort_parts.proofs.SatisfiedTuples.{AcceptsExactly-answer}

-- Result: what a merge step leaves is an answer to the formula, whatever its classes are
pub IsAnswerTo-merged : (system : PatternSystem) (f : Core) (table : Table) (classes : List ℕ) → IsMerge table classes → IsAnswerTo (pattern_structure system) f (OfTable table)
    → IsAnswerTo (pattern_structure system) f (OfTable (merged table classes))
IsAnswerTo-merged system f table classes m answers = record {
  over = record {
    some = answers.over.some;
    signature = answers.over.signature;
    columns_are = answers.over.columns_are;
    lawful = IsTable-merged table classes answers.over.lawful m;
    reached = IsReached-merged table classes answers.over.lawful m answers.over.reached;
  };
  truth = λ v g.
      let t = tuple_of v (columns_of f) in
      let is : IsTuple table.signature table.columns t =
      subst (λ (s : Signature). IsTuple s table.columns t) (sym answers.over.signature)
      (subst (λ k. IsTuple system.signature k t) (sym answers.over.columns_are) (IsTuple-terms system.signature (length (columns_of f)) t answers.over.some (AreTerms-tuple_of system.signature v (columns_of f) g))) in
      let e = accepting-merged table classes answers.over.lawful m t is in
      let old = answers.truth v g in
      ((λ a. old.0 (sym e ∙ a)), (λ h. e ∙ old.1 h));
}

module _ (system : PatternSystem) (f : Core) (table : Table) (answers : IsAnswerTo (pattern_structure system) f (OfTable table)) where
  -- tuples of the table, as tuples of the formula
  pub interchangeable_there : (t u : Tuple) → Interchangeable table.signature table.columns (IsSatisfiedBy system f) t u → InterchangeableAt system f t u
  interchangeable_there t u h =
      subst (λ (s : Signature). Interchangeable s (length (columns_of f)) (IsSatisfiedBy system f) t u) answers.over.signature
      (subst (λ k. Interchangeable table.signature k (IsSatisfiedBy system f) t u) answers.over.columns_are h)

  pub interchangeable_back : (t u : Tuple) → InterchangeableAt system f t u → Interchangeable table.signature table.columns (IsSatisfiedBy system f) t u
  interchangeable_back t u h =
      subst (λ k. Interchangeable table.signature k (IsSatisfiedBy system f) t u) (sym answers.over.columns_are)
      (subst (λ (s : Signature). Interchangeable s (length (columns_of f)) (IsSatisfiedBy system f) t u) (sym answers.over.signature) h)

  -- Result: the states of the reduced table tell when tuples are interchangeable at the formula
  pub TellsAgreement-merged : (classes : List ℕ) → IsCoarsest table classes → TellsAgreement (merged table classes) (InterchangeableAt system f)
  TellsAgreement-merged classes m t u ht hu =
      let w = merged_tells table classes (IsSatisfiedBy system f) answers.over.lawful answers.over.reached (AcceptsExactly-answer system f table answers) m t u ht hu in
      ((λ e. interchangeable_there t u (w.0 e)), (λ h. w.1 (interchangeable_back t u h)))

  -- tuples of one state are interchangeable
  pub interchangeable_in_state : (t u : Tuple) → IsTuple table.signature table.columns t → IsTuple table.signature table.columns u → state_of table t ≡ state_of table u → InterchangeableAt system f t u
  interchangeable_in_state t u ht hu e =
      interchangeable_there t u
      (interchangeable_from_joined table (λ p q. p ≡ q) (IsSatisfiedBy system f) answers.over.lawful (AcceptsExactly-answer system f table answers)
      (record {
        columns = λ p q h. ap (λ s. get_or table.presences s 0) h;
        acceptance = λ p q h. ap table.accepting h;
        entries = λ g ks j p q stand h. ap (λ s. table.target (entry_with g ks j s)) h;
      }) t u ht hu e)

-- Result: tuples that are alike are interchangeable, where the formula has a right answer
pub interchangeable_from_alike : (system : PatternSystem) → (f : Core) (table : Table) → IsRightFor system f (OfTable table) → (t u : Tuple)
    → IsTuple system.signature (length (columns_of f)) t → IsTuple system.signature (length (columns_of f)) u → AlikeAt system f t u → InterchangeableAt system f t u
interchangeable_from_alike system f table right t u ht hu h =
    let at : (s : Tuple) → IsTuple system.signature (length (columns_of f)) s → IsTuple table.signature table.columns s =
    λ s i. subst (λ (z : Signature). IsTuple z table.columns s) (sym right.answers.over.signature) (subst (λ k. IsTuple system.signature k s) (sym right.answers.over.columns_are) i) in
    interchangeable_in_state system f table right.answers t u (at t ht) (at u hu) ((right.alike t u (at t ht) (at u hu)).1 h)
