-- The table of the coarsest classes of a formula's table is right for the formula: it answers it, and its states tell when tuples are interchangeable.
use Rattle.std.proofs.Common.{◌≡◌, ℕ, ◌<◌, List, [], map, length, get_or, true, false, ap, sym, ◌∙◌, arith, subst}
use Rattle.std.proofs.lemmas.List.{length-map, get_or-map, ext_get_or}
use Rattle.fort_theory.specs.Signatures.{Signature}
use Rattle.fort_theory.specs.Patterns.{PatternSystem}
use Rattle.fort_theory.specs.Cores.{Core}
use Rattle.fort_theory.specs.PatternStructures.{pattern_structure}
use Rattle.fort_tables.specs.Tuples.{Tuple, root, kid, kids, kid_count, IsTuple}
use Rattle.fort_tables.specs.Entries.{entry}
use Rattle.fort_tables.specs.Tables.{Table, IsTable, IsReached, state_of}
use Rattle.fort_tables.proofs.TupleLaws.{tuple_induction, fold_tuple-step, IsTuple-kid, length-tabulate, get_or-tabulate}
use Rattle.fort_tables.proofs.TableLaws.{table_state, entry_of}
use Rattle.fort_tables.specs.Merges.{merged, IsCoarsest}
use Rattle.fort_tables.proofs.MergeLaws.{class_count, IsTable-merged}
use Rattle.fort_tables.proofs.SeparationLaws.{IsTableEntry-states}
use Rattle.fort_alike.specs.AssignedTuples.{tuple_of}
use Rattle.fort_tables.specs.Agreement.{Agreement, TellsAgreement}
use Rattle.fort_parts.specs.PartColumns.{columns_of}
use Rattle.fort_parts.specs.PartAnswers.{Answer, OfTable, IsAnswerTo}
use Rattle.fort_parts.specs.RightAnswers.{IsRightBy}
use Rattle.fort_parts.proofs.AssignedColumns.{AreTerms-tuple_of}
use Rattle.fort_parts.proofs.StepTables.{IsTuple-terms}
use Rattle.fort_parts.specs.ReducedParts.{InterchangeableAt, AlikeWith}
use Rattle.fort_parts.specs.ToldParts.{ToldWith}
use Rattle.fort_parts.proofs.MergedAnswers.{IsAnswerTo-merged, TellsAgreement-merged}
use Rattle.fort_reduce.specs.MergedTables.{IsMergedTable}
use Rattle.fort_engine.specs.declared.options.Options.{Options}
use Rattle.fort_engine.specs.Kept.{IsRight}

module _ (old new : Table) (classes : List ℕ) (is : IsTable old) (coarsest : IsCoarsest old classes) (same : IsMergedTable old classes new) where
  there : (t : Tuple) → IsTuple new.signature new.columns t → IsTuple old.signature old.columns t
  there t h = subst (λ (s : Signature). IsTuple s old.columns t) same.signature (subst (λ k. IsTuple new.signature k t) same.columns_are h)

  lawful : IsTable (merged old classes)
  lawful = IsTable-merged old classes is coarsest.merge

  -- a tuple has one state in both
  state_same : (t : Tuple) → IsTuple old.signature old.columns t → state_of new t ≡ state_of (merged old classes) t
  state_same = tuple_induction (λ t. IsTuple old.signature old.columns t → state_of new t ≡ state_of (merged old classes) t)
      (λ t ih h.
      let us = kids t in
      let count : length us ≡ kid_count t = length-tabulate (kid_count t) (kid t) in
      let below : map (state_of new) us ≡ map (state_of (merged old classes)) us =
      ext_get_or 0 (map (state_of new) us) (map (state_of (merged old classes)) us) (length-map us (state_of new) ∙ sym (length-map us (state_of (merged old classes))))
      (λ j l.
      let k : j < length us = omega (arith, length-map us (state_of new)) in
      let at : get_or us j [] ≡ kid t j = get_or-tabulate (kid_count t) (kid t) j [] (omega (arith, count)) in
      get_or-map (state_of new) us j [] 0 k
      ∙ (ap (state_of new) at
      ∙ (ih j (omega (arith, count)) (IsTuple-kid old.signature old.columns t j h (omega (arith, count)))
      ∙ (ap (state_of (merged old classes)) (sym at) ∙ sym (get_or-map (state_of (merged old classes)) us j [] 0 k))))) in
      fold_tuple-step (λ f ks. new.target (entry f ks)) t
      ∙ (ap (λ ks. new.target (entry (root t) ks)) below
      ∙ (same.targets (entry_of (state_of (merged old classes)) t) (IsTableEntry-states (merged old classes) lawful t h)
      ∙ sym (fold_tuple-step (λ f ks. (merged old classes).target (entry f ks)) t))))

  accepting_same : (t : Tuple) → IsTuple old.signature old.columns t → new.accepting (state_of new t) ≡ (merged old classes).accepting (state_of (merged old classes) t)
  accepting_same t h =
      ap new.accepting (state_same t h)
      ∙ same.accepting (state_of (merged old classes) t) (omega (arith, (table_state (merged old classes) lawful t h).within, class_count old classes is coarsest.merge))

  tells_same : (like : Agreement) → TellsAgreement (merged old classes) like → TellsAgreement new like
  tells_same like tells t u ht hu =
      let both = tells t u (there t ht) (there u hu) in
      let first = state_same t (there t ht) in
      let second = state_same u (there u hu) in
      ((λ e. both.0 (sym first ∙ (e ∙ second))), (λ h. first ∙ (both.1 h ∙ sym second)))

-- Result
pub IsRightBy-reduced : (system : PatternSystem) (f : Core) (old new : Table) (classes : List ℕ) → IsAnswerTo (pattern_structure system) f (OfTable old) → IsCoarsest old classes
    → IsMergedTable old classes new → IsTable new → IsReached new → IsRightBy system (InterchangeableAt system) f (OfTable new)
IsRightBy-reduced system f old new classes answers coarsest same lawful reached =
    let is = answers.over.lawful in
    let between = IsAnswerTo-merged system f old classes coarsest.merge answers in
    record {
      answers = record {
        over = record {
          some = answers.over.some;
          signature = same.signature ∙ answers.over.signature;
          columns_are = same.columns_are ∙ answers.over.columns_are;
          lawful = lawful;
          reached = reached;
        };
        truth = λ v g.
            let t = tuple_of v (columns_of f) in
            let here : IsTuple old.signature old.columns t =
            subst (λ (s : Signature). IsTuple s old.columns t) (sym answers.over.signature)
            (subst (λ k. IsTuple system.signature k t) (sym answers.over.columns_are) (IsTuple-terms system.signature (length (columns_of f)) t answers.over.some (AreTerms-tuple_of system.signature v (columns_of f) g))) in
            let e = accepting_same old new classes is coarsest same t here in
            let truth = between.truth v g in
            ((λ a. truth.0 (sym e ∙ a)), (λ h. e ∙ truth.1 h));
      };
      alike = tells_same old new classes is coarsest same (InterchangeableAt system f) (TellsAgreement-merged system f old answers classes coarsest);
    }

-- Result: with reduced tables what is kept is right, by the table as it was made
pub IsRight-reduced : (system : PatternSystem) (options : Options) (f : Core) (old new : Table) (classes : List ℕ) → options.reduces ≡ true
    → IsRightBy system (AlikeWith options.reduces system) f (OfTable old) → IsCoarsest old classes → IsMergedTable old classes new → IsTable new → IsReached new
    → IsRight system options f (OfTable new)
IsRight-reduced system options f old new classes is right coarsest same lawful reached =
    subst (λ r. IsRightBy system (ToldWith r system) f (OfTable new)) (sym is) (IsRightBy-reduced system f old new classes right.answers coarsest same lawful reached)

-- Result: without, as it is
pub IsRight-made : (system : PatternSystem) (options : Options) (f : Core) (answer : Answer) → options.reduces ≡ false
    → IsRightBy system (AlikeWith options.reduces system) f answer → IsRight system options f answer
IsRight-made system options f answer is right =
    subst (λ r. IsRightBy system (ToldWith r system) f answer) (sym is) (subst (λ r. IsRightBy system (AlikeWith r system) f answer) is right)
