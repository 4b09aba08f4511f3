-- What deciding the core formula of an accepted formula asks, and what it says of the formula.
use Rattle.std.specs.Prelude.{◌≡◌, ◌↔◌, ℕ, List, [], length, Bool, true, false, Decides, Some, slice_get}
use Rattle.std.specs.List.{range_with_len}
use Rattle.std.proofs.Common.{refl, sym, ap, subst, ◌∙◌, arith}
use Rattle.fort_theory.specs.Trees.{Tree}
use Rattle.fort_theory.specs.Sides.{System, IsIndexOf}
use Rattle.fort_theory.specs.Patterns.{PatternSystem, pattern_system, IsSystem}
use Rattle.fort_logic.specs.Formulas.{Formula, Var, Name}
use Rattle.fort_logic.specs.FreeNames.{free_names}
use Rattle.fort_theory.specs.Cores.{Core}
use Rattle.fort_theory.specs.CoreTruth.{Places, IsMetBy}
use Rattle.fort_logic.specs.KeepsTruth.{AreTheirPlaces, SuitsTerminations}
use Rattle.fort_theory.proofs.RightGroundTargets.{IsRightGroundAt-patterns}
use Rattle.fort_theory.specs.Parts.{IsWellFormed}
use Rattle.fort_logic.specs.Translation.{core_of}
use Rattle.fort_theory.specs.Structures.{structure_of}
use Rattle.fort_theory.specs.PatternStructures.{pattern_structure}
use Rattle.fort_logic.specs.Truth.{Assignment, IsGroundAssignment, GivesTerms, Holds}
use Rattle.fort_formulas.specs.KindView.{as_kind}
use Rattle.fort_parts.specs.DecidedCores.{IsOverSystem, IsDecided}
use Rattle.fort_parts.specs.PartColumns.{columns_of}
use Rattle.fort_parts.specs.PartAnswers.{Answer, OfValue, OfTable, IsAnswerTo}
use Rattle.fort_answer_laws.proofs.NamedColumns.{columns_of-core_of}
use Rattle.fort_theory.proofs.SameCoreRoots.{IsMetBy-by_patterns}
use Rattle.fort_run.proofs.TranslatedCores.{IsOverSystem-core_of}
use Rattle.fort_answers.specs.Lines.{positive, negative, yes_line, no_line}
use Rattle.fort_answers.specs.SystemAnswer.{PassesCap}
use Rattle.fort_answers.specs.DecideAnswer.{TruthVerdict, Yes, No}
use Rattle.fort_engine.specs.declared.answer.Limit.{Limit}
use Rattle.fort_engine.specs.declared.answer.Last.{Last}
use Rattle.fort_engine.specs.declared.answer.Last.TheVariants.{Truth as Value, Auto}
use Rattle.fort_engine.specs.AnswerView.{as_answer, IsLimit}
use Rattle.fort_lockstep.specs.declared.dta.Dta.{Dta}
use Rattle.fort_tables.specs.Tables.{listed_table}
use Rattle.fort_answers.specs.Requests.{Text, Options}
use Rattle.fort_run.specs.Certified.{IsTruth}
use Rattle.fort_run.specs.Ready.{IsLawful, IsReady, IsAnsweredBy, IsDecidedBy}
use Rattle.fort_run.proofs.SomeParts.{some_parts}

no_name : (n : ℕ) (x : Name) → slice_get [] n ≡ Some x → ⊥
no_name n x is = cc

-- a closed formula has no columns
pub closed_columns : (terms : List Tree) (f : Formula) → free_names f ≡ [] → columns_of (core_of terms f) ≡ []
closed_columns terms f closed = columns_of-core_of terms f ∙ ap (λ xs. range_with_len 0 (length xs)) closed

-- what deciding asks
pub decided_core : (f : Formula) (system : PatternSystem) (terms : List Tree) (core : Core) → IsSystem system → IsReady f system terms → IsWellFormed core → core ≡ core_of terms f → IsDecided system core
decided_core f system terms core lawful ready well is =
    let first : IsIndexOf system.rules 1 = record { low = omega arith; high = lawful.some } in
    record {
      well_formed = well;
      over = subst (IsOverSystem system) (sym is) (IsOverSystem-core_of system first terms ready.grounded f ready.within ready.has_terms ready.few);
    }

-- ---- from the core formula to the formula

pub passes : (system : System) (terms : List Tree) (f : Formula) (options : Options) (limit : Limit) → IsLimit (pattern_system system) options.reduces (core_of terms f) options.states limit
    → PassesCap system terms f options limit.part (as_kind limit.kind)
passes system terms f options limit is =
    let parts = some_parts (core_of terms f) in
    record {
      parts = parts.0;
      are_parts = parts.1;
      first = is.first parts.0 parts.1;
      kind_is = is.kind parts.0 parts.1;
    }

module _ (p : System) (lawful : IsLawful p) (f : Formula) (terms : List Tree) (answer : Answer)
    (answered : IsAnsweredBy f (pattern_system p) terms answer) where
  -- the formula of names is true of the trees of which the core formula is
  pub same_truth : (m : Assignment) (v : Places) → IsGroundAssignment (structure_of p) m → GivesTerms terms m → AreTheirPlaces f m v
      → Holds (structure_of p) f m ↔ IsMetBy (pattern_structure (pattern_system p)) (core_of terms f) v
  same_truth m v ground given places =
      let suits : SuitsTerminations p f m = λ index c. ((IsRightGroundAt-patterns p index).1 (answered.ready.right_ground index c), ground) in
      let one = answered.keeps p lawful.constant answered.ready.grounded m v suits given places in
      let two = IsMetBy-by_patterns p lawful.constant lawful.separated (core_of terms f) v in
      ((λ h. two.0 (one.0 h)), (λ h. one.1 (two.1 h)))

module _ (p : System) (lawful : IsLawful p) (f : Formula) (terms : List Tree) (last : Last)
    (decided : IsDecidedBy f (pattern_system p) terms last) where
  -- the core formula of a closed formula is true of any trees, or of none
  module _ (closed : free_names f ≡ []) (b : Bool) (is : last ≡ Value b) where
    their_places : (m : Assignment) → AreTheirPlaces f m (λ n. m (Var []))
    their_places m n x at = absurd (no_name n x (subst (λ xs. slice_get xs n ≡ Some x) closed at))

    says : (m : Assignment) → IsGroundAssignment (structure_of p) m → GivesTerms terms m → Decides b (Holds (structure_of p) f m)
    says m ground given =
        let v : Places = λ n. m (Var []) in
        let own : IsAnswerTo (pattern_structure (pattern_system p)) (core_of terms f) (OfValue b) =
        subst (λ a. IsAnswerTo (pattern_structure (pattern_system p)) (core_of terms f) (as_answer a)) is decided.answers in
        let d = own.truth v (λ n. ground (Var [])) in
        let t = same_truth p lawful f terms (as_answer last) decided m v ground given (their_places m) in
        ((λ e. t.1 (d.0 e)), (λ h. d.1 (t.0 h)))

    pub true_verdict : (s : ℕ) (t : Text) → b ≡ true → s ≡ positive → t ≡ yes_line → TruthVerdict p terms f s t
    true_verdict s t e status_is text_is = Yes (λ m ground given. (says m ground given).0 e) (record { same_status = status_is; same_text = text_is })

    pub false_verdict : (s : ℕ) (t : Text) → b ≡ false → s ≡ negative → t ≡ no_line → TruthVerdict p terms f s t
    false_verdict s t e status_is text_is =
        No (λ m ground given h. let one = (says m ground given).1 h in let zero : false ≡ true = sym e ∙ one in cc)
        (record { same_status = status_is; same_text = text_is })

    -- what the core formula comes to is the formula's truth
    pub is_truth : IsTruth b p terms f
    is_truth = elim b as (λ x. ((m : Assignment) → IsGroundAssignment (structure_of p) m → GivesTerms terms m → Decides x (Holds (structure_of p) f m)) → IsTruth x p terms f) [
      | true ↦ (λ s. λ m ground given. (s m ground given).0 refl)
      | false ↦ (λ s. λ m ground given h. let one = (s m ground given).1 h in absurd cc)
    ] says

-- a closed formula has no table
pub no_table : (f : Formula) (system : PatternSystem) (terms : List Tree) (last : Last) (table : Dta) → last ≡ Auto table → free_names f ≡ []
    → IsDecidedBy f system terms last → ⊥
no_table f system terms last table is closed decided =
    let own : IsAnswerTo (pattern_structure system) (core_of terms f) (OfTable (listed_table table)) =
    subst (λ a. IsAnswerTo (pattern_structure system) (core_of terms f) (as_answer a)) is decided.answers in
    let none : length (columns_of (core_of terms f)) ≡ 0 = ap length (closed_columns terms f closed) in
    omega (arith, own.over.some)
