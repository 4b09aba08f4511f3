-- To believe: when a certificate of a closed formula is in order, and with which verdict; and which form of another fails first, at which place and why.
use Rattle.std.specs.Prelude.{◌≡◌, ℕ, ◌+◌, Bool, List, [], ◌∷◌, ◌++◌, length, get_or, Option, None, Some}
use Rattle.fort_theory.specs.Patterns.{PatternSystem}
use Rattle.fort_theory.specs.Cores as core
use Rattle.fort_theory.specs.Cores.{Core}
use Rattle.fort_theory.specs.PartLists.{AreParts}
use Rattle.fort_tables.specs.Entries.{Entry}
use Rattle.fort_tables.specs.Tables.{Table, listed_table}
use Rattle.fort_tables.specs.Counts as counts
use Rattle.fort_tables.specs.Merges.{merged, IsMerge}
use Rattle.fort_tables.specs.MergeOutcomes.{MergeOutcome, AreEntriesOf, IsMergeOutcome}
use Rattle.fort_parts.specs.PartColumns.{columns_of, place_in}
use Rattle.fort_parts.specs.PartAnswers.{OfValue, OfTable}
use Rattle.fort_certificate_theory.specs.Certificates as certificates
use Rattle.fort_alike.specs.ListedClosures.{Which, Pair as Item}
use Rattle.fort_certificate_theory.specs.Certificates.{Step, Closure, Part, Merge, Counts, Certificate}
use Rattle.fort_certificate_theory.specs.Outcomes.{Reason, Due, Value, Verdict, StepOutcome, Fine, Fails}
use Rattle.fort_certificate_theory.specs.PartSteps.{IsRightPart, IsPartFailure, part_table}
use Rattle.fort_certificate_theory.specs.ClosureSteps.{ClosureRules, AreClosureRules, IsClosureOutcome}
use Rattle.fort_certificate_theory.specs.CountSteps.{IsCountOutcome}
use Rattle.fort_certificate_theory.specs.MergeSteps.{step_outcome, listed_merge}
use Rattle.fort_certificate_theory.specs.Dues.{DueStep, due_of, dues_of}
use Rattle.fort_certificate_theory.specs.Made.{MadeSoFar, nothing_made, with_closure, with_counts, with_answer}
use Rattle.fort_certificate_theory.specs.PartRules.{Local, IsLocalOf, IsCounted, IsValueOf}

-- what comes of the items of a closure; of the counts of part k
pub record IsClosureJudged (system : PatternSystem) (which : Which) (index : ℕ) (items : List Item) (outcome : StepOutcome) : Type 0 where
  pub rules : ClosureRules
  pub rules_are : AreClosureRules system which index rules
  pub is : IsClosureOutcome rules items outcome

pub record IsCountJudged (parts : List Core) (made : MadeSoFar) (k : ℕ) (marks : List counts.Count) (outcome : StepOutcome) : Type 0 where
  pub number : ℕ
  pub body : Core
  pub table : Table
  pub states : List ℕ
  pub part : get_or parts k core.True ≡ core.Infinite number body
  pub counted : IsCounted parts made number body table states
  pub is : IsCountOutcome table (place_in (columns_of body) number) states marks outcome

-- a step is fine after what was made before, and what is made then
pub data IsFine (system : PatternSystem) (parts : List Core) (made : MadeSoFar) : Step → MadeSoFar → Type 0 where
  FineClosure : {which : Which} {index : ℕ} {items : List Item} → IsClosureJudged system which index items Fine
      → IsFine system parts made (Closure which index items) (with_closure made which index items)
  FinePart : {k : ℕ} {targets : List ℕ} (local : Local) (entries : List Entry) (labels : List (List ℕ))
      → IsLocalOf system parts made k (get_or parts k core.True) local → IsRightPart local.rule targets entries labels
      → IsFine system parts made (Part k targets)
      (with_answer made k (OfTable (listed_table (part_table local.rule local.accepting entries targets labels))))
  FineMerge : {k : ℕ} {classes : List ℕ} (table : Table) (entries : List Entry) → made.answers k ≡ OfTable table → IsMerge table classes
      → AreEntriesOf (merged table classes) entries
      → IsFine system parts made (Merge k classes) (with_answer made k (OfTable (listed_table (listed_merge table classes entries))))
  FineCounts : {k : ℕ} {marks : List counts.Count} → IsCountJudged parts made k marks Fine
      → IsFine system parts made (Counts k marks) (with_counts made k marks)
  FineValue : {k : ℕ} {value : Bool} → IsValueOf parts made k (get_or parts k core.True) value
      → IsFine system parts made (certificates.Value k value) (with_answer made k (OfValue value))

-- a step fails at a place
pub data IsFailing (system : PatternSystem) (parts : List Core) (made : MadeSoFar) : Step → ℕ → Reason → Type 0 where
  FailingClosure : {which : Which} {index : ℕ} {items : List Item} {place : ℕ} {reason : Reason}
      → IsClosureJudged system which index items (Fails place reason)
      → IsFailing system parts made (Closure which index items) place reason
  FailingPart : {k : ℕ} {targets : List ℕ} {place : ℕ} {reason : Reason} (local : Local)
      → IsLocalOf system parts made k (get_or parts k core.True) local
      → IsPartFailure local.rule targets place reason → IsFailing system parts made (Part k targets) place reason
  FailingMerge : {k : ℕ} {classes : List ℕ} {place : ℕ} {reason : Reason} (table : Table) (outcome : MergeOutcome)
      → made.answers k ≡ OfTable table → IsMergeOutcome table classes outcome → step_outcome outcome ≡ Fails place reason
      → IsFailing system parts made (Merge k classes) place reason
  FailingCounts : {k : ℕ} {marks : List counts.Count} {place : ℕ} {reason : Reason} → IsCountJudged parts made k marks (Fails place reason)
      → IsFailing system parts made (Counts k marks) place reason
  FailingValue : {k : ℕ} {value : Bool} (own : Bool) → IsValueOf parts made k (get_or parts k core.True) own → (value ≡ own → ⊥)
      → IsFailing system parts made (certificates.Value k value) 0 Value

-- these steps, one by one, are those due, and each is a step from what was made before to what is made then
pub data AreSteps (IsStep : MadeSoFar → Step → MadeSoFar → Type 0) : MadeSoFar → List DueStep → List Step → MadeSoFar → Type 0 where
  NoSteps : {made : MadeSoFar} → AreSteps IsStep made [] [] made
  MoreSteps : {made next last : MadeSoFar} {s : Step} {d : DueStep} {ds : List DueStep} {ss : List Step} → due_of s ≡ d → IsStep made s next
      → AreSteps IsStep next ds ss last → AreSteps IsStep made (d ∷ ds) (s ∷ ss) last

-- ---- what comes of the steps

-- the steps in front are fine; what is left then of those due, and of those that are there
pub record IsUpTo (system : PatternSystem) (parts : List Core) (steps front : List Step) (wanted : List DueStep) (rest : List Step)
    (made : MadeSoFar) : Type 0 where
  pub done : List DueStep
  pub dues_are : dues_of steps (length system.rules) parts ≡ done ++ wanted
  pub steps_are : steps ≡ front ++ rest
  pub fine : AreSteps (IsFine system parts) nothing_made done front made

-- all are fine, and this is made then
abbrev pub AreAllFine : PatternSystem → List Core → List Step → MadeSoFar → Type 0
AreAllFine system parts steps made = AreSteps (IsFine system parts) nothing_made (dues_of steps (length system.rules) parts) steps made

-- those in front are fine, and the next one fails, isn't the one due, or isn't there
pub data IsFirstFailure (system : PatternSystem) (parts : List Core) (steps : List Step) : (front : List Step) → ℕ → Reason → Type 0 where
  Failing : {place : ℕ} {reason : Reason} (front rest : List Step) (s : Step) (d : DueStep) (wanted : List DueStep) (made : MadeSoFar)
      → IsUpTo system parts steps front (d ∷ wanted) (s ∷ rest) made → due_of s ≡ d → IsFailing system parts made s place reason
      → IsFirstFailure system parts steps front place reason
  NotDue : (front rest : List Step) (s : Step) (d : DueStep) (wanted : List DueStep) (made : MadeSoFar)
      → IsUpTo system parts steps front (d ∷ wanted) (s ∷ rest) made → (due_of s ≡ d → ⊥) → IsFirstFailure system parts steps front 0 Due
  OneTooMany : (front rest : List Step) (s : Step) (made : MadeSoFar) → IsUpTo system parts steps front [] (s ∷ rest) made
      → IsFirstFailure system parts steps front 0 Due
  Missing : (front : List Step) (d : DueStep) (wanted : List DueStep) (made : MadeSoFar) → IsUpTo system parts steps front (d ∷ wanted) [] made
      → IsFirstFailure system parts steps front 0 Due

-- ---- and of the verdict

-- the value of the last step
abbrev pub last_value : List Step → Option Bool
last_value [] = None
last_value (certificates.Value k value ∷ []) = Some value
last_value (s ∷ []) = None
last_value (s ∷ t ∷ ss) = last_value (t ∷ ss)

-- in order with a verdict; or the form of this number fails
pub data Outcome : Type 0 where
  Certified : Bool → Outcome
  Rejected : (form place : ℕ) → Reason → Outcome

-- the number of the form behind these steps
abbrev pub form_behind : Certificate → List Step → ℕ
form_behind c front = c.first + 1 + length front

-- what comes of a certificate of a closed formula with these parts
pub data IsChecked (system : PatternSystem) (parts : List Core) (c : Certificate) : Outcome → Type 0 where
  InOrder : (made : MadeSoFar) → AreAllFine system parts c.steps made → last_value c.steps ≡ Some c.verdict
      → IsChecked system parts c (Certified c.verdict)
  OtherVerdict : (made : MadeSoFar) (value : Bool) → AreAllFine system parts c.steps made → last_value c.steps ≡ Some value
      → (c.verdict ≡ value → ⊥) → IsChecked system parts c (Rejected c.first 0 Verdict)
  FailingStep : (front : List Step) (place : ℕ) (reason : Reason) → IsFirstFailure system parts c.steps front place reason
      → IsChecked system parts c (Rejected (form_behind c front) place reason)

-- of a formula over a system
pub record HasOutcome (system : PatternSystem) (f : Core) (c : Certificate) (outcome : Outcome) : Type 0 where
  pub parts : List Core
  pub parts_are : AreParts f parts
  pub checked : IsChecked system parts c outcome

abbrev pub IsInOrder : PatternSystem → Core → Certificate → Bool → Type 0
IsInOrder system f c verdict = HasOutcome system f c (Certified verdict)
