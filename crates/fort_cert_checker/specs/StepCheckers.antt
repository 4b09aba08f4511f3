-- Inside: what a checker of steps has, and what is known of it; what it tells of the steps.
use Rattle.std.specs.Prelude.{◌≡◌, ℕ, ◌+◌, ◌^◌, ◌<◌, List, map, length}
use Rattle.fort_theory.specs.Patterns.{PatternSystem, IsSystem}
use Rattle.fort_theory.specs.Cores.{Core}
use Rattle.fort_theory.specs.PartLists.{AreParts}
use Rattle.fort_tables.specs.Tables.{Table}
use Rattle.fort_parts.specs.PartColumns.{columns_of}
use Rattle.fort_parts.specs.PartAnswers.{OfTable, IsTableOver}
use Rattle.fort_certificate_theory.specs.Certificates.{Step}
use Rattle.fort_certificate_theory.specs.Outcomes.{Reason}
use Rattle.fort_certificate_theory.specs.Made.{MadeSoFar, IsAnswerOf}
use Rattle.fort_certificate_theory.specs.Dues.{dues_of}
use Rattle.fort_certificate_theory.specs.Checked.{AreAllFine, IsFirstFailure}
use Rattle.fort_steps.specs.StepView.{as_step}
use Rattle.fort_dues.specs.DueView.{as_due}
use Rattle.fort_target_lists.specs.declared.states.LayRoom.{LayRoom}
use Rattle.fort_target_lists.specs.declared.target_list.TargetList.{TargetList}
use Rattle.fort_cert_checker.specs.Sources.{IsSourceOf}
use Rattle.fort_cert_checker.specs.OperandLists.{FitsList}
use Rattle.fort_cert_checker.specs.Fronts.{IsReady, IsLoopAt}
use Rattle.fort_cert_checker.specs.OutcomeView.{as_reason}
use Rattle.fort_cert_checker.specs.declared.rejected.Rejected.{Rejected}
use Rattle.fort_cert_checker.specs.declared.step_checker.StepChecker.{StepChecker}

-- of these steps, behind a form of this number, for this formula over this system
pub record IsStepCheckerOf (system : PatternSystem) (f : Core) (first : ℕ) (ss : List Step) (a : StepChecker) : Type 0 where
  pub system_is : a.system.now ≡ system
  pub first_is : a.first ≡ first
  pub steps_are : map as_step a.steps.now ≡ ss
  pub lawful : IsSystem system
  pub parts : List Core
  pub forms : first + length ss + 1 < 2 ^ 32
  pub dues : map as_due a.dues.items ≡ dues_of ss (length system.rules) parts
  pub ready : IsReady system f parts ss a.plans.items a.closures.items a.rooms.items a.scratch a.marks.items
  pub root : IsSourceOf parts f a.root.part a.root.turns

-- its first n steps are fine, and the rooms hold their tables
pub record IsStepCheckAt (system : PatternSystem) (f : Core) (first : ℕ) (ss : List Step) (a : StepChecker) (n : ℕ) (made : MadeSoFar) : Type 0 where
  pub checker : IsStepCheckerOf system f first ss a
  pub loop : IsLoopAt system f checker.parts ss a.plans.items a.closures.items a.rooms.items a.scratch a.marks.items n made

-- all its steps are fine
pub record IsStepCheckDone (system : PatternSystem) (f : Core) (first : ℕ) (ss : List Step) (a : StepChecker) (made : MadeSoFar) : Type 0 where
  pub checker : IsStepCheckerOf system f first ss a
  pub loop : IsLoopAt system f checker.parts ss a.plans.items a.closures.items a.rooms.items a.scratch a.marks.items (length ss) made
  pub fine : AreAllFine system checker.parts ss made

-- the step behind the first n fails
pub record IsFailureAt (system : PatternSystem) (f : Core) (ss : List Step) (n place : ℕ) (reason : Reason) : Type 0 where
  pub parts : List Core
  pub parts_are : AreParts f parts
  pub front : List Step
  pub count : length front ≡ n
  pub failure : IsFirstFailure system parts ss front place reason

-- and so is rejected by its form
pub record HasFailure (system : PatternSystem) (f : Core) (first : ℕ) (ss : List Step) (r : Rejected) : Type 0 where
  pub behind : ℕ
  pub form_is : r.form ≡ first + 1 + behind
  pub failure : IsFailureAt system f ss behind r.place (as_reason r.reason)

-- the table that is made of a formula
pub record IsWholeTable (system : PatternSystem) (f : Core) (parts : List Core) (made : MadeSoFar) (table : Table) : Type 0 where
  pub answer : IsAnswerOf parts made f (OfTable table)
  pub over : IsTableOver system.signature (columns_of f) table

-- room to lay its targets
abbrev pub FitsWhole : StepChecker → TargetList → LayRoom → Type 0
FitsWhole a list lay = FitsList (map as_step a.steps.now) a.root list lay
