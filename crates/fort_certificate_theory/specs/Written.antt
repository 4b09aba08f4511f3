-- To believe: the certificate that is written: it is in order, with one state for each label, the coarsest classes behind each table where tables are reduced, closures by passes, the greatest heights, and of the children that show infinitely many the least.
use Rattle.std.specs.Prelude.{◌≡◌, ℕ, ◌<◌, Bool, List, [], length, get_or, Some}
use Rattle.fort_theory.specs.Patterns.{PatternSystem}
use Rattle.fort_theory.specs.Cores as core
use Rattle.fort_theory.specs.Cores.{Core}
use Rattle.fort_theory.specs.PartLists.{AreParts}
use Rattle.fort_tables.specs.Entries.{Entry}
use Rattle.fort_tables.specs.Tables.{Table}
use Rattle.fort_tables.specs.Counts as counts
use Rattle.fort_tables.specs.Counts.{Finite, IsCountOf}
use Rattle.fort_tables.specs.Merges.{IsCoarsest}
use Rattle.fort_parts.specs.PartAnswers.{OfTable}
use Rattle.fort_parts.specs.PartColumns.{columns_of, place_in}
use Rattle.fort_alike.specs.ListedClosures.{Which, Pair as Item}
use Rattle.fort_certificate_theory.specs.Certificates.{Step, Closure, Part, Merge, Counts, Value, Certificate}
use Rattle.fort_certificate_theory.specs.PartSteps.{IsRightPart}
use Rattle.fort_certificate_theory.specs.ClosureSteps.{ClosureRules, AreClosureRules}
use Rattle.fort_certificate_theory.specs.Dues.{dues}
use Rattle.fort_certificate_theory.specs.Made.{MadeSoFar, nothing_made}
use Rattle.fort_certificate_theory.specs.PartRules.{Local, IsLocalOf, IsCounted}
use Rattle.fort_certificate_theory.specs.Checked.{IsFine, AreSteps, last_value}
use Rattle.fort_certificate_theory.specs.Passes.{IsListOfPasses}

pub record IsWrittenClosure (system : PatternSystem) (which : Which) (index : ℕ) (items : List Item) : Type 0 where
  pub rules : ClosureRules
  pub rules_are : AreClosureRules system which index rules
  pub passes : IsListOfPasses rules items

-- no two states have one label
abbrev pub NoLabelTwice : List (List ℕ) → Type 0
NoLabelTwice labels = (i j : ℕ) → i < length labels → j < length labels → get_or labels i [] ≡ get_or labels j [] → i ≡ j

pub record IsWrittenPart (system : PatternSystem) (parts : List Core) (made : MadeSoFar) (k : ℕ) (targets : List ℕ) : Type 0 where
  pub local : Local
  pub entries : List Entry
  pub labels : List (List ℕ)
  pub local_is : IsLocalOf system parts made k (get_or parts k core.True) local
  pub right : IsRightPart local.rule targets entries labels
  pub once : NoLabelTwice labels

-- the classes join all that can be joined
pub record IsWrittenMerge (made : MadeSoFar) (k : ℕ) (classes : List ℕ) : Type 0 where
  pub table : Table
  pub table_is : made.answers k ≡ OfTable table
  pub coarsest : IsCoarsest table classes

-- each mark is the count of its state: the greatest height, or the least child that infinitely many terms give
pub record IsWrittenCounts (parts : List Core) (made : MadeSoFar) (k : ℕ) (marks : List counts.Count) : Type 0 where
  pub number : ℕ
  pub body : Core
  pub table : Table
  pub states : List ℕ
  pub part : get_or parts k core.True ≡ core.Infinite number body
  pub counted : IsCounted parts made number body table states
  pub count : length marks ≡ length states
  pub are : (i : ℕ) → i < length marks → IsCountOf table (place_in (columns_of body) number) (get_or states i 0) (get_or marks i (Finite 0))

abbrev pub IsAsWritten : PatternSystem → List Core → MadeSoFar → Step → Type 0
IsAsWritten system parts made (Closure which index items) = IsWrittenClosure system which index items
IsAsWritten system parts made (Part k targets) = IsWrittenPart system parts made k targets
IsAsWritten system parts made (Merge k classes) = IsWrittenMerge made k classes
IsAsWritten system parts made (Counts k marks) = IsWrittenCounts parts made k marks
IsAsWritten system parts made (Value k value) = Unit {0}

-- a fine step, and as it is written
pub record IsWrittenStep (system : PatternSystem) (parts : List Core) (made : MadeSoFar) (s : Step) (next : MadeSoFar) : Type 0 where
  pub fine : IsFine system parts made s next
  pub written : IsAsWritten system parts made s

-- of a formula over a system, with reduced tables or with tables as they are
pub record IsWritten (reduces : Bool) (system : PatternSystem) (f : Core) (c : Certificate) : Type 0 where
  pub parts : List Core
  pub parts_are : AreParts f parts
  pub made : MadeSoFar
  pub steps : AreSteps (IsWrittenStep system parts) nothing_made (dues (λ k. reduces) (length system.rules) parts) c.steps made
  pub verdict : last_value c.steps ≡ Some c.verdict
