-- To believe: when a certificate of an open formula is in order, and which form of another fails first, at which place and why.
use Rattle.std.specs.Prelude.{◌≡◌, ℕ, ◌+◌, ◌-◌, ◌<◌, true, List, [], length, get_or, take}
use Rattle.fort_theory.specs.Patterns.{PatternSystem}
use Rattle.fort_theory.specs.Cores.{Core}
use Rattle.fort_theory.specs.PartLists.{AreParts}
use Rattle.fort_tables.specs.Tuples.{Tuple}
use Rattle.fort_tables.specs.Entries.{Entry, IsEntry, AreNodes, node_presences, tuples_of}
use Rattle.fort_tables.specs.Tables.{Table}
use Rattle.fort_tables.specs.OperationTruth.{accepts}
use Rattle.fort_parts.specs.PartColumns.{columns_of}
use Rattle.fort_parts.specs.PartAnswers.{OfTable}
use Rattle.fort_certificate_theory.specs.Certificates as certificates
use Rattle.fort_certificate_theory.specs.Outcomes.{Reason, Due, Verdict}
use Rattle.fort_certificate_theory.specs.Made.{MadeSoFar, IsAnswerOf}
use Rattle.fort_certificate_theory.specs.Checked.{AreAllFine, IsFirstFailure}
use Rattle.fort_certificate_theory.specs.OpenCertificates.{Claim, Found, Empty, OpenCertificate}

-- in order with a claim; or the form of this number fails; or the node of this form is no entry over the nodes before it
pub data OpenOutcome : Type 0 where
  Confirmed : Claim → OpenOutcome
  Rejected : (form place : ℕ) → Reason → OpenOutcome
  NoEntry : (form : ℕ) → OpenOutcome

-- the number of the form of node k
abbrev pub node_form : OpenCertificate → ℕ → ℕ
node_form c k = c.first + 1 + length c.steps + k

abbrev pub last_of : List Entry → Tuple
last_of nodes = get_or (tuples_of nodes) (length nodes - 1) []

-- the formula's table accepts the tuple of the last node
pub record AcceptsLast (table : Table) (nodes : List Entry) : Type 0 where
  pub some : 0 < length nodes
  pub accepted : accepts table (last_of nodes) ≡ true

-- it accepts some tuple
pub record AcceptsSome (table : Table) : Type 0 where
  pub state : ℕ
  pub within : state < length table.presences
  pub accepted : table.accepting state ≡ true

-- all steps are fine, and make this table of the formula
pub record MakesTable (system : PatternSystem) (f : Core) (parts : List Core) (c : OpenCertificate) (table : Table) : Type 0 where
  pub made : MadeSoFar
  pub fine : AreAllFine system parts c.steps made
  pub table_is : IsAnswerOf parts made f (OfTable table)

-- each of these nodes is an entry over those before it
abbrev pub AreFormulaNodes : PatternSystem → Core → List Entry → Type 0
AreFormulaNodes system f nodes = AreNodes system.signature (length (columns_of f)) nodes

abbrev pub IsFormulaNode : PatternSystem → Core → (before : List Entry) → Entry → Type 0
IsFormulaNode system f before node = IsEntry system.signature (length (columns_of f)) (node_presences before) node

-- what comes of a certificate of a formula with these parts
pub data IsOpenChecked (system : PatternSystem) (f : Core) (parts : List Core) (c : OpenCertificate) : OpenOutcome → Type 0 where
  FailingStep : (front : List certificates.Step) (place : ℕ) (reason : Reason) → IsFirstFailure system parts c.steps front place reason
      → IsOpenChecked system f parts c (Rejected (c.first + 1 + length front) place reason)
  NodeOfEmpty : (table : Table) → MakesTable system f parts c table → c.claim ≡ Empty → 0 < length c.nodes
      → IsOpenChecked system f parts c (Rejected (node_form c 0) 0 Due)
  FailingNode : (table : Table) (k : ℕ) (node : Entry) → MakesTable system f parts c table → c.claim ≡ Found → k < length c.nodes
      → get_or c.nodes k node ≡ node → AreFormulaNodes system f (take k c.nodes) → (IsFormulaNode system f (take k c.nodes) node → ⊥)
      → IsOpenChecked system f parts c (NoEntry (node_form c k))
  FoundLast : (table : Table) → MakesTable system f parts c table → c.claim ≡ Found → AreFormulaNodes system f c.nodes
      → AcceptsLast table c.nodes → IsOpenChecked system f parts c (Confirmed Found)
  NotFound : (table : Table) → MakesTable system f parts c table → c.claim ≡ Found → AreFormulaNodes system f c.nodes
      → (AcceptsLast table c.nodes → ⊥) → IsOpenChecked system f parts c (Rejected c.first 0 Verdict)
  NoneThere : (table : Table) → MakesTable system f parts c table → c.claim ≡ Empty → c.nodes ≡ [] → (AcceptsSome table → ⊥)
      → IsOpenChecked system f parts c (Confirmed Empty)
  SomeThere : (table : Table) → MakesTable system f parts c table → c.claim ≡ Empty → c.nodes ≡ [] → AcceptsSome table
      → IsOpenChecked system f parts c (Rejected c.first 0 Verdict)

-- of a formula over a system
pub record HasOpenOutcome (system : PatternSystem) (f : Core) (c : OpenCertificate) (outcome : OpenOutcome) : Type 0 where
  pub parts : List Core
  pub parts_are : AreParts f parts
  pub checked : IsOpenChecked system f parts c outcome
