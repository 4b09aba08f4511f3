-- To believe: the certificate that is written for an open formula: its steps as they are written, and the least terms that satisfy it as nodes, or that there are none.
use Rattle.std.specs.Prelude.{◌≡◌, Bool, List, [], length}
use Rattle.fort_theory.specs.Patterns.{PatternSystem}
use Rattle.fort_theory.specs.Cores.{Core}
use Rattle.fort_theory.specs.PartLists.{AreParts}
use Rattle.fort_tables.specs.Tuples.{Tuple}
use Rattle.fort_tables.specs.Entries.{Entry}
use Rattle.fort_tables.specs.Tables.{Table}
use Rattle.fort_tables.specs.LeastTuple.{IsLeastAccepted, AcceptsNone}
use Rattle.fort_tables.specs.TupleNodes.{AreNodesOf}
use Rattle.fort_parts.specs.PartAnswers.{OfTable}
use Rattle.fort_certificate_theory.specs.Certificates.{Step}
use Rattle.fort_certificate_theory.specs.Dues.{dues}
use Rattle.fort_certificate_theory.specs.Made.{MadeSoFar, nothing_made, IsAnswerOf}
use Rattle.fort_certificate_theory.specs.Checked.{AreSteps}
use Rattle.fort_certificate_theory.specs.Written.{IsWrittenStep}
use Rattle.fort_certificate_theory.specs.OpenCertificates.{Claim, Found, Empty, OpenCertificate}

-- the steps that are written for a formula, and the table that they make of it
pub record AreWrittenFor (reduces : Bool) (system : PatternSystem) (f : Core) (steps : List Step) (table : Table) : Type 0 where
  pub parts : List Core
  pub parts_are : AreParts f parts
  pub made : MadeSoFar
  pub written : AreSteps (IsWrittenStep system parts) nothing_made (dues (λ k. reduces) (length system.rules) parts) steps made
  pub table_is : IsAnswerOf parts made f (OfTable table)

-- the nodes of the least tuple that the table accepts, or that there is none
pub data IsWrittenClaim (table : Table) (nodes : List Entry) : Claim → Type 0 where
  LeastFound : (t : Tuple) → IsLeastAccepted table t → AreNodesOf table.signature table.columns t nodes → IsWrittenClaim table nodes Found
  NoneFound : AcceptsNone table → nodes ≡ [] → IsWrittenClaim table nodes Empty

-- of a formula over a system, with reduced tables or with tables as they are
pub record IsOpenWritten (reduces : Bool) (system : PatternSystem) (f : Core) (c : OpenCertificate) : Type 0 where
  pub table : Table
  pub steps_are : AreWrittenFor reduces system f c.steps table
  pub claim_is : IsWrittenClaim table c.nodes c.claim
