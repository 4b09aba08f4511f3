-- Inside: the text that is written for steps and the table that they make.
use Rattle.std.specs.Prelude.{◌≡◌, ℕ, List, map}
use Rattle.std.specs.List.{AllByRecursion}
use Rattle.fort_tables.specs.Entries.{Entry}
use Rattle.fort_tables.specs.Tables.{listed_table}
use Rattle.fort_steps.specs.StepView.{as_step}
use Rattle.fort_certificate_theory.specs.OpenCertificates.{Claim}
use Rattle.fort_certificate.specs.Again.{HasSmallNumbers}
use Rattle.fort_certificate_theory.specs.OpenText.{open_text, CanNodeBeWritten}
use Rattle.fort_certificate_theory.specs.OpenWritten.{IsWrittenClaim}
use Rattle.fort_trace.specs.declared.decide.OpenRecorded.{OpenRecorded}

-- with the claim and the nodes that are written for the table; its numbers are small
pub record IsTextOf (recorded : OpenRecorded) (text : List ℕ) : Type 0 where
  pub claim : Claim
  pub nodes : List Entry
  pub written : IsWrittenClaim (listed_table recorded.table) nodes claim
  pub small_steps : AllByRecursion HasSmallNumbers (map as_step recorded.steps.items)
  pub small_nodes : AllByRecursion CanNodeBeWritten nodes
  pub is : text ≡ open_text claim (map as_step recorded.steps.items) nodes
