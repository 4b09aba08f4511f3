-- To believe: what a certificate of an open formula is made of.
use Rattle.std.specs.Prelude.{ℕ, List}
use Rattle.fort_tables.specs.Entries.{Entry}
use Rattle.fort_certificate_theory.specs.Certificates.{Step}

-- that some terms satisfy the formula, or that none do
pub data Claim : Type 0 where
  Found : Claim
  Empty : Claim

-- the number of its first form, its claim, its steps, and nodes, the last of which is the terms that are found
pub record OpenCertificate : Type 0 where
  pub first : ℕ
  pub claim : Claim
  pub steps : List Step
  pub nodes : List Entry
