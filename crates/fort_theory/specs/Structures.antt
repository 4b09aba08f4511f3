-- To believe: what truth speaks of: a signature, and for each index the root steps; a system has those by its rules.
use Rattle.std.specs.Prelude.{ℕ}
use Rattle.fort_theory.specs.Signatures.{Signature}
use Rattle.fort_theory.specs.Sides.{System}
use Rattle.fort_theory.specs.Rewriting.{Relation, RootStepAt}

pub record Structure : Type 1 where
  pub signature : Signature
  pub root : ℕ → Relation

abbrev pub structure_of : System → Structure
structure_of system = record { signature = system.signature; root = RootStepAt system }
