-- To believe: when a pair of patterns has exactly the root steps of a rule.
use Rattle.std.specs.Prelude.{◌↔◌, [], ◌∷◌}
use Rattle.fort_theory.specs.Trees.{Tree}
use Rattle.fort_theory.specs.Signatures.{Signature}
use Rattle.fort_theory.specs.Sides.{Rule}
use Rattle.fort_theory.specs.Patterns.{Pattern}
use Rattle.fort_theory.specs.Rewriting.{RootStep}
use Rattle.fort_theory.specs.PatternSteps.{PatternStep}

pub record HasItsSteps (signature : Signature) (rule : Rule) (pair : Pattern × Pattern) : Type 0 where
  pub same : (s t : Tree) → RootStep signature (rule ∷ []) s t ↔ PatternStep signature (pair ∷ []) s t
