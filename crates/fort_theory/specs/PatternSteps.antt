-- To believe: what a root step by pairs of patterns is: an instance of each pattern of a pair.
use Rattle.std.specs.Prelude.{ℕ, List, Contains}
use Rattle.fort_theory.specs.Trees.{Tree}
use Rattle.fort_theory.specs.Signatures.{Signature, IsGround}
use Rattle.fort_theory.specs.Sides.{at_index}
use Rattle.fort_theory.specs.Patterns.{IsInstance, Pair, PatternSystem}
use Rattle.fort_theory.specs.Rewriting.{Relation}

pub record PatternStep (signature : Signature) (pairs : List Pair) (s t : Tree) : Type 0 where
  pub pair : Pair
  pub among : Contains pairs pair
  pub left : IsInstance pair.0 s
  pub right : IsInstance pair.1 t
  pub left_grounded : IsGround signature s
  pub right_grounded : IsGround signature t

-- the root steps of a system of patterns at an index
abbrev pub PatternStepAt : PatternSystem → ℕ → Relation
PatternStepAt system index = PatternStep system.signature (at_index index system.rules)
