-- To believe: a pattern reaches another where some ground instance of it reduces to some ground instance of the other, by steps of a list of pairs of patterns.
use Rattle.std.specs.Prelude.{List}
use Rattle.fort_theory.specs.Trees.{Tree}
use Rattle.fort_theory.specs.Signatures.{Signature, IsGround}
use Rattle.fort_theory.specs.Patterns.{Pattern, IsInstance, Pair}
use Rattle.fort_theory.specs.PatternSteps.{PatternStep}
use Rattle.fort_theory.specs.Rewriting.{Reduces}

pub record ReachesInstance (signature : Signature) (pairs : List Pair) (p q : Pattern) : Type 0 where
  pub start : Tree
  pub end : Tree
  pub start_instance : IsInstance p start
  pub end_instance : IsInstance q end
  pub start_grounded : IsGround signature start
  pub end_grounded : IsGround signature end
  pub reduces : Reduces (PatternStep signature pairs) start end
