-- The sides of rules are among the patterns within them.
use Rattle.std.specs.Prelude.{List, map, Contains}
use Rattle.fort_theory.specs.Patterns.{Pattern, Pair}
use Rattle.fort_theory.specs.PatternOrder.{AreSubpatternsInOrder}
use Rattle.fort_theory.proofs.ClosedPatterns.{subpatterns-self}
use Rattle.fort_theory.proofs.Lists.{Contains-map}

pub Contains-left_side : (pairs : List Pair) (ps : List Pattern) → AreSubpatternsInOrder (map (λ (pair : Pair). pair.0) pairs) ps → (pair : Pair) → Contains pairs pair → Contains ps pair.0
Contains-left_side pairs ps h pair c = (h.same pair.0).1 (pair.0, Contains-map (λ (pair : Pair). pair.0) pairs pair c, subpatterns-self pair.0)

pub Contains-right_side : (pairs : List Pair) (ps : List Pattern) → AreSubpatternsInOrder (map (λ (pair : Pair). pair.1) pairs) ps → (pair : Pair) → Contains pairs pair → Contains ps pair.1
Contains-right_side pairs ps h pair c = (h.same pair.1).1 (pair.1, Contains-map (λ (pair : Pair). pair.1) pairs pair c, subpatterns-self pair.1)
