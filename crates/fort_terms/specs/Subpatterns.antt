-- Inside: a list has what another one has, and some more.
use Rattle.std.specs.Prelude.{◌↔◌, ◌⊎◌, List, Contains}
use Rattle.fort_theory.specs.Patterns.{Pattern}

pub record HasMore (more old new : List Pattern) : Type 0 where
  pub same : (p : Pattern) → Contains new p ↔ (Contains old p ⊎ Contains more p)
