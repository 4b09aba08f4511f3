use Rattle.std.proofs.Common.{◌≡◌, map, take}
use Rattle.fort_theory.specs.Patterns.{pattern_of}
use Rattle.fort_terms.specs.PatternView.{as_pattern}
use Rattle.fort_terms.specs.SideView.{as_side}
use Rattle.fort_terms.proofs.side.Side.+pattern.Given as goal

abbrev pub invariant-loop-arg : goal.invariant-loop-arg
invariant-loop-arg l = map as_pattern l.patterns.items ≡ map (λ s. pattern_of (as_side s)) (take l.arg-index l.arg-items)
