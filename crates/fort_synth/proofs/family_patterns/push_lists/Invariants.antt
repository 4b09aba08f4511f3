use Rattle.std.proofs.Common.{◌≡◌, ◌++◌, map, take}
use Rattle.fort_theory.specs.Patterns.{MorePatterns}
use Rattle.fort_terms.specs.PatternView.{as_pattern}
use Rattle.fort_synth.proofs.family_patterns.push_lists.Given as goal

abbrev pub invariant-loop-rest : goal.invariant-loop-rest
invariant-loop-rest l = l.longer.items ≡ l.initial.longer.items ++ map (λ ps. MorePatterns (as_pattern l.first) ps) (take l.rest-index l.rests)
