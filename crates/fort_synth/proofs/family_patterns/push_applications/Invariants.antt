use Rattle.std.proofs.Common.{◌≡◌, ◌++◌, map}
use Rattle.fort_theory.specs.Patterns.{At}
use Rattle.fort_terms.specs.PatternView.{as_pattern}
use Rattle.fort_synth.proofs.family_patterns.push_applications.Given as goal

abbrev pub invariant-loop-args : goal.invariant-loop-args
invariant-loop-args l = map as_pattern l.patterns.items ≡ map as_pattern l.initial.patterns.items ++ map (λ ps. At l.sym.0 ps) l.yielded
