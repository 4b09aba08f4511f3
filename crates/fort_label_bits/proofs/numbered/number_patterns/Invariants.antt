use Rattle.std.proofs.Common.{◌≡◌, ℕ, ◌<◌, map, length, get_or, None}
use Rattle.fort_theory.specs.Patterns.{Any}
use Rattle.fort_terms.specs.PatternView.{as_pattern}
use Rattle.fort_alike.specs.PatternNumbers.{IsNumberOf}
use Rattle.fort_label_bits.proofs.numbered.number_patterns.Given as goal

abbrev pub invariant-loop-pattern : goal.invariant-loop-pattern
invariant-loop-pattern l =
    (length l.rows.items ≡ l.pattern-index)
    × ((k : ℕ) → k < l.pattern-index → IsNumberOf (map as_pattern l.patterns) (get_or l.rows.items k None) (get_or (map as_pattern l.patterns) k Any))
