-- Inside: lines of properties that are added to a text, right for each system with the same pairs of patterns.
use Rattle.std.specs.Prelude.{◌≡◌, List, ℕ, ◌++◌}
use Rattle.fort_theory.specs.Sides as theory
use Rattle.fort_theory.specs.Patterns.{PatternSystem, pattern_system}
use Rattle.fort_logic.specs.Formulas.{Property}
use Rattle.fort_answers.specs.SampleAnswer.{IsPropertyLine, ArePropertyLines}
use Rattle.fort_run.specs.Ready.{IsLawful}

-- the line of one property
abbrev pub AddsLine : PatternSystem → Property → (old new : List ℕ) → Type 0
AddsLine system property old new =
    (p : theory.System) → IsLawful p → system ≡ pattern_system p → (line : List ℕ) × (new ≡ old ++ line) × IsPropertyLine p property line

-- those of all of these, in their order
abbrev pub AddsLines : PatternSystem → List Property → (old new : List ℕ) → Type 0
AddsLines system properties old new =
    (p : theory.System) → IsLawful p → system ≡ pattern_system p → (lines : List ℕ) × (new ≡ old ++ lines) × ArePropertyLines p properties lines
