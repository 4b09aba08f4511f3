-- To believe: the root steps of a system of patterns, at each index, are those by its pairs.
use Rattle.fort_theory.specs.Patterns.{PatternSystem}
use Rattle.fort_theory.specs.PatternSteps.{PatternStepAt}
use Rattle.fort_theory.specs.Structures.{Structure}

abbrev pub pattern_structure : PatternSystem → Structure
pattern_structure system = record { signature = system.signature; root = PatternStepAt system }
