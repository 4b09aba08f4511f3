-- To believe: an answer is right for a formula over a system by a likeness where it tells the formula's truth, and its states tell when tuples are alike; more tuples than a cap, no two of them alike, show that a formula is over it.
use Rattle.std.specs.Prelude.{◌+◌, ℕ, List, length}
use Rattle.fort_theory.specs.Patterns.{PatternSystem}
use Rattle.fort_theory.specs.Cores.{Core}
use Rattle.fort_theory.specs.PatternStructures.{pattern_structure}
use Rattle.fort_tables.specs.Entries.{Entry, AreNodes, tuples_of}
use Rattle.fort_alike.specs.UnlikeTuples.{AreUnlike}
use Rattle.fort_parts.specs.PartColumns.{columns_of}
use Rattle.fort_tables.specs.Agreement.{Agreement}
use Rattle.fort_parts.specs.AlikeParts.{AlikeAt}
use Rattle.fort_parts.specs.PartAnswers.{Answer, IsAnswerTo}
use Rattle.fort_parts.specs.PartLabels.{Tells}

pub record IsRightBy (system : PatternSystem) (like : Core → Agreement) (f : Core) (answer : Answer) : Type 0 where
  pub answers : IsAnswerTo (pattern_structure system) f answer
  pub alike : Tells (like f) answer

-- the nodes make that many tuples, no two of them alike
pub record HasTooManyBy (system : PatternSystem) (like : Core → Agreement) (f : Core) (cap : ℕ) (nodes : List Entry) : Type 0 where
  pub are : AreNodes system.signature (length (columns_of f)) nodes
  pub unlike : AreUnlike system.signature (length (columns_of f)) (like f) (cap + 1) (tuples_of nodes)

-- by when tuples are alike
abbrev pub IsRightFor : PatternSystem → Core → Answer → Type 0
IsRightFor system f answer = IsRightBy system (AlikeAt system) f answer
