-- To believe: when two optional tuples are alike at a core formula whose operands' tables are reduced: at atoms as ever, else by when tuples are interchangeable at the operands; and when they are alike with reduced tables or without.
use Rattle.std.specs.Prelude.{◌≡◌, Bool, true, false, length}
use Rattle.fort_theory.specs.Patterns.{PatternSystem}
use Rattle.fort_theory.specs.Cores.{Core}
use Rattle.fort_theory.specs.CoreTruth.{Places, IsMetBy}
use Rattle.fort_theory.specs.PatternStructures.{pattern_structure}
use Rattle.fort_tables.specs.Tuples.{Tuple}
use Rattle.fort_tables.specs.Interchange.{Interchangeable}
use Rattle.fort_alike.specs.AssignedTuples.{tuple_of}
use Rattle.fort_tables.specs.Agreement.{Agreement}
use Rattle.fort_parts.specs.PartColumns.{columns_of}
use Rattle.fort_parts.specs.AlikeParts.{AlikeAt, AlikeBy}
use Rattle.fort_parts.specs.PartAnswers.{AreGround}

-- the terms, one for each column of the formula, satisfy it
pub record IsSatisfiedBy (system : PatternSystem) (f : Core) (t : Tuple) : Type 0 where
  pub places : Places
  pub grounded : AreGround system.signature places
  pub are : tuple_of places (columns_of f) ≡ t
  pub holds : IsMetBy (pattern_structure system) f places

-- no tuple of terms that has them at a position, in exactly their columns, tells them apart by the formula
abbrev pub InterchangeableAt : PatternSystem → Core → Agreement
InterchangeableAt system f t u = Interchangeable system.signature (length (columns_of f)) (IsSatisfiedBy system f) t u

-- alike, by when tuples are interchangeable at the operands
abbrev pub AlikeReduced : PatternSystem → Core → Agreement
AlikeReduced system f t u = AlikeBy system (InterchangeableAt system) f t u

-- when tuples are alike at a part that may be over a cap, with reduced tables and without
abbrev pub AlikeWith : (reduces : Bool) → PatternSystem → Core → Agreement
AlikeWith true system = AlikeReduced system
AlikeWith false system = AlikeAt system
