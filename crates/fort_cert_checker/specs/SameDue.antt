-- To believe: a test whether two steps that are due are one.
use Rattle.std.specs.Prelude.{Bool, false, ◌&&◌, ◌==◌}
use Rattle.fort_certificate_theory.specs.Dues as definitions
use Rattle.fort_certificate_theory.specs.Made.{same_which}

abbrev pub same_due : definitions.DueStep → definitions.DueStep → Bool
same_due (definitions.OfClosure which i) (definitions.OfClosure other j) = same_which which other && (i == j)
same_due (definitions.OfPart i) (definitions.OfPart j) = i == j
same_due (definitions.OfMerge i) (definitions.OfMerge j) = i == j
same_due (definitions.OfCounts i) (definitions.OfCounts j) = i == j
same_due (definitions.OfValue i) (definitions.OfValue j) = i == j
same_due due other = false
