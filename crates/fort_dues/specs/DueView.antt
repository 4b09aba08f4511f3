-- To believe: which step that is due a value of the program names.
use Rattle.fort_certificate_theory.specs.Dues as definitions
use Rattle.fort_findings.specs.FindingView.{as_which}
use Rattle.fort_dues.specs.declared.dues.DueStep.{DueStep}
use Rattle.fort_dues.specs.declared.dues.DueStep.TheVariants.{Closure, Part, Merge, Counts, Value}

abbrev pub as_due : DueStep → definitions.DueStep
as_due (Closure which index) = definitions.OfClosure (as_which which) index
as_due (Part k) = definitions.OfPart k
as_due (Merge k) = definitions.OfMerge k
as_due (Counts k) = definitions.OfCounts k
as_due (Value k) = definitions.OfValue k
