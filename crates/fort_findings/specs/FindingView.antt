-- To believe: which count, and which closure and its pairs, of the definitions those of the program are.
use Rattle.fort_tables.specs.Counts as counts
use Rattle.fort_alike.specs.ListedClosures as closures
use Rattle.fort_findings.specs.declared.closure.Which.{Which}
use Rattle.fort_findings.specs.declared.closure.Which.TheVariants.{Star, Conv}
use Rattle.fort_findings.specs.declared.closure.Reason.{Reason}
use Rattle.fort_findings.specs.declared.closure.Reason.TheVariants.{Any, Kids, Rule}
use Rattle.fort_findings.specs.declared.closure.ClosureEntry.{ClosureEntry}
use Rattle.fort_findings.specs.declared.count.Count.{Count}
use Rattle.fort_findings.specs.declared.count.Count.TheVariants.{Finite, Infinite}

abbrev pub as_which : Which → closures.Which
as_which Star = closures.Star
as_which Conv = closures.Conv

abbrev pub as_why : Reason → closures.Why
as_why Any = closures.Any
as_why Kids = closures.Kids
as_why (Rule k) = closures.Rule k

abbrev pub as_pair : ClosureEntry → closures.Pair
as_pair e = record { p = e.p; q = e.q; why = as_why e.why }

abbrev pub as_count : Count → counts.Count
as_count (Finite height) = counts.Finite height
as_count (Infinite child) = counts.Infinite child
