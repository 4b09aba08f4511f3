use Rattle.std.proofs.Common.{map, take}
use Rattle.fort_formulas.specs.FormulaView.{as_property}
use Rattle.fort_run.specs.Samples.{AddsLines}
use Rattle.fort_run.proofs.sample.push_properties.Given as goal

abbrev pub invariant-loop-property : goal.invariant-loop-property
invariant-loop-property l = AddsLines l.system (map as_property (take l.property-index l.properties)) l.initial.text.items l.text.items
