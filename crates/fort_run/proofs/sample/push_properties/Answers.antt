use Rattle.std.proofs.Common.{map, take, get_or, sym, ap, subst, ◌∙◌}
use Rattle.std.proofs.lemmas.List.{take_more, map-append}
use Rattle.fort_formulas.specs.declared.surface.Macro.TheVariants.{Cr}
use Rattle.fort_formulas.specs.FormulaView.{as_property}
use Rattle.fort_run.specs.Samples.{AddsLines}
use Rattle.fort_run.proofs.SampleLines.{more_lines}
use Rattle.fort_run.proofs.sample.push_properties.Goals as goal

pub loop-property-preserved : goal.loop-property-preserved
loop-property-preserved c =
    let k = c.loop-property.property-index in
    let all = c.args.properties.now in
    let x = get_or all k Cr in
    let more = ap (map as_property) (take_more all k Cr c.loop-property-test.true) ∙ map-append as_property (take k all) _ in
    subst (λ qs. AddsLines c.args.system.now qs c.args.text.now.items c.push_property.new.text.items) (sym more)
    (more_lines c.args.system.now (map as_property (take k all)) (as_property x) c.args.text.now.items c.loop-property.text.items c.push_property.new.text.items
    c.loop-property.invariant c.in_ok-push_property.ensures)
