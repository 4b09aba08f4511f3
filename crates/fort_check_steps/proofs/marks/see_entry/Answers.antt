use Rattle.std.proofs.Common.{◌<◌, map, length, get_or, false, sym, ◌∙◌, arith}
use Rattle.std.proofs.lemmas.List.{get_or-map}
use Rattle.fort_tables.specs.Counts as counts
use Rattle.fort_tables.specs.Counts.{count_at}
use Rattle.fort_findings.specs.declared.count.Count.TheVariants.{Finite}
use Rattle.fort_findings.specs.FindingView.{as_count}
use Rattle.fort_check_steps.specs.Marks.{held_next}
use Rattle.fort_check_steps.proofs.MarkSearch.{search_found, search_missed, see_found, see_missed}
use Rattle.fort_check_steps.proofs.marks.see_entry.Goals as goal

pub returns-in-Ok : goal.returns-in-Ok
returns-in-Ok c e column pure kids =
    let states = c.args.states.now in
    let ns = c.args.marks.now in
    let marks = map as_count ns in
    let place = c.in-Ok.place in
    let at = search_found states c.args.target place c.binary_search.result c.binary_search.ensures.position c.in-Ok.is c.requires.ascending in
    let low : place < length ns = omega (arith, at.0, c.requires.sizes) in
    let own = sym (get_or-map as_count ns place (Finite 0) (counts.Finite 0) low) in
    see_found states marks column e c.args.target c.args.holds.now place c.holds_after.result pure at c.requires.ascending c.requires.holds
    (c.holds_after.ensures ∙ (λ i. held_next (count_at states marks) (own i) (sym kids i) (get_or c.args.holds.now place false)))

pub returns-in-Err : goal.returns-in-Err
returns-in-Err c e column pure kids =
    let states = c.args.states.now in
    see_missed states (map as_count c.args.marks.now) column e c.args.target c.args.holds.now
    (search_missed states c.args.target c.in-Err.field-0 c.binary_search.result c.binary_search.ensures.position c.in-Err.is c.requires.ascending)
