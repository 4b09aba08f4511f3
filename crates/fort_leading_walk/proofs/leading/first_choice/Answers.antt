use Rattle.std.proofs.Common.{◌-◌, map, subst, sym}
use Rattle.fort_tables.specs.Labels.{first_word}
use Rattle.fort_tuple_symbols.specs.Columns.{symbol_of}
use Rattle.fort_classes.specs.Keys.{leaders_by}
use Rattle.fort_leading_walk.specs.Choices.{IsLastInEach}
use Rattle.fort_leading_walk.specs.Turns.{MayTurn}
use Rattle.fort_leading_walk.proofs.LeadingChoices.{last_in_each}
use Rattle.fort_leading_walk.proofs.leading.first_choice.Goals as goal

pub first-requires : goal.first-requires
first-requires g c =
    let known = c.requires.known in
    let newest = c.args.walk.now.stage - 1 in
    let labels = c.args.rows.now.labels in
    let symbol = symbol_of c.digits.result.now in
    let may : MayTurn (g.L.SymbolLeaders.knows c.args.leaders.now) known.0 known.1 labels known.2 symbol c.states-wanted.result.now newest = rw (c.digits.ensures.digits, c.states-wanted.ensures.states) known.3 in
    let turned = c.in_ok-turn_to.ensures.turned known.0 known.1 known.2 may in
    subst (IsLastInEach newest) (sym turned) (last_in_each (leaders_by (g.L.SymbolLeaders.keys c.args.leaders.now) labels) symbol (map first_word labels) newest 0 c.states-wanted.result.now)
