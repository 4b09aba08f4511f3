use Rattle.std.proofs.Common.{◌≡◌, map, take, length, sym}
use Rattle.std.proofs.lemmas.List.{take_all, length-map}
use Rattle.fort_terms.specs.PatternView.{as_pattern}
use Rattle.fort_tree_automata.specs.declared.nta.Nta.{Nta}
use Rattle.fort_tree_automata.proofs.PatternMovesLaws.{NamesItsStates-places, Takes-instances}
use Rattle.fort_tree_automata.proofs.of_patterns.pattern_automaton.Goals as goal

pub returns-clause-named : goal.returns-clause-named
returns-clause-named c =
    let whole : take c.loop-state.state c.args.patterns.now ≡ c.args.patterns.now = take_all _ _ c.loop-state-test.false in
    NamesItsStates-places (map as_pattern c.args.patterns.now) _ c.any_place.ensures (rw whole at c.loop-state.invariant) c.new.ensures.items
    (sym (length-map c.args.patterns.now as_pattern))

pub returns-clause-instances : goal.returns-clause-instances
returns-clause-instances c =
    let whole : take c.loop-state.state c.args.patterns.now ≡ c.args.patterns.now = take_all _ _ c.loop-state-test.false in
    let nta : Nta = record { states = length c.args.patterns.now; any = c.any_place.result; moves = c.loop-state.moves; silent = c.new.result } in
    Takes-instances (map as_pattern c.args.patterns.now) nta c.any_place.ensures (rw whole at c.loop-state.invariant) c.new.ensures.items
