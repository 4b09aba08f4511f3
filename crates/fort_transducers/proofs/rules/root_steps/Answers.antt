use Rattle.std.proofs.Common.{map}
use Rattle.fort_theory.specs.Sides.{at_index}
use Rattle.fort_terms.specs.PatternView.{as_pattern}
use Rattle.fort_tree_automata.proofs.SubpatternsClosed.{IsClosedInOrder-subpatterns}
use Rattle.fort_transducers.specs.declared.agtt.Agtt.{Agtt}
use Rattle.fort_transducers.proofs.RootStepsLaws.{sides_among, HasRootSteps-made, NamesItsStates-rules, Transduces-rules}
use Rattle.fort_transducers.proofs.rules.root_steps.Goals as goal

pub pattern_automaton-requires-clause-closed : goal.pattern_automaton-requires-clause-closed
pattern_automaton-requires-clause-closed c = rw c.deref.ensures.value (IsClosedInOrder-subpatterns _ _ c.in_ok-lefts.ensures)

pub pattern_automaton-requires-2-clause-closed : goal.pattern_automaton-requires-2-clause-closed
pattern_automaton-requires-2-clause-closed c = rw c.deref-2.ensures.value (IsClosedInOrder-subpatterns _ _ c.in_ok-rights.ensures)

pub places-requires-clause-left_closed : goal.places-requires-clause-left_closed
places-requires-clause-left_closed c = rw c.deref-3.ensures.value (IsClosedInOrder-subpatterns _ _ c.in_ok-lefts.ensures)

pub places-requires-clause-right_closed : goal.places-requires-clause-right_closed
places-requires-clause-right_closed c = rw c.deref-4.ensures.value (IsClosedInOrder-subpatterns _ _ c.in_ok-rights.ensures)

pub places-requires-clause-among : goal.places-requires-clause-among
places-requires-clause-among c =
    rw (c.deref-3.ensures.value, c.deref-4.ensures.value, c.rules.ensures.pairs)
    (sides_among (at_index c.args.index c.args.system.now.rules) (map as_pattern c.in_ok-lefts.lefts.items) (map as_pattern c.in_ok-rights.rights.items) c.in_ok-lefts.ensures c.in_ok-rights.ensures)

pub returns-clause-states : goal.returns-clause-states
returns-clause-states c =
    let agtt : Agtt = record { left = c.in_ok-left.left; right = c.in_ok-right.right; pairs = c.in_ok-pairs.pairs } in
    let left = c.in_ok-left.ensures in
    let right = c.in_ok-right.ensures in
    HasRootSteps-made (at_index c.args.index c.args.system.now.rules) c.in_ok-lefts.lefts.items c.in_ok-rights.rights.items agtt c.in_ok-lefts.ensures c.in_ok-rights.ensures
    (rw c.deref.ensures.value at left.states) (rw c.deref.ensures.value at left.any) (rw c.deref.ensures.value at left.moves) left.silent
    (rw c.deref-2.ensures.value at right.states) (rw c.deref-2.ensures.value at right.any) (rw c.deref-2.ensures.value at right.moves) right.silent
    (rw (c.deref-3.ensures.value, c.deref-4.ensures.value, c.rules.ensures.pairs) at c.in_ok-pairs.ensures)

pub returns-clause-named : goal.returns-clause-named
returns-clause-named c =
    let agtt : Agtt = record { left = c.in_ok-left.left; right = c.in_ok-right.right; pairs = c.in_ok-pairs.pairs } in
    NamesItsStates-rules (at_index c.args.index c.args.system.now.rules) agtt (returns-clause-states c)

pub returns-clause-steps : goal.returns-clause-steps
returns-clause-steps c =
    let agtt : Agtt = record { left = c.in_ok-left.left; right = c.in_ok-right.right; pairs = c.in_ok-pairs.pairs } in
    Transduces-rules (at_index c.args.index c.args.system.now.rules) agtt (returns-clause-states c) c.args.system.now.signature
