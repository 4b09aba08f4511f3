use Rattle.std.proofs.Common.{List, map, sym, ◌∙◌, arith}
use Rattle.std.proofs.lemmas.List.{length-map}
use Rattle.fort_terms.specs.PatternView.{as_pair, as_pattern}
use Rattle.fort_tree_automata.proofs.SubpatternsClosed.{IsClosedInOrder-subpatterns}
use Rattle.fort_transducers.proofs.RootStepsLaws.{sides_among}
use Rattle.fort_theory.specs.Patterns.{Pair}
use Rattle.fort_transducers.specs.declared.agtt.Agtt.{Agtt}
use Rattle.fort_gtt_closure.proofs.NumberedLaws.{IsNumbered-root_steps}
use Rattle.fort_context_closure.proofs.ClosureLaws.{root_steps_of, NamesItsStates-list}
use Rattle.fort_context_closure.proofs.closures.transducer.Goals as goal

pub pattern_automaton-requires-clause-closed : goal.pattern_automaton-requires-clause-closed
pattern_automaton-requires-clause-closed c = rw c.deref.ensures.value (IsClosedInOrder-subpatterns _ _ c.requires.left_order)

pub pattern_automaton-requires-2-clause-closed : goal.pattern_automaton-requires-2-clause-closed
pattern_automaton-requires-2-clause-closed c = rw c.deref-2.ensures.value (IsClosedInOrder-subpatterns _ _ c.requires.right_order)

pub places-requires-clause-left_closed : goal.places-requires-clause-left_closed
places-requires-clause-left_closed c = rw c.deref-4.ensures.value (IsClosedInOrder-subpatterns _ _ c.requires.left_order)

pub places-requires-clause-right_closed : goal.places-requires-clause-right_closed
places-requires-clause-right_closed c = rw c.deref-5.ensures.value (IsClosedInOrder-subpatterns _ _ c.requires.right_order)

pub places-requires-clause-among : goal.places-requires-clause-among
places-requires-clause-among c =
    rw (c.deref-3.ensures.value, c.deref-4.ensures.value, c.deref-5.ensures.value)
    (sides_among (map as_pair c.args.list.now.rules.items) (map as_pattern c.args.list.now.lefts.items) (map as_pattern c.args.list.now.rights.items)
    c.requires.left_order c.requires.right_order)

pub returns-clause-states : goal.returns-clause-states
returns-clause-states c =
    let left = c.in_ok-left.ensures in
    let right = c.in_ok-right.ensures in
    record {
      left_states = record {
        states = rw c.deref.ensures.value at left.states ∙ sym (length-map c.args.list.now.lefts.items as_pattern);
        any = rw c.deref.ensures.value at left.any;
        moves = rw c.deref.ensures.value at left.moves;
        silent = left.silent;
      };
      right_states = record {
        states = rw c.deref-2.ensures.value at right.states ∙ sym (length-map c.args.list.now.rights.items as_pattern);
        any = rw c.deref-2.ensures.value at right.any;
        moves = rw c.deref-2.ensures.value at right.moves;
        silent = right.silent;
      };
      places = rw (c.deref-3.ensures.value, c.deref-4.ensures.value, c.deref-5.ensures.value) at c.in_ok-pairs.ensures;
    }

pub returns-clause-named : goal.returns-clause-named
returns-clause-named c =
    let agtt : Agtt = record { left = c.in_ok-left.left; right = c.in_ok-right.right; pairs = c.in_ok-pairs.pairs } in
    NamesItsStates-list (map as_pair c.args.list.now.rules.items) c.args.list.now c.requires agtt (returns-clause-states c)

pub returns-clause-numbered : goal.returns-clause-numbered
returns-clause-numbered c =
    let agtt : Agtt = record { left = c.in_ok-left.left; right = c.in_ok-right.right; pairs = c.in_ok-pairs.pairs } in
    let pairs : List Pair = map as_pair c.args.list.now.rules.items in
    IsNumbered-root_steps pairs agtt (root_steps_of pairs c.args.list.now c.requires agtt (returns-clause-states c))
    (omega (arith, (returns-clause-states c).left_states.states, length-map c.args.list.now.lefts.items as_pattern))
    (omega (arith, (returns-clause-states c).right_states.states, length-map c.args.list.now.rights.items as_pattern))
    (omega (arith, length-map c.args.list.now.rules.items as_pair))
