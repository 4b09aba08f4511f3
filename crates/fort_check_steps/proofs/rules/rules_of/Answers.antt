use Rattle.std.proofs.Common.{List, map, refl, arith}
use Rattle.std.proofs.lemmas.List.{length-map}
use Rattle.fort_theory.specs.Sides.{at_index}
use Rattle.fort_theory.specs.Patterns.{Pattern, Pair}
use Rattle.fort_terms.specs.PatternView.{as_pattern}
use Rattle.fort_tree_automata.proofs.SubpatternsClosed.{IsClosedInOrder-subpatterns}
use Rattle.fort_certificate_theory.specs.ClosureSteps.{ClosureRules}
use Rattle.fort_label_bits.proofs.SidesListed.{Contains-left_side, Contains-right_side}
use Rattle.fort_check_steps.proofs.rules.rules_of.Goals as goal

pub number_patterns-requires : goal.number_patterns-requires
number_patterns-requires c = rw c.deref.ensures.value (IsClosedInOrder-subpatterns _ (map as_pattern c.in_ok-lefts.lefts.items) c.in_ok-lefts.ensures)

pub number_patterns-requires-2 : goal.number_patterns-requires-2
number_patterns-requires-2 c = rw c.deref-2.ensures.value (IsClosedInOrder-subpatterns _ (map as_pattern c.in_ok-rights.rights.items) c.in_ok-rights.ensures)

pub places_of_rules-requires-clause-left_closed : goal.places_of_rules-requires-clause-left_closed
places_of_rules-requires-clause-left_closed c = rw c.deref-3.ensures.value (IsClosedInOrder-subpatterns _ (map as_pattern c.in_ok-lefts.lefts.items) c.in_ok-lefts.ensures)

pub places_of_rules-requires-clause-right_closed : goal.places_of_rules-requires-clause-right_closed
places_of_rules-requires-clause-right_closed c = rw c.deref-4.ensures.value (IsClosedInOrder-subpatterns _ (map as_pattern c.in_ok-rights.rights.items) c.in_ok-rights.ensures)

pub places_of_rules-requires-clause-among : goal.places_of_rules-requires-clause-among
places_of_rules-requires-clause-among c =
    rw (c.rules.ensures.pairs, c.deref-3.ensures.value, c.deref-4.ensures.value)
    (λ pair k. (
      Contains-left_side (at_index c.args.index c.args.system.now.rules) (map as_pattern c.in_ok-lefts.lefts.items) c.in_ok-lefts.ensures pair k,
      Contains-right_side (at_index c.args.index c.args.system.now.rules) (map as_pattern c.in_ok-rights.rights.items) c.in_ok-rights.ensures pair k,
    ))

pub returns : goal.returns
returns c =
    let pairs : List Pair = at_index c.args.index c.args.system.now.rules in
    let lefts : List Pattern = map as_pattern c.in_ok-lefts.lefts.items in
    let rights : List Pattern = map as_pattern c.in_ok-rights.rights.items in
    let k : ClosureRules = record { pairs = pairs; rights = rights; lefts = lefts } in (
      k,
      refl,
      record {
        patterns = record { left = c.in_ok-lefts.ensures; right = c.in_ok-rights.ensures };
        rights = rw c.deref-2.ensures.value at c.in_ok-right_numbers.ensures.numbers;
        lefts = rw c.deref.ensures.value at c.in_ok-left_numbers.ensures.numbers;
        rules = rw (c.rules.ensures.pairs, c.deref-3.ensures.value, c.deref-4.ensures.value) at c.in_ok-rules.ensures;
      },
      record {
        rights = omega (arith, rw c.deref-2.ensures.value at c.in_ok-right_numbers.ensures.few, length-map c.in_ok-rights.rights.items as_pattern);
        lefts = omega (arith, rw c.deref.ensures.value at c.in_ok-left_numbers.ensures.few, length-map c.in_ok-lefts.lefts.items as_pattern);
      },
    )
