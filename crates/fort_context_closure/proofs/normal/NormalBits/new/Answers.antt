use Rattle.std.proofs.Common.{map, ◌∙◌, refl}
use Rattle.fort_theory.specs.Sides.{at_index}
use Rattle.fort_terms.specs.PatternView.{as_pattern}
use Rattle.fort_tree_automata.proofs.SubpatternsClosed.{IsClosedInOrder-subpatterns}
use Rattle.fort_alike.proofs.MarkSets.{NoneTwice-ordered}
use Rattle.fort_alike.proofs.SystemAtoms.{IsListedAtom-normal}
use Rattle.fort_context_closure.specs.declared.normal.NormalBits.TheInside.{Inside}
use Rattle.fort_context_closure.specs.NormalView.{normal_seen}
use Rattle.fort_context_closure.specs.SidePlaces.{AreSidesOf}
use Rattle.fort_label_bits.proofs.SidesListed.{Contains-left_side}
use Rattle.fort_context_closure.proofs.MakerLaws.{AreSubpatternsInOrder-none}
use Rattle.fort_context_closure.proofs.NormalMakerLaws.{sides-made}
use Rattle.fort_context_closure.proofs.normal.NormalBits.new.Goals as goal

pub number_patterns-requires : goal.number_patterns-requires
number_patterns-requires c = rw c.deref.ensures.value (IsClosedInOrder-subpatterns _ (map as_pattern c.in_ok-patterns.patterns.items) c.in_ok-patterns.ensures)

pub places_of_sides-requires-clause-closed : goal.places_of_sides-requires-clause-closed
places_of_sides-requires-clause-closed c =
    rw c.deref-2.ensures.value (IsClosedInOrder-subpatterns _ (map as_pattern c.in_ok-patterns.patterns.items) c.in_ok-patterns.ensures)

pub places_of_sides-requires-clause-among : goal.places_of_sides-requires-clause-among
places_of_sides-requires-clause-among c =
    rw (c.deref-2.ensures.value, c.rules.ensures.pairs)
    (Contains-left_side (at_index c.args.index c.args.system.now.rules) (map as_pattern c.in_ok-patterns.patterns.items) c.in_ok-patterns.ensures)

pub invariant_of-result : goal.invariant_of-result
invariant_of-result c =
    let sides : AreSidesOf (map as_pattern c.in_ok-patterns.patterns.items) (at_index c.args.index c.args.system.now.rules) c.in_ok-sides.sides.items =
    rw (c.deref-2.ensures.value, c.rules.ensures.pairs) at c.in_ok-sides.ensures in
    let b : Inside = record { patterns = c.in_ok-patterns.patterns; lefts = c.in_ok-lefts.lefts; sides = c.in_ok-sides.sides } in
    record {
      numbers = rw c.deref.ensures.value at c.in_ok-lefts.ensures.numbers;
      few = rw c.deref.ensures.value at c.in_ok-lefts.ensures.few;
      within = sides.within;
      once = NoneTwice-ordered (normal_seen b) c.in_ok-patterns.ensures.ordered AreSubpatternsInOrder-none.ordered;
    }

pub returns : goal.returns
returns c =
    let sides : AreSidesOf (map as_pattern c.in_ok-patterns.patterns.items) (at_index c.args.index c.args.system.now.rules) c.in_ok-sides.sides.items =
    rw (c.deref-2.ensures.value, c.rules.ensures.pairs) at c.in_ok-sides.ensures in
    record {
      same = refl;
      left_sides = sides-made (map as_pattern c.in_ok-patterns.patterns.items) c.in_ok-sides.sides.items ∙ sides.sides_are;
      is_listed = IsListedAtom-normal c.args.system.now c.rules.ensures.lawful c.args.index (map as_pattern c.in_ok-patterns.patterns.items) c.in_ok-patterns.ensures;
      left_order = c.in_ok-patterns.ensures;
    }
