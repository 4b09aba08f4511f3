use Rattle.std.proofs.Common.{map, arith}
use Rattle.std.proofs.lemmas.List.{length-map}
use Rattle.std.proofs.lemmas.Option.{get_or_from_slice_get}
use Rattle.fort_theory.specs.Patterns.{Any}
use Rattle.fort_terms.specs.PatternView.{as_pattern}
use Rattle.fort_tree_automata.proofs.PatternMovesLaws.{StandsAt-below}
use Rattle.fort_label_bits.proofs.numbered.place_of.Goals as goal

pub returns-clause-within : goal.returns-clause-within
returns-clause-within c =
    omega (arith, StandsAt-below (map as_pattern c.args.patterns.now) c.place.result (as_pattern c.args.pattern.now) c.place.ensures, length-map c.args.patterns.now as_pattern)

pub returns-clause-at : goal.returns-clause-at
returns-clause-at c = get_or_from_slice_get (map as_pattern c.args.patterns.now) c.place.result (as_pattern c.args.pattern.now) Any c.place.ensures
