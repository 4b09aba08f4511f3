use Rattle.std.proofs.Common.{map, arith}
use Rattle.std.proofs.lemmas.List.{length-map}
use Rattle.fort_terms.specs.PatternView.{as_pair, as_pattern}
use Rattle.fort_label_bits.proofs.RulePlaceLaws.{ArePlacesOf-one}
use Rattle.fort_label_bits.proofs.rule_places.places_of_rule.Goals as goal

pub returns : goal.returns
returns c =
    ArePlacesOf-one (map as_pattern c.args.lefts.now) (map as_pattern c.args.rights.now) (as_pair c.args.rule.now) (record { left = _; right = _ })
    (omega (arith, c.place_of.ensures.within, length-map c.args.lefts.now as_pattern))
    (omega (arith, c.place_of-2.ensures.within, length-map c.args.rights.now as_pattern)) c.place_of.ensures.at c.place_of-2.ensures.at
