-- Inside: what the fields of the patterns for one argument stand for.
use Rattle.std.specs.Prelude.{◌<◌, ◌^◌, List, map, length}
use Rattle.std.specs.Coded.{Coded, coded_list}
use Rattle.fort_theory.specs.Patterns.{Pattern}
use Rattle.fort_theory.specs.PatternCode.{pattern_code}
use Rattle.fort_terms.specs.PatternView.{as_pattern}
use Rattle.fort_label_bits.specs.NumberedView.{AreNumbersOf}
use Rattle.fort_mark_keys.specs.AskedPlaces.{NoneListedTwice}
use Rattle.fort_mark_keys.specs.declared.side.Side.TheInside.{Inside}

abbrev pub patterns_code : Coded (List Pattern)
patterns_code = coded_list pattern_code

abbrev pub patterns_seen : Inside → List Pattern
patterns_seen s = map as_pattern s.patterns.now

pub record IsSide (s : Inside) : Type 0 where
  pub numbers : AreNumbersOf (patterns_seen s) s.numbers.now
  pub few : length s.patterns.now < 2 ^ 32
  pub once : NoneListedTwice (patterns_seen s)
