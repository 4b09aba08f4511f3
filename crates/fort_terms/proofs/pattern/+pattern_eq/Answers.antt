use Rattle.fort_terms.specs.PatternKeyLaws.{args_eq}
use Rattle.fort_terms.proofs.pattern.+pattern_eq.Goals as goal

pub PatternsPartialEq::eq-returns : goal.PatternsPartialEq::eq-returns
PatternsPartialEq::eq-returns t c = rw (← c.self.view_is, ← c.other.view_is, c.eq.ensures) (args_eq c.self.inside.items.items c.other.inside.items.items)
