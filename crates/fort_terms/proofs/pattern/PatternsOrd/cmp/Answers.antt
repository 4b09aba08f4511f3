use Rattle.fort_terms.specs.PatternKeyLaws.{args_order}
use Rattle.fort_terms.proofs.pattern.PatternsOrd.cmp.Goals as goal

pub returns : goal.returns
returns c = rw (← c.self.view_is, ← c.other.view_is, c.cmp.ensures) (args_order c.self.inside.items.items c.other.inside.items.items)
