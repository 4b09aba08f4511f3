use Rattle.std.proofs.Common.{refl}
use Rattle.fort_context_closure.specs.RelationView.{left_patterns, right_patterns}
use Rattle.fort_context_closure.proofs.LentPatterns.{right-listed}
use Rattle.fort_context_closure.proofs.relation.RelationBits.right_patterns.Goals as goal

pub returns-clause-patterns : goal.returns-clause-patterns
returns-clause-patterns c = rw (← c.self.view_is, c.deref.ensures.value) refl

pub returns-clause-few : goal.returns-clause-few
returns-clause-few c = rw c.deref.ensures.value c.self.invariant.right_few

pub returns-clause-once : goal.returns-clause-once
returns-clause-once c = rw (← c.self.view_is) c.self.invariant.right_once

pub returns-clause-sides : goal.returns-clause-sides
returns-clause-sides c =
    rw (← c.self.view_is) (right-listed (left_patterns c.self.inside) (right_patterns c.self.inside) c.self.inside.rules.items c.self.invariant.within)
