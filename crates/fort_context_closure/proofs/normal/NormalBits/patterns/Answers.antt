use Rattle.std.proofs.Common.{map, refl}
use Rattle.fort_alike.specs.Alike.{facts_of}
use Rattle.fort_alike.specs.Atoms.{NfKind}
use Rattle.fort_alike.specs.ListedAtoms.{OfBoth}
use Rattle.fort_context_closure.specs.NormalView.{normal_patterns}
use Rattle.fort_context_closure.proofs.LentPatterns.{side-listed, NoPatternTwice-marks}
use Rattle.fort_context_closure.proofs.normal.NormalBits.patterns.Goals as goal

pub returns-clause-patterns : goal.returns-clause-patterns
returns-clause-patterns c = rw (← c.self.view_is, c.deref.ensures.value) refl

pub returns-clause-few : goal.returns-clause-few
returns-clause-few c = rw c.deref.ensures.value c.self.invariant.few

pub returns-clause-once : goal.returns-clause-once
returns-clause-once c = rw (← c.self.view_is) (NoPatternTwice-marks (normal_patterns c.self.inside) (map OfBoth (facts_of NfKind)) c.self.invariant.once)

pub returns-clause-sides : goal.returns-clause-sides
returns-clause-sides c = rw (← c.self.view_is) (side-listed (normal_patterns c.self.inside) c.self.inside.sides.items c.self.invariant.within)

pub returns-clause-kind : goal.returns-clause-kind
returns-clause-kind c = rw (← c.self.view_is) refl

pub returns-clause-arguments : goal.returns-clause-arguments
returns-clause-arguments c = rw (← c.self.view_is) (refl, refl)

pub returns-clause-one_side : goal.returns-clause-one_side
returns-clause-one_side c = rw (← c.self.view_is) refl
