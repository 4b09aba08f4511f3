use Rattle.fort_products.specs.Joints.{states_under, place_under}
use Rattle.fort_products.proofs.JointLaws.{LeadsTo, states_from}
use Rattle.fort_products.proofs.joint.Under.place.Given as goal

abbrev pub invariant-loop-j : goal.invariant-loop-j
invariant-loop-j l = LeadsTo l.list l.place (states_from l.self.at l.rows.labels l.kids l.j) (place_under l.list (states_under l.self l.rows.labels l.kids))
