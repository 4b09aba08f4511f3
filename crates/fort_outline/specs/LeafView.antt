-- To believe: which atom of the definitions an atom of the program is.
use Rattle.fort_theory.specs.Cores as theory
use Rattle.fort_relations.specs.RelView.{as_rel}
use Rattle.fort_relations.specs.HolesView.{as_hole_number, as_hole_place}
use Rattle.fort_relations.specs.RexView.{as_expression}
use Rattle.fort_outline.specs.declared.leaf.Leaf.{Leaf}
use Rattle.fort_outline.specs.declared.leaf.Leaf.TheVariants.{Related, InContext, Normal, IsTerm}

abbrev pub as_atom : Leaf → theory.Atom
as_atom (Related rel index x y) = theory.Related (as_rel rel) index x y
as_atom (InContext e holes place x y) = theory.InContext (as_expression e) (as_hole_number holes) (as_hole_place place) x y
as_atom (Normal index x) = theory.Normal index x
as_atom (IsTerm x t) = theory.IsTerm x t
