-- To believe: which formula of the definitions a formula of the program is.
use Rattle.std.specs.Prelude.{ℕ, suc, ◌+◌, option_map}
use Rattle.fort_logic.specs.Formulas as theory
use Rattle.fort_relations.specs.HolesView.{as_hole_number, as_hole_place}
use Rattle.fort_relations.specs.RexView.{as_expression}
use Rattle.fort_formulas.specs.declared.surface.SurfaceRel.{SurfaceRel}
use Rattle.fort_formulas.specs.declared.surface.SurfaceRel.TheVariants.{Eq, Step, Star, Plus, Reflexive, Normal, Root, Below, Par, Either, Conv}
use Rattle.fort_formulas.specs.declared.surface.Macro as property
use Rattle.fort_formulas.specs.declared.surface.Macro.TheVariants.{Cr, Wcr, Scr, Wn, Unr, Unc, Nfp}
use Rattle.fort_formulas.specs.declared.surface.Arg.{Arg}
use Rattle.fort_formulas.specs.declared.surface.Arg.TheVariants.{Var, Ground}
use Rattle.fort_formulas.specs.declared.surface.Formula.{Formula}
use Rattle.fort_formulas.specs.declared.surface.Formula.TheVariants.{True, False, Rel, Rex, Nf, Join, Sn, Macro, Com, Not, And, Or, Imp, Iff, Exists, Forall, Infinite}

abbrev pub as_surface_rel : SurfaceRel → theory.SurfaceRel
as_surface_rel Eq = theory.Eq
as_surface_rel Step = theory.Step
as_surface_rel Star = theory.Star
as_surface_rel Plus = theory.Plus
as_surface_rel Reflexive = theory.Reflexive
as_surface_rel Normal = theory.Normal
as_surface_rel Root = theory.Root
as_surface_rel Below = theory.Below
as_surface_rel Par = theory.Par
as_surface_rel Either = theory.Either
as_surface_rel Conv = theory.Conv

abbrev pub as_property : property.Macro → theory.Property
as_property Cr = theory.Cr
as_property Wcr = theory.Wcr
as_property Scr = theory.Scr
as_property Wn = theory.Wn
as_property Unr = theory.Unr
as_property Unc = theory.Unc
as_property Nfp = theory.Nfp

abbrev pub as_argument : Arg → theory.Argument
as_argument (Var x) = theory.Var x
as_argument (Ground k) = theory.Ground k

abbrev pub as_formula : Formula → theory.Formula
as_formula True = theory.True
as_formula False = theory.False
as_formula (Rel rel a b index) = theory.Related (as_surface_rel rel) (as_argument a) (as_argument b) index
as_formula (Rex e holes place a b) = theory.InContext (as_expression e) (as_hole_number holes) (as_hole_place place) (as_argument a) (as_argument b)
as_formula (Nf a index) = theory.Nf (as_argument a) index
as_formula (Join a b index) = theory.Join (as_argument a) (as_argument b) index
as_formula (Sn a index) = theory.Sn (option_map as_argument a) index
as_formula (Macro m index) = theory.Has (as_property m) index
as_formula Com = theory.Com
as_formula (Not f) = theory.Not f
as_formula (And f g) = theory.And f g
as_formula (Or f g) = theory.Or f g
as_formula (Imp f g) = theory.Imp f g
as_formula (Iff f g) = theory.Iff f g
as_formula (Exists x f) = theory.Exists x f
as_formula (Forall x f) = theory.Forall x f
as_formula (Infinite x f) = theory.Infinite x f

-- the number of nodes
abbrev pub node_count : theory.Formula → ℕ
node_count theory.True = 1
node_count theory.False = 1
node_count (theory.Related rel a b index) = 1
node_count (theory.InContext e number place a b) = 1
node_count (theory.Nf a index) = 1
node_count (theory.Join a b index) = 1
node_count (theory.Sn a index) = 1
node_count (theory.Has p index) = 1
node_count theory.Com = 1
node_count (theory.Not f) = suc (node_count f)
node_count (theory.And f g) = suc (node_count f + node_count g)
node_count (theory.Or f g) = suc (node_count f + node_count g)
node_count (theory.Imp f g) = suc (node_count f + node_count g)
node_count (theory.Iff f g) = suc (node_count f + node_count g)
node_count (theory.Exists x f) = suc (node_count f)
node_count (theory.Forall x f) = suc (node_count f)
node_count (theory.Infinite x f) = suc (node_count f)
