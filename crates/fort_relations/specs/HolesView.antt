-- To believe: which numbers of holes, and which places of them, of the definitions those of the program are.
use Rattle.std.specs.Prelude.{◌≡◌, refl}
use Rattle.fort_theory.specs.Contexts as theory
use Rattle.fort_relations.specs.declared.holes.Holes.{Holes}
use Rattle.fort_relations.specs.declared.holes.Holes.TheVariants.{One, Some, Any}
use Rattle.fort_relations.specs.declared.holes.Place.{Place}
use Rattle.fort_relations.specs.declared.holes.Place.TheVariants.{Root, Below, All}

abbrev pub as_hole_number : Holes → theory.HoleNumber
as_hole_number One = theory.OneHole
as_hole_number Some = theory.SomeHoles
as_hole_number Any = theory.AnyHoles

abbrev pub as_hole_place : Place → theory.HolePlace
as_hole_place Root = theory.AtTheRoot
as_hole_place Below = theory.BelowTheRoot
as_hole_place All = theory.AnyPlace

-- ---- and which ones of the program those of the definitions are

abbrev pub from_hole_number : theory.HoleNumber → Holes
from_hole_number theory.OneHole = One
from_hole_number theory.SomeHoles = Some
from_hole_number theory.AnyHoles = Any

abbrev pub from_hole_place : theory.HolePlace → Place
from_hole_place theory.AtTheRoot = Root
from_hole_place theory.BelowTheRoot = Below
from_hole_place theory.AnyPlace = All

pub from_hole_number-again : (holes : Holes) → from_hole_number (as_hole_number holes) ≡ holes
from_hole_number-again One = refl
from_hole_number-again Some = refl
from_hole_number-again Any = refl

pub from_hole_place-again : (place : Place) → from_hole_place (as_hole_place place) ≡ place
from_hole_place-again Root = refl
from_hole_place-again Below = refl
from_hole_place-again All = refl
