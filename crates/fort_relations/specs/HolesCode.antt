-- To believe: the place of a number of holes in the list of such numbers, and of a place of holes in the list of such places.
use Rattle.std.specs.Prelude.{◌≡◌, ℕ, [], ◌∷◌, slice_index_or, refl}
use Rattle.fort_theory.specs.Contexts.{HoleNumber, OneHole, SomeHoles, AnyHoles, HolePlace, AtTheRoot, BelowTheRoot, AnyPlace}

abbrev pub hole_number_code : HoleNumber → ℕ
hole_number_code OneHole = 0
hole_number_code SomeHoles = 1
hole_number_code AnyHoles = 2

abbrev pub hole_place_code : HolePlace → ℕ
hole_place_code AtTheRoot = 0
hole_place_code BelowTheRoot = 1
hole_place_code AnyPlace = 2

abbrev pub hole_number_at : ℕ → HoleNumber
hole_number_at code = slice_index_or (OneHole ∷ SomeHoles ∷ AnyHoles ∷ []) code OneHole

abbrev pub hole_place_at : ℕ → HolePlace
hole_place_at code = slice_index_or (AtTheRoot ∷ BelowTheRoot ∷ AnyPlace ∷ []) code AtTheRoot

pub hole_number_again : (number : HoleNumber) → hole_number_at (hole_number_code number) ≡ number
hole_number_again OneHole = refl
hole_number_again SomeHoles = refl
hole_number_again AnyHoles = refl

pub hole_place_again : (place : HolePlace) → hole_place_at (hole_place_code place) ≡ place
hole_place_again AtTheRoot = refl
hole_place_again BelowTheRoot = refl
hole_place_again AnyPlace = refl
