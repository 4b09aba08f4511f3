-- The left sides of rules by the places of their left sides are the patterns at these places.
use Rattle.std.specs.Prelude.{◌≡◌, ℕ, List, [], ◌∷◌, map, get_or, refl}
use Rattle.std.proofs.Common.{ap}
use Rattle.fort_theory.specs.Patterns.{Pattern, Any, Pair}
use Rattle.fort_context_closure.specs.SidePlaces.{side_at}

pub sides-made : (lefts : List Pattern) (sides : List ℕ) → map (λ (pair : Pair). pair.0) (map (side_at lefts) sides) ≡ map (λ k. get_or lefts k Any) sides
sides-made lefts [] = refl
sides-made lefts (k ∷ sides) = ap (λ ps. get_or lefts k Any ∷ ps) (sides-made lefts sides)
