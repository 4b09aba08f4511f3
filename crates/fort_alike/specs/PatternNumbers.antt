-- To believe: a pattern by numbers: Any, or a symbol with the places of its arguments in a list of patterns; and its test at a node by the bits at those places.
use Rattle.std.specs.Prelude.{◌≡◌, ℕ, ◌+◌, ◌<◌, List, [], ◌∷◌, length, drop, Option, None, Some, get_or, Bool, true, false, ◌==◌, ◌&&◌}
use Rattle.fort_theory.specs.Patterns.{Pattern, Patterns, Any, At, NoPattern, MorePatterns}
use Rattle.fort_tables.specs.BitRows.{has_bit}

abbrev pub PatternNumber : Type 0
PatternNumber = Option (ℕ × List ℕ)

abbrev pub AreAt : List Pattern → List ℕ → Patterns → Type 0
AreAt listed [] NoPattern = Unit {0}
AreAt listed [] (MorePatterns p ps) = ⊥
AreAt listed (k ∷ ks) NoPattern = ⊥
AreAt listed (k ∷ ks) (MorePatterns p ps) = (k < length listed) × (get_or listed k Any ≡ p) × AreAt listed ks ps

abbrev pub IsNumberOf : List Pattern → PatternNumber → Pattern → Type 0
IsNumberOf listed None Any = Unit {0}
IsNumberOf listed None (At g ps) = ⊥
IsNumberOf listed (Some w) Any = ⊥
IsNumberOf listed (Some w) (At g ps) = (w.0 ≡ g) × AreAt listed w.1 ps

-- the bits of the list's patterns begin at this one, behind the first word of a label
abbrev pub all_at : ℕ → List ℕ → List (List ℕ) → Bool
all_at base [] ws = true
all_at base (k ∷ ks) [] = false
all_at base (k ∷ ks) (w ∷ ws) = has_bit (drop 1 w) (base + k) && all_at base ks ws

abbrev pub number_inside : ℕ → PatternNumber → Option ℕ → List (List ℕ) → Bool
number_inside base row None ws = false
number_inside base None (Some f) ws = true
number_inside base (Some w) (Some f) ws = (w.0 == f) && all_at base w.1 ws
