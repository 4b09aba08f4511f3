-- To believe: the columns of an optional tuple, or of a tuple symbol, at some places, in the order of the places; whether one of them is present.
use Rattle.std.specs.Prelude.{ℕ, ◌<◌, List, [], ◌∷◌, map, length, Option, None, Some, get_or, Bool, true, false}

-- column k is the one at place k of the list
abbrev pub selected : {A : Type 0} → List ℕ → List (Option A) → List (Option A)
selected places t = map (λ p. get_or t p None) places

abbrev pub is_present : {A : Type 0} → List (Option A) → Bool
is_present [] = false
is_present (None ∷ t) = is_present t
is_present (Some x ∷ t) = true

-- each is one of so many columns
abbrev pub ArePlaces : ℕ → List ℕ → Type 0
ArePlaces columns places = (k : ℕ) → k < length places → get_or places k 0 < columns
