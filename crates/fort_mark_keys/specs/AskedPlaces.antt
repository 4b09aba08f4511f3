-- Inside: an argument of a pattern by its place, and the bits of the arguments that are asked.
use Rattle.std.specs.Prelude.{◌≡◌, ℕ, ◌+◌, ◌<◌, List, Option, None, Some, get_or, slice_get, length, Bool, false, ◌&&◌, ◌==◌, if◌then◌else◌}
use Rattle.fort_theory.specs.Patterns.{Pattern, Any}
use Rattle.fort_alike.specs.AtomRules.{is_there}
use Rattle.fort_alike.specs.PatternNumbers.{PatternNumber}
use Rattle.fort_label_bits.specs.RootPlaces.{root_of}

-- the place of argument j of a pattern whose root is this symbol
abbrev pub argument : Option ℕ → ℕ → PatternNumber → Option ℕ
argument None j p = None
argument (Some f) j None = None
argument (Some f) j (Some w) = if w.0 == f then slice_get w.1 j else None

-- whether this bit is that of a place, where the pattern isn't Any
abbrev pub is_bit_at : ℕ → List PatternNumber → ℕ → Option ℕ → Bool
is_bit_at base patterns q None = false
is_bit_at base patterns q (Some k) = is_there (root_of (get_or patterns k None)) && (base + k == q)

abbrev pub adds_bit : ℕ → List PatternNumber → Option ℕ → ℕ → ℕ → PatternNumber → Bool
adds_bit base patterns x j q p = is_bit_at base patterns q (argument x j p)

-- each argument of each pattern has a place among them
abbrev pub HaveArgumentsWithin : List PatternNumber → Type 0
HaveArgumentsWithin patterns = (i : ℕ) (x : Option ℕ) (j k : ℕ) → i < length patterns → argument x j (get_or patterns i None) ≡ Some k → k < length patterns

-- no pattern stands twice in the list
abbrev pub NoneListedTwice : List Pattern → Type 0
NoneListedTwice ps = (i j : ℕ) → i < j → j < length ps → get_or ps i Any ≡ get_or ps j Any → ⊥
