-- To believe: lists of digits in a base, lists of numbers up to a greatest, and the list of digits that a number has.
use Rattle.std.specs.Prelude.{◌≡◌, ℕ, zero, suc, ◌/◌, ◌%◌, ◌^◌, ◌≤◌, List, [], ◌∷◌, length}
use Rattle.std.specs.Int.Digits.{AllBelowBase}

-- each up to this number
abbrev pub AreUpTo : ℕ → List ℕ → Type 0
AreUpTo m [] = Unit {0}
AreUpTo m (k ∷ ks) = (k ≤ m) × AreUpTo m ks

-- that many digits, each below the base
pub record AreDigits (base columns : ℕ) (ds : List ℕ) : Type 0 where
  pub width : length ds ≡ columns
  pub below : AllBelowBase base ds

-- the digits of a number below base ^ columns, the first one counting most
abbrev pub digits_at : ℕ → ℕ → ℕ → List ℕ
digits_at base zero n = []
digits_at base (suc c) n = (n / base ^ c) ∷ digits_at base c (n % base ^ c)
