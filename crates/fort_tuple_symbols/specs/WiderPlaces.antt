-- To believe: a list of numbers that reaches further, by zeros.
use Rattle.std.specs.Prelude.{◌≡◌, ℕ, ◌<◌, ◌≤◌, ◌^◌, ◌⊎◌, List, length, get_or}

-- the same places, and zeros for numbers up to this one and for some more
pub record IsWider (number : ℕ) (old new : List ℕ) : Type 0 where
  pub reaches : number < length new
  pub wider : length old ≤ length new
  pub few : (length new ≡ length old) ⊎ (length new ≤ 2 ^ 27)
  pub same : (k : ℕ) → k < length old → get_or new k 0 ≡ get_or old k 0
  pub zeros : (k : ℕ) → length old ≤ k → k < length new → get_or new k 0 ≡ 0
