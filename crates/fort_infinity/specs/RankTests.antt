-- Inside: whether a state has its rank from an earlier round.
use Rattle.std.specs.Prelude.{◌≡◌, ℕ, ◌<◌, ◌≤◌, ◌⊎◌, List, get_or}

-- ranked in an earlier round than r
abbrev pub IsEarlier : List ℕ → ℕ → ℕ → Type 0
IsEarlier ranks r k = (0 < get_or ranks k 0) × (get_or ranks k 0 ≤ r)

-- without a rank, or ranked in round r
abbrev pub IsOpen : List ℕ → ℕ → ℕ → Type 0
IsOpen ranks r k = (get_or ranks k 0 ≡ 0) ⊎ (r < get_or ranks k 0)
