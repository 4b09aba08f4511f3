-- To believe: the rank of a state is how many of the states before it have its presence.
use Rattle.std.specs.Prelude.{◌≡◌, ℕ, ◌<◌, List, length, get_or}
use Rattle.fort_entry_walk.specs.Walks.{states_with}

-- each state's rank among the states of its presence
pub record AreRanks (presences ranks : List ℕ) : Type 0 where
  pub count : length ranks ≡ length presences
  pub each : (q : ℕ) → q < length presences → get_or ranks q 0 ≡ length (states_with presences (get_or presences q 0) 0 q)
