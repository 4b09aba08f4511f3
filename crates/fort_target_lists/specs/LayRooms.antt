-- To believe: the room in which tables' states and targets are laid.
use Rattle.std.specs.Prelude.{ℕ, suc, ◌^◌, ◌≤◌, vec_capacity}
use Rattle.fort_target_lists.specs.declared.flat.Spots.{Spots}
use Rattle.fort_target_lists.specs.declared.flat.FlatTargets.{FlatTargets}
use Rattle.fort_target_lists.specs.declared.states.LayRoom.{LayRoom}

-- room for so many states, for a number of each presence below a bound, and for a cursor of each stage
pub record HasLayRoomBelow (bound states : ℕ) (room : LayRoom) : Type 0 where
  pub counts : bound ≤ vec_capacity room.counts
  pub firsts : bound ≤ vec_capacity room.chains.firsts
  pub nexts : states ≤ vec_capacity room.chains.nexts
  pub cursors : suc states ≤ vec_capacity room.cursors

-- the same, for every presence that there may be
abbrev pub HasLayRoom : ℕ → LayRoom → Type 0
HasLayRoom states room = HasLayRoomBelow (2 ^ 16) states room

-- room for what is said of each state
pub record HasSpotRoom (states : ℕ) (spots : Spots) : Type 0 where
  pub ranks : states ≤ vec_capacity spots.ranks
  pub alike : states ≤ vec_capacity spots.alike

-- room for a list of so many states, tuple symbols and targets
pub record HasFlatRoom (states symbols entries : ℕ) (flat : FlatTargets) : Type 0 where
  pub spots : HasSpotRoom states flat.spots
  pub starts : symbols ≤ vec_capacity flat.listing.starts
  pub targets : entries ≤ vec_capacity flat.listing.targets
