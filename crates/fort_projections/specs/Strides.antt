-- Inside: the targets that one child's states give, each other child being in one state.
use Rattle.std.specs.Prelude.{ℕ, ◌+◌, ◌*◌, ◌^◌, ◌<◌, length, get_or}
use Rattle.fort_target_lists.specs.Places.{is_state_in}
use Rattle.fort_projections.specs.declared.marks.Stride.{Stride}

-- the place of a state behind those before it
abbrev pub place_with : Stride → ℕ → ℕ
place_with stride k = stride.place * get_or stride.flat.now.spots.alike.items k 0 + get_or stride.flat.now.spots.ranks.items k 0

-- where the target is
abbrev pub place_at : Stride → ℕ → ℕ
place_at stride k = stride.start + (place_with stride k * stride.times + stride.plus)

abbrev pub read_at : Stride → ℕ → ℕ
read_at stride k = get_or stride.flat.now.listing.targets.items (place_at stride k) 0

pub record IsReadable (stride : Stride) (k : ℕ) : Type 0 where
  pub state : is_state_in stride.flat.now.spots k
  pub few : place_with stride k < 2 ^ 64
  pub within : place_at stride k < length stride.flat.now.listing.targets.items
