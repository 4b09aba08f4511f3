-- Inside: what a projection keeps from one entry to the next.
use Rattle.std.specs.Prelude.{◌≡◌, ◌≢◌, ℕ, ◌+◌, ◌-◌, ◌<◌, ◌≤◌, List, [], length, get_or}
use Rattle.fort_tables.specs.Tuples.{TupleSymbol}
use Rattle.fort_tables.specs.Tables.{Table}
use Rattle.fort_tables.specs.BitRows.{words_for}
use Rattle.fort_tables.specs.Projections.{has_state}
use Rattle.fort_projections.specs.Scopes.{some_gives}
use Rattle.fort_projections.specs.declared.scope.Scope.{Scope}
use Rattle.fort_projections.specs.declared.scope.Scope.TheVariants.{With}
use Rattle.fort_projections.specs.declared.images.Images.{Images}

-- child v in state s alone
abbrev pub with_state : ℕ → ℕ → Scope
with_state v s = With (record { place = v; state = s })

-- the set is what the symbols with a child at the place kept give over the entry kept, with this state there
abbrev pub IsImage : Table → ℕ → Images → ℕ → List ℕ → Type 0
IsImage body c images s w = (q : ℕ) → has_state w q ≡ some_gives body c images.key.symbol images.labels.labels (with_state images.place s) q

-- the image that a state has by its number
pub record IsSlot (body : Table) (c : ℕ) (images : Images) (s slot : ℕ) : Type 0 where
  pub within : slot ≤ length images.images.labels
  pub wide : length (get_or images.images.labels (slot - 1) []) ≡ words_for (length body.presences) + 2
  pub is : IsImage body c images s (get_or images.images.labels (slot - 1) [])

pub record AreImages (body : Table) (c : ℕ) (images : Images) : Type 0 where
  pub slots : length images.slots.items ≡ length body.presences
  pub label_width : images.labels.width ≡ words_for (length body.presences) + 2
  pub label_room : images.labels.room ≡ 8
  pub width : images.images.width ≡ words_for (length body.presences) + 2
  pub image : length images.image.items ≡ words_for (length body.presences) + 2
  pub room : images.room ≡ images.images.room
  pub few : images.room ≤ length body.presences
  pub made : (s : ℕ) → 0 < get_or images.slots.items s 0 → IsSlot body c images s (get_or images.slots.items s 0)

-- the images belong to entries with this symbol and these labels of the children, apart from one
pub record IsKeyOf (images : Images) (f : TupleSymbol) (ws : List (List ℕ)) : Type 0 where
  pub symbol : images.key.symbol ≡ f
  pub place : images.place < length ws
  pub count : length images.labels.labels ≡ length ws
  pub others : (j : ℕ) → j < length ws → j ≢ images.place → get_or images.labels.labels j [] ≡ get_or ws j []
