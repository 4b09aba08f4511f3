-- To believe: a table in the making replays one of leading entries where its states are the first ones of that, and each of its entries has the target that the led one has there.
use Rattle.std.specs.Prelude.{◌≡◌, ℕ, ◌<◌, ◌≤◌, length, get_or}
use Rattle.fort_tables.specs.Entries.{Entry, IsEntry}
use Rattle.fort_tables.specs.Tables.{Made}
use Rattle.fort_classes.specs.Leaders.{Leaders}
use Rattle.fort_classes.specs.LedTables.{led_target}

-- entries over the states so far, with the targets of their led ones among these states
pub record IsReplaying (lead : Leaders) (m r : Made) : Type 0 where
  pub signature : r.signature ≡ m.signature
  pub columns_are : r.columns ≡ m.columns
  pub few : length r.presences ≤ length m.presences
  pub presences : (q : ℕ) → q < length r.presences → get_or r.presences q 0 ≡ get_or m.presences q 0
  pub count : length r.targets ≡ length r.entries
  pub are : (k : ℕ) (d : Entry) → k < length r.entries → IsEntry r.signature r.columns r.presences (get_or r.entries k d)
  pub targets : (k : ℕ) (d : Entry) → k < length r.entries → get_or r.targets k 0 ≡ led_target lead m (get_or r.entries k d)
  pub within : (k : ℕ) → k < length r.targets → get_or r.targets k 0 < length r.presences
