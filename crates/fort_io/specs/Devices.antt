-- To believe: what a counted fault is, what a write does to the bytes that a sink took, and what a reader has given that is past a limit.
use Rattle.std.specs.Prelude.{◌≡◌, ℕ, ◌+◌, ◌-◌, ◌^◌, ◌<◌, ◌≤◌, min, List, ◌++◌, length, Option, Some, None}
use Rattle.std.specs.Io.KnownBytes.{Consumes}

-- one more, or the last value; a count of faults never falls, and stays once it stands at its last value
abbrev pub counted : ℕ → ℕ
counted n = min (n + 1) (2 ^ 64 - 1)

-- from old to new a fault was counted: the count rose, or it stands at its last value
abbrev pub FaultCounted : ℕ → ℕ → Type 0
FaultCounted old new = counted old ≤ new

-- from old to new the sink took these bytes, where it tells them; one that has ceased to tell never tells again
abbrev pub Takes : Option (List ℕ) → Option (List ℕ) → List ℕ → Type 0
Takes old None piece = Unit {0}
Takes None (Some after) piece = ⊥
Takes (Some before) (Some after) piece = after ≡ before ++ piece

-- from old to new a source gave more than the limit, by one piece: before the last piece it had given no more
pub record GivesPast (limit piece : ℕ) (old new : Option (List ℕ)) : Type 0 where
  pub front : List ℕ
  pub last : List ℕ
  pub within : length front ≤ limit
  pub one_piece : length last ≤ piece
  pub past : limit < length (front ++ last)
  pub given : Consumes old new (front ++ last)
