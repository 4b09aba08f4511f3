-- To believe: what callers see of the sources and sinks over memory.
use Rattle.std.specs.Prelude.{ℕ, ◌+◌, List, ◌++◌, length, Option, Some, None, nat_le, if◌then◌else◌}

-- a source over memory: the bytes still to come, the most that a call moves, the numbers of the calls that fail,
-- how many calls there were (it stays at 2 ^ 64 - 1), and how many failed
pub record Replay : Type 0 where
  pub rest : List ℕ
  pub piece : ℕ
  pub fails : List ℕ
  pub calls : ℕ
  pub faults : ℕ

-- a sink over memory: the bytes that it took, how many it takes at most, and the rest as for a source
pub record Record : Type 0 where
  pub taken : List ℕ
  pub room : ℕ
  pub piece : ℕ
  pub fails : List ℕ
  pub calls : ℕ
  pub faults : ℕ

-- a sink that takes every piece whole, and tells what it took while all of it fits in its room
pub record Clear : Type 0 where
  pub taken : Option (List ℕ)
  pub room : ℕ

-- what a clear sink tells after one more piece
abbrev pub kept_within : ℕ → Option (List ℕ) → List ℕ → Option (List ℕ)
kept_within room None piece = None
kept_within room (Some taken) piece = if nat_le (length taken + length piece) room then Some (taken ++ piece) else None
