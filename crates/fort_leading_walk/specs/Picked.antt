-- Inside: leaders that are chosen for some places, each with its index among those of its place.
use Rattle.std.specs.Prelude.{ℕ, List}

pub record Picked : Type 0 where
  pub indices : List ℕ
  pub leaders : List ℕ
