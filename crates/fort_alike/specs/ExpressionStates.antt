-- To believe: numbered states of two sides with pairs of them, where those of a node are computed from its symbol and those of its children.
use Rattle.std.specs.Prelude.{ℕ, List, Bool}

-- which states something has
abbrev pub Truths : Type 0
Truths = ℕ → Bool

-- how many states, and which ones a node has, by its symbol and its children's states; there may be more children's rows than children
pub record NodeStates : Type 0 where
  pub count : ℕ
  pub step : ℕ → List Truths → Truths

pub record ExpressionStates : Type 0 where
  pub left : NodeStates
  pub right : NodeStates
  pub pairs : List (ℕ × ℕ)
