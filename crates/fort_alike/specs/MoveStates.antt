-- To believe: which states a node has by moves: a move's pattern holds at the node, and its target leads to the state.
use Rattle.std.specs.Prelude.{ℕ, List, [], ◌∷◌, None, Some, Bool, true, false, ◌&&◌, ◌==◌}
use Rattle.std.specs.List.{list_any}
use Rattle.fort_alike.specs.PatternNumbers.{PatternNumber}
use Rattle.fort_alike.specs.ExpressionStates.{Truths, NodeStates}

-- each child has its state; there may be more children's rows than states
abbrev pub all_have : List ℕ → List Truths → Bool
all_have [] rows = true
all_have (q ∷ qs) [] = false
all_have (q ∷ qs) (row ∷ rows) = row q && all_have qs rows

-- at a node with this symbol; None is every node
abbrev pub pattern_holds : PatternNumber → ℕ → List Truths → Bool
pattern_holds None f rows = true
pattern_holds (Some w) f rows = (w.0 == f) && all_have w.1 rows

-- the moves as a pattern of the children's states and a target; `leads p k` tells whether silent moves lead from p to k
abbrev pub move_states : ℕ → List (PatternNumber × ℕ) → (ℕ → ℕ → Bool) → NodeStates
move_states count moves leads = record {
  count = count;
  step = λ f rows k. list_any (λ (m : PatternNumber × ℕ). pattern_holds m.0 f rows && leads m.1 k) moves;
}
