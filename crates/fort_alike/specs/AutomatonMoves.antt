-- Inside: when moves, and a test of what their targets lead to, are those of an automaton.
use Rattle.std.specs.Prelude.{◌↔◌, ℕ, ◌<◌, List, Contains, None, Some, Bool, Decides}
use Rattle.fort_reachability.specs.TreeAutomata.{Automaton}
use Rattle.fort_alike.specs.PatternNumbers.{PatternNumber}

-- by some number of silent moves, or none
pub data LeadsTo (automaton : Automaton ℕ) : ℕ → ℕ → Type 0 where
  NoMoves : {q : ℕ} → LeadsTo automaton q q
  MoreMoves : {p o q : ℕ} → LeadsTo automaton p o → automaton.HasSilentMove o q → LeadsTo automaton p q

pub record AreMovesOf (automaton : Automaton ℕ) (count : ℕ) (moves : List (PatternNumber × ℕ)) (leads : ℕ → ℕ → Bool) : Type 0 where
  pub any : (q : ℕ) → automaton.IsAny q ↔ Contains moves (None, q)
  pub each : (f : ℕ) (qs : List ℕ) (q : ℕ) → automaton.HasMove f qs q ↔ Contains moves (Some (f, qs), q)
  -- the states of the children are below the count
  pub kids_low : (f : ℕ) (qs : List ℕ) (q : ℕ) → Contains moves (Some (f, qs), q) → (p : ℕ) → Contains qs p → p < count
  pub led : (row : PatternNumber) (p : ℕ) → Contains moves (row, p) → (k : ℕ) → k < count → Decides (leads p k) (LeadsTo automaton p k)
