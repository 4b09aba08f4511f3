-- To believe: what has taken up some states may turn to a tuple symbol, up to a state that is no earlier.
use Rattle.std.specs.Prelude.{◌≡◌, ℕ, ◌+◌, ◌≤◌, List}
use Rattle.fort_theory.specs.Signatures.{Signature}
use Rattle.fort_tables.specs.Tuples.{TupleSymbol, IsTupleSymbol}
use Rattle.fort_entry_walk.specs.WalkPlaces.{wants}

-- the states with these labels before `until` are taken up
pub record MayTurn (knows : Signature → ℕ → List (List ℕ) → ℕ → Type 0) (sig : Signature) (columns : ℕ) (labels : List (List ℕ)) (until : ℕ) (f : TupleSymbol) (wanted : List ℕ) (newest : ℕ) : Type 0 where
  pub known : knows sig columns labels until
  pub forward : until ≤ newest + 1
  pub symbol : IsTupleSymbol sig columns f
  pub wanted_are : wanted ≡ wants sig f
